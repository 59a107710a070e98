-- the ledger is that of the blank
use Rattle.transcode_messages.proofs.converting.encode.Given as goal

abbrev pub ghosts-encode_counted : goal.ghosts-encode_counted
ghosts-encode_counted a = record { name = a.blank.name; parts = a.blank.parts }
