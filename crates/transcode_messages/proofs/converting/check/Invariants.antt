-- the ledger is that of the blank
use Rattle.transcode_messages.proofs.converting.check.Given as goal

abbrev pub ghosts-check_counted : goal.ghosts-check_counted
ghosts-check_counted a = record { name = a.blank.name; parts = a.blank.parts }
