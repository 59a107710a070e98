-- the ledger is that of the blank
use Rattle.transcode_core.proofs.counting.run_in.Given as goal

abbrev pub ghosts-run_counted : goal.ghosts-run_counted
ghosts-run_counted g a = record { name = a.blank.name; parts = a.blank.parts }
