use Rattle.transcode_core.proofs.counting.run_counted.Goals as goal

pub returns : goal.returns
returns g c = (c.run.new.steps, rw c.new-steps.ensures at c.run.ensures)
