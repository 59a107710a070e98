use Rattle.transcode_core.specs.Preparing.{prepared_seen}
use Rattle.transcode_core.proofs.Trials.{opened_trial}
use Rattle.transcode_core.proofs.trial.open_trial.Goals as goal

pub returns : goal.returns
returns c = opened_trial prepared_seen c.in-Ok-Ok.files.entries c.in-Ok-Ok.name c.in-Ok-Ok.files.faults c.open.new.files.faults c.open.result c.in-Ok-Ok.ensures'.0 c.in-Ok-Ok.ensures c.open.ensures.due
