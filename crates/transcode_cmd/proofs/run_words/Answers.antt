use Rattle.std.proofs.Common.{inl, inr}
use Rattle.transcode_core.proofs.Unseen.{runs_unseen}
use Rattle.transcode_cmd.proofs.run_words.Goals as goal

pub returns : goal.returns
returns c = inr (_, _, _, _, runs_unseen _ _ _ _ _ _ _ _ c.run_in.ensures.1)
