use Rattle.transcode_words.specs.AskedSeen.{asked_seen}
use Rattle.people_results.proofs.Serving.{finished}
use Rattle.ruvkhiska.proofs.finish.Goals as goal

pub returns : goal.returns
returns c = (
  c.answer_in-answered.ensures.0,
  rw c.finish.ensures.same
      (finished (asked_seen c.args.asked) _ _ _ _ c.answer_in-answered.result c.answer_in-answered.ensures.1 c.finish.result c.finish.ensures.result),
)
