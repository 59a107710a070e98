use Rattle.std.proofs.Common.{ap, inr}
use Rattle.transcode_words.specs.declared.asked.Task.TheVariants.{Check}
use Rattle.transcode_core.specs.Private.Seen.{opened_seen}
use Rattle.transcode_core.proofs.Requests.Served.{serves_made, nothing_back}
use Rattle.transcode_core.proofs.serving.serve_task.Goals as goal

pub returns-in-Check : goal.returns-in-Check
returns-in-Check g c =
    rw c.in-Check.is (serves_made Check (λ root files. tt) (opened_seen c.args.opened) _ _ _ _ _ _ (λ same. ap g.K.Sink.written same) (inr tt) c.check_input.ensures.later c.deliver.ensures.later
    (λ root files. c.check_input.ensures.few) c.check_input.result c.deliver.result c.check_input.ensures.due (nothing_back c.check_input.result) c.check_input.ensures.end c.check_input.ensures.stage
    (λ root files seen. c.check_input.ensures.many) c.deliver.ensures.written)
