use Rattle.std.proofs.Common.{ap, refl, inl, inr}
use Rattle.transcode_words.specs.declared.asked.Task.TheVariants.{Check, Send, Receive}
use Rattle.transcode_core.specs.Preparing.{prepared_seen}
use Rattle.transcode_core.proofs.Requests.Served.{serves_made, nothing_back}
use Rattle.transcode_core.proofs.Requests.Recording.{serves_each, looks_at_none}
use Rattle.transcode_core.proofs.serving.serve_prepared.Goals as goal

pub returns-in-Check : goal.returns-in-Check
returns-in-Check g c =
    rw c.in-Check.is (serves_made Check (λ root files. tt) (prepared_seen c.args.prepared.now) _ _ _ _ _ _ (λ same. ap g.K.Sink.written same) (inr tt) c.check_input.ensures.later c.deliver.ensures.later
    (λ root files. c.check_input.ensures.few) c.check_input.result c.deliver.result c.check_input.ensures.due (nothing_back c.check_input.result) c.check_input.ensures.end c.check_input.ensures.stage
    (λ root files seen. c.check_input.ensures.many) c.deliver.ensures.written)

pub returns-in-Send : goal.returns-in-Send
returns-in-Send g c =
    rw c.in-Send.is (serves_made (Send c.in-Send.syntax c.in-Send.stamped) (λ root files. tt) (prepared_seen c.args.prepared.now) _ _ _ _ _ _ (λ same. ap g.K.Sink.written same) (inr tt) c.send.ensures.later c.deliver-in-Send.ensures.later
    (λ root files. c.send.ensures.few) c.send.result c.deliver-in-Send.result c.send.ensures.due (nothing_back c.send.result) c.send.ensures.end c.send.ensures.stage
    (λ root files seen. c.send.ensures.many) c.deliver-in-Send.ensures.written)

pub returns-in-Receive : goal.returns-in-Receive
returns-in-Receive g c =
    rw c.in-Receive.is (serves_made (Receive c.in-Receive.syntax c.in-Receive.stamped) (λ root files. tt) (prepared_seen c.args.prepared.now) _ _ _ _ _ _ (λ same. ap g.K.Sink.written same) (inr c.receive.ensures.taken) c.receive.ensures.later c.deliver-in-Receive.ensures.later
    (λ root files. inl refl) c.receive.result c.deliver-in-Receive.result c.receive.ensures.due c.receive.ensures.back c.receive.ensures.end c.receive.ensures.stage
    (λ root files seen. absurd (looks_at_none seen)) c.deliver-in-Receive.ensures.written)

pub returns-in-Each : goal.returns-in-Each
returns-in-Each g c =
    let s = c.write_each.ensures.streams in
    rw c.in-Each.is (serves_each (prepared_seen c.args.prepared.now) s.0 s.1 _ _ _ _ _ _ c.write_each.result s.2 s.3 c.write_each.ensures.end c.write_each.ensures.reads c.write_each.ensures.writes refl)
