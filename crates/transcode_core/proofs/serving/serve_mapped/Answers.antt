use Rattle.std.proofs.Common.{refl, inl, inr, arith}
use Rattle.transcode_core.specs.Preparing.{prepared_seen}
use Rattle.transcode_core.specs.Private.Seen.{opened_seen}
use Rattle.transcode_core.proofs.Requests.Served.{serves_memory, serves_same}
use Rattle.transcode_core.proofs.serving.serve_mapped.Goals as goal

pub returns-in-Ok : goal.returns-in-Ok
returns-in-Ok g c =
    serves_same c.args.task (prepared_seen c.in-Ok.prepared) (opened_seen c.args.opened) _ _ _ _ _ _ c.serve_prepared.result c.in-Ok.ensures c.serve_prepared.ensures

pub returns-in-Err : goal.returns-in-Err
returns-in-Err g c =
    serves_memory c.args.task (opened_seen c.args.opened) _ _ _ _ _ _ c.in-Err.outcome (elim c.in-Err.ensures [ inl none ↦ absurd none.0 | inr memory ↦ memory ]) refl refl (omega arith) (omega arith) refl
