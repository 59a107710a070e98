use Rattle.std.proofs.Common.{inl, inr}
use Rattle.std.proofs.lemmas.Result.{err_from_is_err_and}
use Rattle.transcode_core.proofs.prepared.Prepared.of.Goals as goal

pub returns-in_err-typed : goal.returns-in_err-typed
returns-in_err-typed c =
    let p = err_from_is_err_and c.from_residual.result c.from_residual.ensures.1 in
    rw (p.1, p.2) (elim c.in_err-typed.ensures.due [
      | inl (none, own) ↦ absurd none
      | inr memory ↦ inr memory
    ])
