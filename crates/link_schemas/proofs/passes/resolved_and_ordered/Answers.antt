use Rattle.std.proofs.Common.{map, ◌∷◌, []}
use Rattle.std.proofs.lemmas.Result.{err_from_is_err_and}
use Rattle.schema_components.specs.Documents.{doc_of}
use Rattle.link_schemas.specs.Passes.{Resolving, Ordering}
use Rattle.link_schemas.proofs.Passing.{goes_on, ends}
use Rattle.link_schemas.proofs.passes.resolved_and_ordered.Goals as goal

pub returns : goal.returns
returns c =
    goes_on (map doc_of c.args.docs.now) Resolving (Ordering ∷ []) tt c.ordered.result c.in_ok-resolved.ensures c.ordered.ensures

pub returns-in_err-resolved : goal.returns-in_err-resolved
returns-in_err-resolved c =
    let p = err_from_is_err_and c.from_residual.result c.from_residual.ensures.1 in
    rw (p.1, p.2) (ends (map doc_of c.args.docs.now) Resolving (Ordering ∷ []) c.in_err-resolved.field-0.0 c.in_err-resolved.ensures)
