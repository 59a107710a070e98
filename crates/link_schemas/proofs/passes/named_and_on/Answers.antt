use Rattle.std.proofs.Common.{map, ◌∷◌, []}
use Rattle.std.proofs.lemmas.Result.{err_from_is_err_and}
use Rattle.schema_components.specs.Documents.{doc_of}
use Rattle.link_schemas.specs.Passes.{Naming, Resolving, Ordering}
use Rattle.link_schemas.proofs.Passing.{goes_on, ends}
use Rattle.link_schemas.proofs.passes.named_and_on.Goals as goal

pub returns : goal.returns
returns c =
    goes_on (map doc_of c.args.docs.now) Naming (Resolving ∷ Ordering ∷ []) tt c.resolved_and_ordered.result c.in_ok-named.ensures c.resolved_and_ordered.ensures

pub returns-in_err-named : goal.returns-in_err-named
returns-in_err-named c =
    let p = err_from_is_err_and c.from_residual.result c.from_residual.ensures.1 in
    rw (p.1, p.2) (ends (map doc_of c.args.docs.now) Naming (Resolving ∷ Ordering ∷ []) c.in_err-named.field-0.0 c.in_err-named.ensures)
