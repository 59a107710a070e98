use Rattle.std.proofs.Common.{map, ◌∷◌, []}
use Rattle.std.proofs.lemmas.Result.{err_from_is_err_and}
use Rattle.schema_components.specs.Documents.{doc_of}
use Rattle.link_schemas.specs.Passes.{Counting, Naming, Resolving, Ordering}
use Rattle.link_schemas.proofs.Passing.{goes_on, ends}
use Rattle.link_schemas.proofs.passes.check_names.Goals as goal

pub returns : goal.returns
returns c =
    goes_on (map doc_of c.args.docs.now) Counting (Naming ∷ Resolving ∷ Ordering ∷ []) tt c.named_and_on.result c.in_ok-counted.ensures c.named_and_on.ensures

pub returns-in_err-counted : goal.returns-in_err-counted
returns-in_err-counted c =
    let p = err_from_is_err_and c.from_residual.result c.from_residual.ensures.1 in
    rw (p.1, p.2) (ends (map doc_of c.args.docs.now) Counting (Naming ∷ Resolving ∷ Ordering ∷ []) c.in_err-counted.field-0.0 c.in_err-counted.ensures)
