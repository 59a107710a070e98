use Rattle.std.proofs.Common.{map, ◌∷◌, []}
use Rattle.std.proofs.lemmas.Result.{err_from_is_err_and}
use Rattle.schema_components.specs.Documents.{doc_of}
use Rattle.link_schemas.specs.Passes.{Comparing, Clearing}
use Rattle.link_schemas.proofs.Passing.{goes_on, ends}
use Rattle.link_schemas.proofs.passes.check_content.Goals as goal

pub returns : goal.returns
returns c =
    goes_on (map doc_of c.args.docs.now) Comparing (Clearing ∷ []) tt c.cleared.result c.in_ok-compared.ensures c.cleared.ensures

pub returns-in_err-compared : goal.returns-in_err-compared
returns-in_err-compared c =
    let p = err_from_is_err_and c.from_residual.result c.from_residual.ensures.1 in
    rw (p.1, p.2) (ends (map doc_of c.args.docs.now) Comparing (Clearing ∷ []) c.in_err-compared.field-0.0 c.in_err-compared.ensures)
