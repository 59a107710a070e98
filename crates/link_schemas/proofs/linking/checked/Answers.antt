use Rattle.std.proofs.Common.{map, ◌∷◌, []}
use Rattle.std.proofs.lemmas.Result.{err_from_is_err_and}
use Rattle.schema_components.specs.Documents.{doc_of}
use Rattle.link_schemas.specs.Passes.{Valuing, Comparing, Clearing}
use Rattle.link_schemas.proofs.Passing.{goes_on, ends}
use Rattle.link_schemas.proofs.linking.checked.Goals as goal

pub returns : goal.returns
returns c =
    goes_on (map doc_of c.args.docs.now) Valuing (Comparing ∷ Clearing ∷ []) tt c.check_content.result c.in_ok-check_standards.ensures c.check_content.ensures

pub returns-in_err-check_standards : goal.returns-in_err-check_standards
returns-in_err-check_standards c =
    let p = err_from_is_err_and c.from_residual.result c.from_residual.ensures.1 in
    rw (p.1, p.2) (ends (map doc_of c.args.docs.now) Valuing (Comparing ∷ Clearing ∷ []) c.in_err-check_standards.field-0.0 c.in_err-check_standards.ensures)
