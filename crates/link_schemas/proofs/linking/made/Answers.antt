use Rattle.std.proofs.Common.{map}
use Rattle.std.proofs.lemmas.Result.{err_from_is_err_and}
use Rattle.schema_components.specs.Documents.{doc_of}
use Rattle.link_schemas.proofs.Spaces.{made_not_clear, not_made}
use Rattle.link_schemas.proofs.linking.made.Goals as goal

pub returns-in_err-simples : goal.returns-in_err-simples
returns-in_err-simples c =
    let p = err_from_is_err_and c.from_residual.result c.from_residual.ensures.1 in
    rw (p.1, p.2) (not_made (map doc_of c.args.docs.now) c.in_err-simples.field-0.0 c.in_err-simples.ensures)

pub returns-in_err-checked : goal.returns-in_err-checked
returns-in_err-checked c =
    let p = err_from_is_err_and c.from_residual-in_err-checked.result c.from_residual-in_err-checked.ensures.1 in
    rw (p.1, p.2) (made_not_clear (map doc_of c.args.docs.now) c.in_ok-simples.simples c.in_err-checked.field-0.0 c.in_ok-simples.ensures c.in_err-checked.ensures)
