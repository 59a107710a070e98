use Rattle.std.proofs.Common.{map}
use Rattle.std.proofs.lemmas.Result.{err_from_is_err_and}
use Rattle.schema_components.specs.Documents.{doc_of}
use Rattle.link_schemas.proofs.Spaces.{behind_names, in_names}
use Rattle.link_schemas.proofs.linking.passed.Goals as goal

pub returns : goal.returns
returns c = behind_names (map doc_of c.args.docs.now) tt c.made.result c.in_ok-check_names.ensures c.made.ensures

pub returns-in_err-check_names : goal.returns-in_err-check_names
returns-in_err-check_names c =
    let p = err_from_is_err_and c.from_residual.result c.from_residual.ensures.1 in
    rw (p.1, p.2) (in_names (map doc_of c.args.docs.now) c.in_err-check_names.field-0.0 c.in_err-check_names.ensures)

pub made-requires : goal.made-requires
made-requires c = c.in_ok-check_names.ensures
