use Rattle.std.proofs.lemmas.Result.{err_from_is_err_and}
use Rattle.module_parse.proofs.Naming.{identifier_is, span_read}
use Rattle.module_parse.proofs.names.identifier.Goals as goal

pub returns-in_err-next-clause-value : goal.returns-in_err-next-clause-value
returns-in_err-next-clause-value c =
    let p = err_from_is_err_and c.from_residual.result c.from_residual.ensures.1 in
    rw (p.1, p.2) c.in_err-next.ensures.value

pub identifier_text-requires : goal.identifier_text-requires
identifier_text-requires c = identifier_is c.in_ok-next.ensures.value

pub returns-in-Ok-clause-value : goal.returns-in-Ok-clause-value
returns-in-Ok-clause-value c = span_read c.in-Ok.name c.in_ok-next.ensures.value c.in-Ok.ensures
