use Rattle.std.proofs.lemmas.Result.{err_from_is_err_and}
use Rattle.module_grammar.specs.NameReading.{octets_of}
use Rattle.module_parse.proofs.Chaining.{as_stops}
use Rattle.module_parse.proofs.Naming.{octets_read}
use Rattle.module_parse.proofs.names.octets.Goals as goal

pub returns-in_err-next-clause-value : goal.returns-in_err-next-clause-value
returns-in_err-next-clause-value c =
    let p = err_from_is_err_and c.from_residual.result c.from_residual.ensures.1 in
    rw (p.1, p.2) (as_stops octets_of c.in_err-next.ensures.value)

pub returns-clause-value : goal.returns-clause-value
returns-clause-value c = octets_read c.in_ok-digits.digits c.in_ok-next.ensures.value c.in_ok-digits.ensures
