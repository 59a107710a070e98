use Rattle.std.proofs.lemmas.Result.{err_from_is_err_and}
use Rattle.module_grammar.specs.BoundReading.{octets_here}
use Rattle.module_parse.proofs.Chaining.{as_read, as_stops}
use Rattle.module_parse.proofs.bounds.octets_here.Goals as goal

pub returns-in_err-digits-clause-value : goal.returns-in_err-digits-clause-value
returns-in_err-digits-clause-value c =
    let p = err_from_is_err_and c.from_residual.result c.from_residual.ensures.1 in
    rw (p.1, p.2) (as_stops octets_here c.in_err-digits.ensures.value)

pub returns-clause-value : goal.returns-clause-value
returns-clause-value c = (as_read octets_here c.in_ok-digits.ensures.value)
