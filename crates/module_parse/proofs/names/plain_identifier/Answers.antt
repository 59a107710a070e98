use Rattle.std.proofs.lemmas.Result.{err_from_is_err_and}
use Rattle.module_grammar.specs.NameReading.{name_here}
use Rattle.module_parse.proofs.Chaining.{as_read, as_stops}
use Rattle.module_parse.proofs.names.plain_identifier.Goals as goal

pub returns-in_err-name-clause-value : goal.returns-in_err-name-clause-value
returns-in_err-name-clause-value c =
    let p = err_from_is_err_and c.from_residual.result c.from_residual.ensures.1 in
    rw (p.1, p.2) (as_stops name_here c.in_err-name.ensures.value)

pub returns-clause-value : goal.returns-clause-value
returns-clause-value c = (as_read name_here c.in_ok-name.ensures.value)
