use Rattle.std.proofs.lemmas.Result.{err_from_is_err_and}
use Rattle.module_grammar.specs.ValueReading.{absence_at}
use Rattle.module_parse.proofs.Chaining.{then_read, then_stops, then_next_stops}
use Rattle.module_parse.proofs.endings.ending.Goals as goal

pub returns-in_err-octets-clause-value : goal.returns-in_err-octets-clause-value
returns-in_err-octets-clause-value c =
    let p = err_from_is_err_and c.from_residual.result c.from_residual.ensures.1 in
    rw (p.1, p.2) (then_stops (absence_at c.args.most) c.in_err-octets.ensures.value)

pub returns-in_err-absence-clause-value : goal.returns-in_err-absence-clause-value
returns-in_err-absence-clause-value c =
    let p = err_from_is_err_and c.from_residual-in_err-absence.result c.from_residual-in_err-absence.ensures.1 in
    rw (p.1, p.2) (then_next_stops (absence_at c.args.most) c.in_ok-octets.ensures.value c.in_err-absence.ensures.value)

pub returns-clause-value : goal.returns-clause-value
returns-clause-value c = (then_read (absence_at c.args.most) c.in_ok-octets.ensures.value c.in_ok-absence.ensures.value)
