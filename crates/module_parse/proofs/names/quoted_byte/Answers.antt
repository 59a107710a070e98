use Rattle.std.proofs.Common.{refl, inl, inr, get_or}
use Rattle.std.proofs.lemmas.Result.{err_from_is_err_and}
use Rattle.std.specs.Prelude.{codes}
use Rattle.module_grammar.specs.Reading.{word_at}
use Rattle.module_parse.proofs.Chaining.{or_first, or_second, or_second_stops, or_again}
use Rattle.module_parse.proofs.names.quoted_byte.Goals as goal

pub returns-in-Ok-clause-value : goal.returns-in-Ok-clause-value
returns-in-Ok-clause-value c = record { value = inl (get_or c.args.bytes.now c.args.from.at 0); read = or_first (word_at (codes "\"\"")) c.in-Ok.ensures.value; same = refl }

pub returns-in_err-mark-in-Err-clause-value : goal.returns-in_err-mark-in-Err-clause-value
returns-in_err-mark-in-Err-clause-value c =
    let p = err_from_is_err_and c.from_residual.result c.from_residual.ensures.1 in
    rw (p.1, p.2) (or_again (word_at (codes "\"\"")) c.in-Err.ensures.value c.in_err-mark-in-Err.ensures)

pub returns-in_err-next-clause-value : goal.returns-in_err-next-clause-value
returns-in_err-next-clause-value c =
    let p = err_from_is_err_and c.from_residual-in_err-next.result c.from_residual-in_err-next.ensures.1 in
    rw (p.1, p.2) (or_second_stops c.in-Err.ensures.value c.in_ok-mark-in-Err.ensures c.in_err-next.ensures.value)

pub returns-clause-value : goal.returns-clause-value
returns-clause-value c = record { value = inr tt; read = (or_second c.in-Err.ensures.value c.in_ok-mark-in-Err.ensures c.in_ok-next.ensures.value); same = refl }
