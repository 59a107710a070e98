use Rattle.std.proofs.Common.{subst}
use Rattle.std.proofs.lemmas.Result.{err_from_is_err_and}
use Rattle.std.specs.Prelude.{codes}
use Rattle.module_grammar.specs.Reading.{many_at, before_at}
use Rattle.module_grammar.specs.NameReading.{quoted_at, quoted_byte_at, bytes_of}
use Rattle.module_parse.specs.Reads.{IsRead}
use Rattle.module_parse.proofs.Chaining.{as_read, as_stops, behind_read, behind_stops, behind_next_stops, before_read, before_stops, before_word_stops}
use Rattle.module_parse.proofs.names.quoted.Goals as goal

pub returns-in_err-inside-clause-value : goal.returns-in_err-inside-clause-value
returns-in_err-inside-clause-value c =
    let p = err_from_is_err_and c.from_residual.result c.from_residual.ensures.1 in
    rw (p.1, p.2) (as_stops bytes_of (behind_stops (codes "\"") (before_at (many_at quoted_byte_at) (codes "\"")) c.in_err-inside.ensures.value))

pub returns-in_err-text-clause-value : goal.returns-in_err-text-clause-value
returns-in_err-text-clause-value c =
    let p = err_from_is_err_and c.from_residual-in_err-text.result c.from_residual-in_err-text.ensures.1 in
    rw (p.1, p.2) (as_stops bytes_of (behind_next_stops (codes "\"") c.in_ok-inside.ensures.value (before_stops (codes "\"") c.in_err-text.ensures.value)))

pub returns-in_err-next-clause-value : goal.returns-in_err-next-clause-value
returns-in_err-next-clause-value c =
    let p = err_from_is_err_and c.from_residual-in_err-next.result c.from_residual-in_err-next.ensures.1 in
    rw (p.1, p.2) (as_stops bytes_of (behind_next_stops (codes "\"") c.in_ok-inside.ensures.value (before_word_stops (codes "\"") c.in_ok-text.ensures.value.read c.in_err-next.ensures.value)))

pub returns-clause-value : goal.returns-clause-value
returns-clause-value c = subst (λ l. IsRead quoted_at c.args.bytes.now c.args.from l c.in_ok-next.next) c.in_ok-text.ensures.value.same (as_read bytes_of (behind_read (codes "\"") c.in_ok-inside.ensures.value (before_read (codes "\"") c.in_ok-text.ensures.value.read c.in_ok-next.ensures.value)))
