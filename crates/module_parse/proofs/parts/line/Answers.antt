use Rattle.std.proofs.Common.{subst, refl, arith, ◌≡◌, ◌+◌}
use Rattle.std.proofs.lemmas.Result.{err_from_is_err_and}
use Rattle.module_grammar.specs.Reading.{word_at}
use Rattle.module_grammar.specs.NameReading.{begun}
use Rattle.module_parse.specs.Reads.{IsRead}
use Rattle.module_parse.proofs.Lining.{line_begun, line_next, line_stops, line_none_stops}
use Rattle.module_print.specs.Notation.{new_line}
use Rattle.module_parse.proofs.parts.line.Goals as goal

pub returns-in_err-next-clause-value : goal.returns-in_err-next-clause-value
returns-in_err-next-clause-value c =
    let p = err_from_is_err_and c.from_residual.result c.from_residual.ensures.1 in
    rw (p.1, p.2) (line_none_stops c.args.levels c.in_err-next.ensures.value)

pub levels-init : goal.levels-init
levels-init c = record { read = line_begun c.in_ok-next.ensures.value; begun = omega (arith, c.in_ok-next.ensures.within.0); left = c.in_ok-next.ensures.within.1; so_far = omega arith }

pub levels-preserved : goal.levels-preserved
levels-preserved c = record { read = line_next c.levels.done (c.levels.done + 1) c.levels.invariant.read c.in_ok-behind.ensures.value refl; begun = omega (arith, c.levels.invariant.begun, c.in_ok-behind.ensures.within.0); left = c.in_ok-behind.ensures.within.1; so_far = omega (arith, c.levels-test.true) }

pub returns-in_err-behind-clause-value : goal.returns-in_err-behind-clause-value
returns-in_err-behind-clause-value c =
    let p = err_from_is_err_and c.from_residual-in_err-behind.result c.from_residual-in_err-behind.ensures.1 in
    rw (p.1, p.2) (line_stops c.levels.done c.args.levels c.levels.invariant.read c.in_err-behind.ensures.value c.levels-test.true)

pub returns-clause-value : goal.returns-clause-value
returns-clause-value c = let all : c.levels.done ≡ c.args.levels = omega (arith, c.levels.invariant.so_far, c.levels-test.false) in
    subst (λ k. IsRead (word_at (new_line k)) c.args.bytes.now c.args.from tt c.levels.next) all c.levels.invariant.read
