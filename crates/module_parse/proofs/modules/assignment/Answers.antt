use Rattle.std.proofs.lemmas.Result.{err_from_is_err_and}
use Rattle.std.specs.Prelude.{codes}
use Rattle.module_grammar.specs.Reading.{then_at, before_at}
use Rattle.module_grammar.specs.MarkReading.{part_marks_at}
use Rattle.module_grammar.specs.TypeReading.{type_at}
use Rattle.module_grammar.specs.ModuleReading.{assignment_of}
use Rattle.module_parse.proofs.Chaining.{as_read, as_stops, then_read, then_stops, then_next_stops, before_read, before_stops, before_word_stops}
use Rattle.module_parse.proofs.modules.assignment.Goals as goal

pub returns-in_err-reference-clause-value : goal.returns-in_err-reference-clause-value
returns-in_err-reference-clause-value c =
    let p = err_from_is_err_and c.from_residual.result c.from_residual.ensures.1 in
    rw (p.1, p.2) (as_stops assignment_of (then_stops (λ _. (before_at (then_at part_marks_at (λ _. (type_at c.args.most c.args.most 0))) (codes "\n"))) (before_stops (codes " ::= ") c.in_err-reference.ensures.value)))

pub returns-in_err-start-clause-value : goal.returns-in_err-start-clause-value
returns-in_err-start-clause-value c =
    let p = err_from_is_err_and c.from_residual-in_err-start.result c.from_residual-in_err-start.ensures.1 in
    rw (p.1, p.2) (as_stops assignment_of (then_stops (λ _. (before_at (then_at part_marks_at (λ _. (type_at c.args.most c.args.most 0))) (codes "\n"))) (before_word_stops (codes " ::= ") c.in_ok-reference.ensures.value c.in_err-start.ensures.value)))

pub returns-in_err-marks-clause-value : goal.returns-in_err-marks-clause-value
returns-in_err-marks-clause-value c =
    let p = err_from_is_err_and c.from_residual-in_err-marks.result c.from_residual-in_err-marks.ensures.1 in
    rw (p.1, p.2) (as_stops assignment_of (then_next_stops (λ _. (before_at (then_at part_marks_at (λ _. (type_at c.args.most c.args.most 0))) (codes "\n"))) (before_read (codes " ::= ") c.in_ok-reference.ensures.value c.in_ok-start.ensures.value) (before_stops (codes "\n") (then_stops (λ _. (type_at c.args.most c.args.most 0)) c.in_err-marks.ensures.value))))

pub returns-in_err-body-clause-value : goal.returns-in_err-body-clause-value
returns-in_err-body-clause-value c =
    let p = err_from_is_err_and c.from_residual-in_err-body.result c.from_residual-in_err-body.ensures.1 in
    rw (p.1, p.2) (as_stops assignment_of (then_next_stops (λ _. (before_at (then_at part_marks_at (λ _. (type_at c.args.most c.args.most 0))) (codes "\n"))) (before_read (codes " ::= ") c.in_ok-reference.ensures.value c.in_ok-start.ensures.value) (before_stops (codes "\n") (then_next_stops (λ _. (type_at c.args.most c.args.most 0)) c.in_ok-marks.ensures.value c.in_err-body.ensures.value))))

pub returns-in_err-next-clause-value : goal.returns-in_err-next-clause-value
returns-in_err-next-clause-value c =
    let p = err_from_is_err_and c.from_residual-in_err-next.result c.from_residual-in_err-next.ensures.1 in
    rw (p.1, p.2) (as_stops assignment_of (then_next_stops (λ _. (before_at (then_at part_marks_at (λ _. (type_at c.args.most c.args.most 0))) (codes "\n"))) (before_read (codes " ::= ") c.in_ok-reference.ensures.value c.in_ok-start.ensures.value) (before_word_stops (codes "\n") (then_read (λ _. (type_at c.args.most c.args.most 0)) c.in_ok-marks.ensures.value c.in_ok-body.ensures.value) c.in_err-next.ensures.value)))

pub returns-clause-value : goal.returns-clause-value
returns-clause-value c = (as_read assignment_of (then_read (λ _. (before_at (then_at part_marks_at (λ _. (type_at c.args.most c.args.most 0))) (codes "\n"))) (before_read (codes " ::= ") c.in_ok-reference.ensures.value c.in_ok-start.ensures.value) (before_read (codes "\n") (then_read (λ _. (type_at c.args.most c.args.most 0)) c.in_ok-marks.ensures.value c.in_ok-body.ensures.value) c.in_ok-next.ensures.value)))
