use Rattle.std.proofs.Common.{◌∙◌, sym, ap, subst, arith, [], ◌∷◌, ◌++◌, suc, ◌≡◌, ◌-◌}
use Rattle.std.proofs.lemmas.Result.{err_from_is_err_and}
use Rattle.std.specs.Prelude.{codes}
use Rattle.module_grammar.specs.Reading.{nothing_at, then_at, or_at, as_at, behind_at}
use Rattle.module_grammar.specs.MarkReading.{part_marks_at}
use Rattle.module_grammar.specs.TypeReading.{component_at, bare_of, item_label_at, block_at, sequence_of_at, form_of, form_at, typed_of, type_at, tail_at, choice_of, between, word_of}
use Rattle.module_parse.specs.Readers.{sorted_at, word_seen}
use Rattle.module_parse.specs.Reads.{IsStopped}
use Rattle.module_parse.proofs.Chaining.{as_read, as_stops, then_read, then_stops, then_next_stops, behind_read, behind_stops, behind_next_stops, or_first, or_second, or_second_stops, nothing_read, or_again}
use Rattle.module_print.specs.Notation.{new_line}
use Rattle.module_parse.proofs.Parting.{label_stops, marks_stop, type_stops, ending_stops, part_ends, parts_none, parts_next, others_stop, closing_stops, block_read, opened, unopened, next_read, next_stopped}
use Rattle.module_parse.proofs.Forming.{simple_read, simple_stops, typed_read, typed_stops, as_block}
use Rattle.module_text.specs.declared.types.PlainForm.TheVariants as form
use Rattle.module_grammar.specs.TypeReading as grammar
use Rattle.module_parse.proofs.forms.+types.Goals as goal

pub part-returns-in_err-start-clause-value : goal.part-returns-in_err-start-clause-value
part-returns-in_err-start-clause-value t c =
    let p = err_from_is_err_and c.from_residual.result c.from_residual.ensures.1 in
    rw (p.1, p.2) (behind_stops (c.args.text.now ++ new_line c.args.room.levels) (sorted_at c.args.room.most c.args.sort (type_at c.args.room.most c.args.room.depth c.args.room.levels)) c.in_err-start.ensures.value)

pub part-returns-in_err-identifier-clause-value : goal.part-returns-in_err-identifier-clause-value
part-returns-in_err-identifier-clause-value t c =
    let p = err_from_is_err_and c.from_residual-in_err-identifier.result c.from_residual-in_err-identifier.ensures.1 in
    rw (p.1, p.2) (behind_next_stops (c.args.text.now ++ new_line c.args.room.levels) c.in_ok-start.ensures.value (label_stops c.args.room.most c.args.sort (type_at c.args.room.most c.args.room.depth c.args.room.levels) c.args.bytes.now c.in_ok-start.start c.in_err-identifier.field-0.0 c.in_err-identifier.ensures.value))

pub part-returns-in_err-marks-clause-value : goal.part-returns-in_err-marks-clause-value
part-returns-in_err-marks-clause-value t c =
    let p = err_from_is_err_and c.from_residual-in_err-marks.result c.from_residual-in_err-marks.ensures.1 in
    rw (p.1, p.2) (behind_next_stops (c.args.text.now ++ new_line c.args.room.levels) c.in_ok-start.ensures.value (marks_stop c.args.room.most c.args.sort (type_at c.args.room.most c.args.room.depth c.args.room.levels) c.args.bytes.now c.in_ok-start.start c.in_ok-identifier.behind_label c.in_ok-identifier.identifier c.in_err-marks.field-0.0 c.in_ok-identifier.ensures.value c.in_err-marks.ensures.value))

pub part-returns-in_err-tree-clause-value : goal.part-returns-in_err-tree-clause-value
part-returns-in_err-tree-clause-value t c =
    let p = err_from_is_err_and c.from_residual-in_err-tree.result c.from_residual-in_err-tree.ensures.1 in
    rw (p.1, p.2) (behind_next_stops (c.args.text.now ++ new_line c.args.room.levels) c.in_ok-start.ensures.value (type_stops c.args.room.most c.args.sort (type_at c.args.room.most c.args.room.depth c.args.room.levels) c.args.bytes.now c.in_ok-start.start c.in_ok-identifier.behind_label c.in_ok-marks.behind_marks c.in_ok-identifier.identifier c.in_ok-marks.marks c.in_err-tree.field-0.0 c.in_ok-identifier.ensures.value c.in_ok-marks.ensures.value c.in_err-tree.ensures.value))

pub part-returns-in_err-part-clause-value : goal.part-returns-in_err-part-clause-value
part-returns-in_err-part-clause-value t c =
    let p = err_from_is_err_and c.from_residual-in_err-part.result c.from_residual-in_err-part.ensures.1 in
    rw (p.1, p.2) (behind_next_stops (c.args.text.now ++ new_line c.args.room.levels) c.in_ok-start.ensures.value (ending_stops c.args.room.most c.args.sort (type_at c.args.room.most c.args.room.depth c.args.room.levels) c.args.bytes.now c.in_ok-start.start c.in_ok-identifier.behind_label c.in_ok-marks.behind_marks c.in_ok-tree.behind_type (record { at = c.in_ok-start.start.at; identifier = c.in_ok-identifier.identifier; marks = c.in_ok-marks.marks }) c.in_ok-identifier.identifier c.in_ok-marks.marks c.in_ok-tree.tree c.in_err-part.field-0.0 c.in_ok-identifier.ensures.value c.in_ok-marks.ensures.value c.in_ok-tree.ensures.value c.in_err-part.ensures.value))

pub part-returns-clause-value : goal.part-returns-clause-value
part-returns-clause-value t c = behind_read (c.args.text.now ++ new_line c.args.room.levels) c.in_ok-start.ensures.value (part_ends c.args.room.most c.args.sort (type_at c.args.room.most c.args.room.depth c.args.room.levels) c.args.bytes.now c.in_ok-start.start c.in_ok-identifier.behind_label c.in_ok-marks.behind_marks c.in_ok-tree.behind_type c.in_ok-part.next c.in_ok-identifier.identifier c.in_ok-marks.marks c.in_ok-tree.tree c.in_ok-part.part c.in_ok-identifier.ensures.value c.in_ok-marks.ensures.value c.in_ok-tree.ensures.value c.in_ok-part.ensures.value)

pub block-returns-in_err-first-clause-value : goal.block-returns-in_err-first-clause-value
block-returns-in_err-first-clause-value t c =
    let p = err_from_is_err_and c.from_residual.result c.from_residual.ensures.1 in
    rw (p.1, p.2) (unopened c.args.room.most c.args.room.depth c.args.room.levels c.args.sort c.in_err-first.ensures.value)

pub block-parts-init : goal.block-parts-init
block-parts-init t c = parts_none (behind_at (between c.args.room.levels) (sorted_at c.args.room.most c.args.sort (type_at c.args.room.most c.args.room.depth (suc c.args.room.levels)))) c.args.bytes.now c.in_ok-first.behind c.in_ok-parts.parts.parts.items c.in_ok-parts.parts.types.items c.in_ok-first.ensures.within.1

pub block-parts-preserved : goal.block-parts-preserved
block-parts-preserved t c = parts_next c.parts.invariant (next_read c.args.room.most c.args.room.depth c.args.room.levels c.args.sort c.in-Ok.ensures.value) c.in-Ok.ensures.within c.in_ok-more-in-Ok.ensures.0 c.in_ok-more-in-Ok.ensures.1

pub block-returns-in_err-end-in-Err-clause-value : goal.block-returns-in_err-end-in-Err-clause-value
block-returns-in_err-end-in-Err-clause-value t c =
    let p = err_from_is_err_and c.from_residual-in_err-end-in-Err.result c.from_residual-in_err-end-in-Err.ensures.1 in
    rw (p.1, p.2) (others_stop c.args.room.levels (sorted_at c.args.room.most c.args.sort (type_at c.args.room.most c.args.room.depth (suc c.args.room.levels))) (opened c.args.room.most c.args.room.depth c.args.room.levels c.args.sort c.in_ok-first.ensures.value) c.parts.invariant (next_stopped c.args.room.most c.args.room.depth c.args.room.levels c.args.sort c.in-Err.ensures.value) c.in_err-end-in-Err.ensures)

pub block-returns-in_err-next-in-Err-clause-value : goal.block-returns-in_err-next-in-Err-clause-value
block-returns-in_err-next-in-Err-clause-value t c =
    let p = err_from_is_err_and c.from_residual-in_err-next-in-Err.result c.from_residual-in_err-next-in-Err.ensures.1 in
    rw (p.1, p.2) (closing_stops c.args.room.levels (sorted_at c.args.room.most c.args.sort (type_at c.args.room.most c.args.room.depth (suc c.args.room.levels))) (opened c.args.room.most c.args.room.depth c.args.room.levels c.args.sort c.in_ok-first.ensures.value) c.parts.invariant (next_stopped c.args.room.most c.args.room.depth c.args.room.levels c.args.sort c.in-Err.ensures.value) c.in_ok-end-in-Err.ensures c.in_err-next-in-Err.ensures.value)

pub block-returns-in-Err-clause-value : goal.block-returns-in-Err-clause-value
block-returns-in-Err-clause-value t c = block_read c.args.room.levels (sorted_at c.args.room.most c.args.sort (type_at c.args.room.most c.args.room.depth (suc c.args.room.levels))) (opened c.args.room.most c.args.room.depth c.args.room.levels c.args.sort c.in_ok-first.ensures.value) c.parts.invariant (next_stopped c.args.room.most c.args.room.depth c.args.room.levels c.args.sort c.in-Err.ensures.value) c.in_ok-end-in-Err.ensures c.in_ok-next-in-Err.ensures.value (c.in_ok-parts.ensures.0 ∙ ap (λ l. l ++ c.in_ok-first.first ∷ []) c.new.ensures.0) (c.in_ok-parts.ensures.1 ∙ ap (λ l. l ++ c.in_ok-first.tree ∷ []) c.new.ensures.1)

pub sequence_of-returns-in_err-size-clause-value : goal.sequence_of-returns-in_err-size-clause-value
sequence_of-returns-in_err-size-clause-value t c =
    let p = err_from_is_err_and c.from_residual.result c.from_residual.ensures.1 in
    rw (p.1, p.2) (then_stops (λ _. (behind_at (codes " OF ") (as_at bare_of (then_at item_label_at (λ _. (then_at part_marks_at (λ _. (type_at c.args.room.most c.args.room.depth c.args.room.levels)))))))) c.in_err-size.ensures.value)

pub sequence_of-returns-in_err-start-clause-value : goal.sequence_of-returns-in_err-start-clause-value
sequence_of-returns-in_err-start-clause-value t c =
    let p = err_from_is_err_and c.from_residual-in_err-start.result c.from_residual-in_err-start.ensures.1 in
    rw (p.1, p.2) (then_next_stops (λ _. (behind_at (codes " OF ") (as_at bare_of (then_at item_label_at (λ _. (then_at part_marks_at (λ _. (type_at c.args.room.most c.args.room.depth c.args.room.levels)))))))) c.in_ok-size.ensures.value (behind_stops (codes " OF ") (as_at bare_of (then_at item_label_at (λ _. (then_at part_marks_at (λ _. (type_at c.args.room.most c.args.room.depth c.args.room.levels)))))) c.in_err-start.ensures.value))

pub sequence_of-returns-in_err-identifier-clause-value : goal.sequence_of-returns-in_err-identifier-clause-value
sequence_of-returns-in_err-identifier-clause-value t c =
    let p = err_from_is_err_and c.from_residual-in_err-identifier.result c.from_residual-in_err-identifier.ensures.1 in
    rw (p.1, p.2) (then_next_stops (λ _. (behind_at (codes " OF ") (as_at bare_of (then_at item_label_at (λ _. (then_at part_marks_at (λ _. (type_at c.args.room.most c.args.room.depth c.args.room.levels)))))))) c.in_ok-size.ensures.value (behind_next_stops (codes " OF ") c.in_ok-start.ensures.value (as_stops bare_of (then_stops (λ _. (then_at part_marks_at (λ _. (type_at c.args.room.most c.args.room.depth c.args.room.levels)))) c.in_err-identifier.ensures.value))))

pub sequence_of-returns-in_err-marks-clause-value : goal.sequence_of-returns-in_err-marks-clause-value
sequence_of-returns-in_err-marks-clause-value t c =
    let p = err_from_is_err_and c.from_residual-in_err-marks.result c.from_residual-in_err-marks.ensures.1 in
    rw (p.1, p.2) (then_next_stops (λ _. (behind_at (codes " OF ") (as_at bare_of (then_at item_label_at (λ _. (then_at part_marks_at (λ _. (type_at c.args.room.most c.args.room.depth c.args.room.levels)))))))) c.in_ok-size.ensures.value (behind_next_stops (codes " OF ") c.in_ok-start.ensures.value (as_stops bare_of (then_next_stops (λ _. (then_at part_marks_at (λ _. (type_at c.args.room.most c.args.room.depth c.args.room.levels)))) c.in_ok-identifier.ensures.value (then_stops (λ _. (type_at c.args.room.most c.args.room.depth c.args.room.levels)) c.in_err-marks.ensures.value)))))

pub sequence_of-returns-in_err-tree-clause-value : goal.sequence_of-returns-in_err-tree-clause-value
sequence_of-returns-in_err-tree-clause-value t c =
    let p = err_from_is_err_and c.from_residual-in_err-tree.result c.from_residual-in_err-tree.ensures.1 in
    rw (p.1, p.2) (then_next_stops (λ _. (behind_at (codes " OF ") (as_at bare_of (then_at item_label_at (λ _. (then_at part_marks_at (λ _. (type_at c.args.room.most c.args.room.depth c.args.room.levels)))))))) c.in_ok-size.ensures.value (behind_next_stops (codes " OF ") c.in_ok-start.ensures.value (as_stops bare_of (then_next_stops (λ _. (then_at part_marks_at (λ _. (type_at c.args.room.most c.args.room.depth c.args.room.levels)))) c.in_ok-identifier.ensures.value (then_next_stops (λ _. (type_at c.args.room.most c.args.room.depth c.args.room.levels)) c.in_ok-marks.ensures.value c.in_err-tree.ensures.value)))))

pub sequence_of-returns-clause-value : goal.sequence_of-returns-clause-value
sequence_of-returns-clause-value t c = rw c.in_ok-part.ensures (then_read (λ _. (behind_at (codes " OF ") (as_at bare_of (then_at item_label_at (λ _. (then_at part_marks_at (λ _. (type_at c.args.room.most c.args.room.depth c.args.room.levels)))))))) c.in_ok-size.ensures.value (behind_read (codes " OF ") c.in_ok-start.ensures.value (as_read bare_of (then_read (λ _. (then_at part_marks_at (λ _. (type_at c.args.room.most c.args.room.depth c.args.room.levels)))) c.in_ok-identifier.ensures.value (then_read (λ _. (type_at c.args.room.most c.args.room.depth c.args.room.levels)) c.in_ok-marks.ensures.value c.in_ok-tree.ensures.value)))))

pub sequence-returns-in-Ok-clause-value : goal.sequence-returns-in-Ok-clause-value
sequence-returns-in-Ok-clause-value t c = rw (c.of-parts.ensures, c.new.ensures.items, c.new-in-Ok.ensures.items) (as_read (grammar.sequence_of c.args.name) (or_first (or_at (block_at c.args.room.levels (component_at c.args.room.most (type_at c.args.room.most c.args.room.depth (suc c.args.room.levels)))) (or_at (grammar.sequence_of_at (type_at c.args.room.most c.args.room.depth c.args.room.levels)) nothing_at)) c.in-Ok.ensures.value))

pub sequence-returns-in_err-start-in-Err-clause-value : goal.sequence-returns-in_err-start-in-Err-clause-value
sequence-returns-in_err-start-in-Err-clause-value t c =
    let p = err_from_is_err_and c.from_residual.result c.from_residual.ensures.1 in
    rw (p.1, p.2) (as_stops (grammar.sequence_of c.args.name) (or_again (or_at (block_at c.args.room.levels (component_at c.args.room.most (type_at c.args.room.most c.args.room.depth (suc c.args.room.levels)))) (or_at (grammar.sequence_of_at (type_at c.args.room.most c.args.room.depth c.args.room.levels)) nothing_at)) c.in-Err.ensures.value c.in_err-start-in-Err.ensures))

pub sequence-returns-in-Ok-block-clause-value : goal.sequence-returns-in-Ok-block-clause-value
sequence-returns-in-Ok-block-clause-value t c = rw c.of-parts-in-Ok-block.ensures (as_block (tail_at c.args.room.most c.args.room.levels (type_at c.args.room.most c.args.room.depth c.args.room.levels) (type_at c.args.room.most c.args.room.depth (suc c.args.room.levels)) c.args.name grammar.Sequence) (λ parts. form.Sequence parts) c.in-Ok-block.ensures.value (as_read (grammar.sequence_of c.args.name) (or_second c.in-Err.ensures.value c.in_ok-start-in-Err.ensures (or_first (or_at (grammar.sequence_of_at (type_at c.args.room.most c.args.room.depth c.args.room.levels)) nothing_at) c.in-Ok-block.ensures.value.read))))

pub sequence-returns-in_err-other-in-Err-block-clause-value : goal.sequence-returns-in_err-other-in-Err-block-clause-value
sequence-returns-in_err-other-in-Err-block-clause-value t c =
    let p = err_from_is_err_and c.from_residual-in_err-other-in-Err-block.result c.from_residual-in_err-other-in-Err-block.ensures.1 in
    rw (p.1, p.2) (as_stops (grammar.sequence_of c.args.name) (or_second_stops c.in-Err.ensures.value c.in_ok-start-in-Err.ensures (or_again (or_at (grammar.sequence_of_at (type_at c.args.room.most c.args.room.depth c.args.room.levels)) nothing_at) c.in-Err-block.ensures.value c.in_err-other-in-Err-block.ensures)))

pub sequence-returns-in_ok-push-in-Ok-sequence_of-clause-value : goal.sequence-returns-in_ok-push-in-Ok-sequence_of-clause-value
sequence-returns-in_ok-push-in-Ok-sequence_of-clause-value t c = rw (c.in_ok-push-in-Ok-sequence_of.ensures.items, c.new-kids.ensures.items, c.into_inner.ensures) (as_read (grammar.sequence_of c.args.name) (or_second c.in-Err.ensures.value c.in_ok-start-in-Err.ensures (or_second c.in-Err-block.ensures.value c.in_ok-other-in-Err-block.ensures (or_first nothing_at c.in-Ok-sequence_of.ensures.value))))

pub sequence-returns-in_err-end-in-Err-sequence_of-clause-value : goal.sequence-returns-in_err-end-in-Err-sequence_of-clause-value
sequence-returns-in_err-end-in-Err-sequence_of-clause-value t c =
    let p = err_from_is_err_and c.from_residual-in_err-end-in-Err-sequence_of.result c.from_residual-in_err-end-in-Err-sequence_of.ensures.1 in
    rw (p.1, p.2) (as_stops (grammar.sequence_of c.args.name) (or_second_stops c.in-Err.ensures.value c.in_ok-start-in-Err.ensures (or_second_stops c.in-Err-block.ensures.value c.in_ok-other-in-Err-block.ensures (or_again nothing_at c.in-Err-sequence_of.ensures.value c.in_err-end-in-Err-sequence_of.ensures))))

pub sequence-returns-in_ok-end-in-Err-sequence_of-clause-value : goal.sequence-returns-in_ok-end-in-Err-sequence_of-clause-value
sequence-returns-in_ok-end-in-Err-sequence_of-clause-value t c = rw c.new-in-Err-sequence_of.ensures.items (as_read (grammar.sequence_of c.args.name) (or_second c.in-Err.ensures.value c.in_ok-start-in-Err.ensures (or_second c.in-Err-block.ensures.value c.in_ok-other-in-Err-block.ensures (or_second c.in-Err-sequence_of.ensures.value c.in_ok-end-in-Err-sequence_of.ensures (nothing_read c.args.bytes.now c.in_ok-end-in-Err-sequence_of.end c.nothing.result c.nothing.ensures)))))

pub choice-returns-in-Ok-clause-value : goal.choice-returns-in-Ok-clause-value
choice-returns-in-Ok-clause-value t c = rw c.of-parts.ensures (as_block (tail_at c.args.room.most c.args.room.levels (type_at c.args.room.most c.args.room.depth c.args.room.levels) (type_at c.args.room.most c.args.room.depth (suc c.args.room.levels)) c.args.name grammar.Choice) (λ parts. form.Choice parts) c.in-Ok.ensures.value (as_read (choice_of c.args.name) (or_first nothing_at c.in-Ok.ensures.value.read)))

pub choice-returns-in_err-end-in-Err-clause-value : goal.choice-returns-in_err-end-in-Err-clause-value
choice-returns-in_err-end-in-Err-clause-value t c =
    let p = err_from_is_err_and c.from_residual.result c.from_residual.ensures.1 in
    rw (p.1, p.2) (as_stops (choice_of c.args.name) (or_again nothing_at c.in-Err.ensures.value c.in_err-end-in-Err.ensures))

pub choice-returns-in_ok-end-in-Err-clause-value : goal.choice-returns-in_ok-end-in-Err-clause-value
choice-returns-in_ok-end-in-Err-clause-value t c = rw c.new.ensures.items (as_read (choice_of c.args.name) (or_second c.in-Err.ensures.value c.in_ok-end-in-Err.ensures (nothing_read c.args.bytes.now c.in_ok-end-in-Err.end c.nothing.result c.nothing.ensures)))

pub typed-returns-then-room-eq0-clause-value : goal.typed-returns-then-room-eq0-clause-value
typed-returns-then-room-eq0-clause-value t c = rw c.if-room-eq0.true c.too_deep.ensures

pub typed-returns-in_err-marks-clause-value : goal.typed-returns-in_err-marks-clause-value
typed-returns-in_err-marks-clause-value t c =
    let e : suc (c.args.room.depth - 1) ≡ c.args.room.depth = omega (arith, c.if-room-eq0.false) in
    let p = err_from_is_err_and c.from_residual.result c.from_residual.ensures.1 in
    rw (p.1, p.2) (subst (λ d. IsStopped (type_at c.args.room.most d c.args.room.levels) c.args.bytes.now c.args.from c.in_err-marks.field-0.0) e (as_stops typed_of (then_stops (λ marks. form_at c.args.room.most c.args.room.levels (type_at c.args.room.most (c.args.room.depth - 1) c.args.room.levels) (type_at c.args.room.most (c.args.room.depth - 1) (suc c.args.room.levels))) c.in_err-marks.ensures.value)))

pub typed-returns-in_err-name-clause-value : goal.typed-returns-in_err-name-clause-value
typed-returns-in_err-name-clause-value t c =
    let e : suc (c.args.room.depth - 1) ≡ c.args.room.depth = omega (arith, c.if-room-eq0.false) in
    let p = err_from_is_err_and c.from_residual-in_err-name.result c.from_residual-in_err-name.ensures.1 in
    rw (p.1, p.2) (subst (λ d. IsStopped (type_at c.args.room.most d c.args.room.levels) c.args.bytes.now c.args.from c.in_err-name.field-0.0) e (as_stops typed_of (then_next_stops (λ marks. form_at c.args.room.most c.args.room.levels (type_at c.args.room.most (c.args.room.depth - 1) c.args.room.levels) (type_at c.args.room.most (c.args.room.depth - 1) (suc c.args.room.levels))) c.in_ok-marks.ensures.value (as_stops form_of (then_stops (λ word. tail_at c.args.room.most c.args.room.levels (type_at c.args.room.most (c.args.room.depth - 1) c.args.room.levels) (type_at c.args.room.most (c.args.room.depth - 1) (suc c.args.room.levels)) word (word_of word.name)) c.in_err-name.ensures.value)))))

pub typed-returns-in_err-form-in-Sequence-clause-value : goal.typed-returns-in_err-form-in-Sequence-clause-value
typed-returns-in_err-form-in-Sequence-clause-value t c =
    let e : suc (c.args.room.depth - 1) ≡ c.args.room.depth = omega (arith, c.if-room-eq0.false) in
    let p = err_from_is_err_and c.from_residual-in_err-form-in-Sequence.result c.from_residual-in_err-form-in-Sequence.ensures.1 in
    rw (p.1, p.2) (typed_stops c.args.room.most c.args.room.levels (c.args.room.depth - 1) c.args.room.depth grammar.Sequence e (sym (ap word_seen c.in-Sequence.is) ∙ c.word_of-word.ensures) c.in_ok-marks.ensures.value c.in_ok-name.ensures.value c.in_err-form-in-Sequence.ensures.value)

pub typed-returns-in_ok-tree-in-Sequence-clause-value : goal.typed-returns-in_ok-tree-in-Sequence-clause-value
typed-returns-in_ok-tree-in-Sequence-clause-value t c =
    let e : suc (c.args.room.depth - 1) ≡ c.args.room.depth = omega (arith, c.if-room-eq0.false) in
    rw c.in_ok-tree-in-Sequence.ensures (typed_read c.args.room.most c.args.room.levels (c.args.room.depth - 1) c.args.room.depth grammar.Sequence e (sym (ap word_seen c.in-Sequence.is) ∙ c.word_of-word.ensures) c.in_ok-marks.ensures.value c.in_ok-name.ensures.value c.in_ok-form-in-Sequence.ensures.value)

pub typed-returns-in_err-form-in-Choice-clause-value : goal.typed-returns-in_err-form-in-Choice-clause-value
typed-returns-in_err-form-in-Choice-clause-value t c =
    let e : suc (c.args.room.depth - 1) ≡ c.args.room.depth = omega (arith, c.if-room-eq0.false) in
    let p = err_from_is_err_and c.from_residual-in_err-form-in-Choice.result c.from_residual-in_err-form-in-Choice.ensures.1 in
    rw (p.1, p.2) (typed_stops c.args.room.most c.args.room.levels (c.args.room.depth - 1) c.args.room.depth grammar.Choice e (sym (ap word_seen c.in-Choice.is) ∙ c.word_of-word.ensures) c.in_ok-marks.ensures.value c.in_ok-name.ensures.value c.in_err-form-in-Choice.ensures.value)

pub typed-returns-in_ok-tree-in-Choice-clause-value : goal.typed-returns-in_ok-tree-in-Choice-clause-value
typed-returns-in_ok-tree-in-Choice-clause-value t c =
    let e : suc (c.args.room.depth - 1) ≡ c.args.room.depth = omega (arith, c.if-room-eq0.false) in
    rw c.in_ok-tree-in-Choice.ensures (typed_read c.args.room.most c.args.room.levels (c.args.room.depth - 1) c.args.room.depth grammar.Choice e (sym (ap word_seen c.in-Choice.is) ∙ c.word_of-word.ensures) c.in_ok-marks.ensures.value c.in_ok-name.ensures.value c.in_ok-form-in-Choice.ensures.value)

pub typed-returns-in_err-form-in_default-clause-value : goal.typed-returns-in_err-form-in_default-clause-value
typed-returns-in_err-form-in_default-clause-value t c =
    let e : suc (c.args.room.depth - 1) ≡ c.args.room.depth = omega (arith, c.if-room-eq0.false) in
    let p = err_from_is_err_and c.from_residual-in_err-form-in_default.result c.from_residual-in_err-form-in_default.ensures.1 in
    rw (p.1, p.2) (typed_stops c.args.room.most c.args.room.levels (c.args.room.depth - 1) c.args.room.depth (word_seen c.word_of-word.result) e c.word_of-word.ensures c.in_ok-marks.ensures.value c.in_ok-name.ensures.value (simple_stops c.args.room.most c.args.room.levels (type_at c.args.room.most (c.args.room.depth - 1) c.args.room.levels) (type_at c.args.room.most (c.args.room.depth - 1) (suc c.args.room.levels)) c.in_ok-name.name c.word_of-word.result c.args.bytes.now c.in_ok-name.behind c.in_err-form-in_default.field-0.0 c.in_default.not-Sequence c.in_default.not-Choice c.in_err-form-in_default.ensures.value))

pub typed-returns-in_ok-tree-in_default-clause-value : goal.typed-returns-in_ok-tree-in_default-clause-value
typed-returns-in_ok-tree-in_default-clause-value t c =
    let e : suc (c.args.room.depth - 1) ≡ c.args.room.depth = omega (arith, c.if-room-eq0.false) in
    rw c.in_ok-tree-in_default.ensures (typed_read c.args.room.most c.args.room.levels (c.args.room.depth - 1) c.args.room.depth (word_seen c.word_of-word.result) e c.word_of-word.ensures c.in_ok-marks.ensures.value c.in_ok-name.ensures.value (simple_read c.args.room.most c.args.room.levels (type_at c.args.room.most (c.args.room.depth - 1) c.args.room.levels) (type_at c.args.room.most (c.args.room.depth - 1) (suc c.args.room.levels)) c.in_ok-name.name c.word_of-word.result c.args.bytes.now c.in_ok-name.behind c.in_ok-form-in_default.next c.in_ok-form-in_default.form c.new.result.items c.in_default.not-Sequence c.in_default.not-Choice c.new.ensures.items c.in_ok-form-in_default.ensures.value))
