use Rattle.std.proofs.Common.{Some, ◌+◌, ◌∷◌, drop, sym, ap, ◌∙◌}
use Rattle.std.proofs.lemmas.List.{at_drop_more, at_drop_all}
use Rattle.module_text.specs.Listed.{first}
use Rattle.module_text.specs.Faults.{part_mark_faults}
use Rattle.module_pieces.proofs.Listing.{mark-passed, mark-stopped}
use Rattle.module_pieces.proofs.part_marks.part_mark_fault.Goals as goal

pub marks-preserved : goal.marks-preserved
marks-preserved c =
    let simple = c.args.simple in
    let generated = c.args.generated.now in
    let marks = c.args.marks.now in
    let i = c.marks.mark-index in
    let before = c.marks.before in
    let rest = drop (i + 1) marks in
    ap (λ rank. first (part_mark_faults simple generated (Some rank) rest)) c.rank.ensures
    ∙ mark-passed simple generated before c.mark-item.result rest (sym c.stands.ensures ∙ c.if-not-stands.false)
    ∙ ap (λ m. first (part_mark_faults simple generated before (m ∷ rest))) c.mark-item.is
    ∙ sym (at_drop_more (λ ms. first (part_mark_faults simple generated before ms)) marks i c.mark-item.result c.marks-test.true)
    ∙ c.marks.invariant

pub returns-then-not-stands : goal.returns-then-not-stands
returns-then-not-stands c =
    let simple = c.args.simple in
    let generated = c.args.generated.now in
    let marks = c.args.marks.now in
    let i = c.marks.mark-index in
    let before = c.marks.before in
    let rest = drop (i + 1) marks in
    mark-stopped simple generated before c.mark-item.result rest (sym c.stands.ensures ∙ c.if-not-stands.true)
    ∙ ap (λ m. first (part_mark_faults simple generated before (m ∷ rest))) c.mark-item.is
    ∙ sym (at_drop_more (λ ms. first (part_mark_faults simple generated before ms)) marks i c.mark-item.result c.marks-test.true)
    ∙ c.marks.invariant

pub returns : goal.returns
unfolding first
returns c =
    sym (at_drop_all (λ ms. first (part_mark_faults c.args.simple c.args.generated.now c.marks.before ms)) c.args.marks.now c.marks.mark-index c.marks-test.false)
    ∙ c.marks.invariant
