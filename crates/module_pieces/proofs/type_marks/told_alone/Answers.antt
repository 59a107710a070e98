use Rattle.std.proofs.Common.{◌+◌, ◌∷◌, drop, sym, ap, ◌∙◌}
use Rattle.std.proofs.lemmas.List.{at_drop_more, at_drop_all}
use Rattle.module_text.specs.Told.{alone_behind, with_mark}
use Rattle.module_pieces.proofs.type_marks.told_alone.Goals as goal

pub marks-preserved : goal.marks-preserved
marks-preserved c =
    let marks = c.args.marks.now in
    let i = c.marks.mark-index in
    let seen = c.marks.seen in
    let rest = drop (i + 1) marks in
    ap (λ s. alone_behind s rest) c.with_mark-seen.ensures
    ∙ ap (λ m. alone_behind (with_mark seen m) rest) c.mark-item.is
    ∙ sym (at_drop_more (alone_behind seen) marks i c.mark-item.result c.marks-test.true)
    ∙ c.marks.invariant

pub returns : goal.returns
returns c = sym (at_drop_all (alone_behind c.marks.seen) c.args.marks.now c.marks.mark-index c.marks-test.false) ∙ c.marks.invariant
