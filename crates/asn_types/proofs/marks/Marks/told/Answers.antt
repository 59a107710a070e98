use Rattle.std.proofs.Common.{◌∷◌, [], ◌++◌, take, ◌∙◌, sym, ap}
use Rattle.std.proofs.lemmas.List.{take_more}
use Rattle.asn_types.specs.Simples.{counting}
use Rattle.asn_types.specs.Private.Telling.{told, with_mark}
use Rattle.asn_types.proofs.SimpleLaws.{told-counting}
use Rattle.asn_types.proofs.marks.Marks.told.Goals as goal

pub marks-preserved : goal.marks-preserved
marks-preserved c =
    let marks = c.items-mark-items.result.now in
    let i = c.marks.mark-index in
    let mark = c.mark-item.result in
    c.with-seen.ensures
    ∙ ap (λ s. with_mark s mark) c.marks.invariant
    ∙ sym (told-counting (take i marks) mark)
    ∙ ap (λ m. told (counting (take i marks ++ m ∷ []))) c.mark-item.is
    ∙ ap (λ ms. told (counting ms)) (sym (take_more marks i mark c.marks-test.true))
