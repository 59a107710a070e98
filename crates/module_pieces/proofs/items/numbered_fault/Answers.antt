use Rattle.std.proofs.Common.{◌+◌, ◌++◌, [], ◌∷◌, drop, sym, ap, ◌∙◌}
use Rattle.std.proofs.lemmas.List.{at_drop_more, at_drop_all}
use Rattle.module_text.specs.declared.types.NumberedItem.{NumberedItem}
use Rattle.module_text.specs.Listed.{first}
use Rattle.module_text.specs.Faults.{numbered_faults}
use Rattle.module_pieces.proofs.Listing.{item-again, item-faulty, item-passed}
use Rattle.module_pieces.proofs.items.numbered_fault.Goals as goal

pub returns-then-has : goal.returns-then-has
returns-then-has c =
    let items = c.args.items.now in
    let i = c.items.item-index in
    let item = c.item-item.result in
    let rest = drop (i + 1) items in
    item-again c.items.seen c.items.last item rest (sym c.has.ensures ∙ c.if-has.true)
    ∙ ap (λ (x : NumberedItem). first (numbered_faults c.items.seen c.items.last (x ∷ rest))) c.item-item.is
    ∙ sym (at_drop_more (λ is. first (numbered_faults c.items.seen c.items.last is)) items i item c.items-test.true)
    ∙ c.items.invariant

pub returns-in-Some : goal.returns-in-Some
returns-in-Some c =
    let items = c.args.items.now in
    let i = c.items.item-index in
    let item = c.item-item.result in
    let rest = drop (i + 1) items in
    item-faulty c.items.seen c.items.last item rest c.in-Some.fault (sym c.has.ensures ∙ c.if-has.false) c.in-Some.ensures
    ∙ ap (λ (x : NumberedItem). first (numbered_faults c.items.seen c.items.last (x ∷ rest))) c.item-item.is
    ∙ sym (at_drop_more (λ is. first (numbered_faults c.items.seen c.items.last is)) items i item c.items-test.true)
    ∙ c.items.invariant

pub items-preserved : goal.items-preserved
items-preserved c =
    let items = c.args.items.now in
    let i = c.items.item-index in
    let item = c.item-item.result in
    let rest = drop (i + 1) items in
    ap (λ seen. first (numbered_faults seen c.whole_of-last.result rest)) c.in_ok-note.ensures
    ∙ ap (λ name. first (numbered_faults (c.items.seen ++ name ∷ []) c.whole_of-last.result rest)) c.in_ok-copy.ensures
    ∙ ap (λ last. first (numbered_faults (c.items.seen ++ item.identifier.name ∷ []) last rest)) c.whole_of-last.ensures
    ∙ item-passed c.items.seen c.items.last item rest (sym c.has.ensures ∙ c.if-has.false) c.in_default.ensures
    ∙ ap (λ (x : NumberedItem). first (numbered_faults c.items.seen c.items.last (x ∷ rest))) c.item-item.is
    ∙ sym (at_drop_more (λ is. first (numbered_faults c.items.seen c.items.last is)) items i item c.items-test.true)
    ∙ c.items.invariant

pub returns : goal.returns
unfolding first
returns c =
    sym (at_drop_all (λ is. first (numbered_faults c.items.seen c.items.last is)) c.args.items.now c.items.item-index c.items-test.false)
    ∙ c.items.invariant
