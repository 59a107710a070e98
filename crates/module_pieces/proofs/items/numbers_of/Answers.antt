use Rattle.std.proofs.Common.{Some, ◌+◌, ◌++◌, [], ◌∷◌, drop, sym, ap, ◌∙◌, append-nil}
use Rattle.std.proofs.lemmas.List.{at_drop_more, at_drop_all}
use Rattle.simple_types.specs.Lexical.{whole_number}
use Rattle.module_text.specs.Told.{whole_of}
use Rattle.module_text.specs.Simple.{with_number, numbers_of}
use Rattle.std.proofs.lemmas.Int.{to_z-of_z}
use mir.Syntax.{w128}
use Rattle.module_pieces.proofs.Numerals.{kept-fits}
use Rattle.module_pieces.proofs.Listing.{with_front, front-more}
use Rattle.module_pieces.proofs.items.numbers_of.Goals as goal

pub items-preserved : goal.items-preserved
items-preserved c =
    let items = c.args.items.now in
    let i = c.items.item-index in
    let xs = c.items.numbers.items in
    let rest = numbers_of (drop (i + 1) items) in
    ap (λ zs. with_front zs rest) c.in_ok-push.ensures.items
    ∙ ap (λ z. with_front (xs ++ z ∷ []) rest) (to_z-of_z w128 c.in-Some.number (kept-fits (whole_number c.item-item.result.number.written) c.in-Some.number c.in-Some.ensures))
    ∙ front-more xs c.in-Some.number rest
    ∙ ap (λ o. with_front xs (with_number o rest)) c.in-Some.ensures
    ∙ ap (λ item. with_front xs (with_number (whole_of item.number) rest)) c.item-item.is
    ∙ sym (at_drop_more (λ is. with_front xs (numbers_of is)) items i c.item-item.result c.items-test.true)
    ∙ c.items.invariant

pub returns-in_default : goal.returns-in_default
returns-in_default c =
    let items = c.args.items.now in
    let i = c.items.item-index in
    let xs = c.items.numbers.items in
    let rest = numbers_of (drop (i + 1) items) in
    sym
    (ap (λ o. with_front xs (with_number o rest)) c.in_default.ensures
    ∙ ap (λ item. with_front xs (with_number (whole_of item.number) rest)) c.item-item.is
    ∙ sym (at_drop_more (λ is. with_front xs (numbers_of is)) items i c.item-item.result c.items-test.true)
    ∙ c.items.invariant)

pub returns : goal.returns
returns c =
    let xs = c.items.numbers.items in
    sym c.items.invariant
    ∙ at_drop_all (λ is. with_front xs (numbers_of is)) c.args.items.now c.items.item-index c.items-test.false
    ∙ ap Some (append-nil xs)
