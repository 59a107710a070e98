use Rattle.std.proofs.Common.{ℕ, ◌<◌, ◌+◌, Option, List, [], ◌∷◌, length, drop, get_or, refl, sym, ap, ◌∙◌, arith}
use Rattle.std.specs.Prelude.{nat_le}
use Rattle.std.specs.Option.{option_map}
use Rattle.std.proofs.lemmas.List.{at_drop_more}
use Rattle.module_text.specs.declared.types.PlainName.{PlainName}
use Rattle.module_text.specs.declared.reasons.TextFault.{TextFault}
use Rattle.module_text.specs.Listed.{first}
use Rattle.module_text.specs.Faults.{word_faults}
use Rattle.module_pieces.proofs.Listing.{word-again, word-below, words-ended}
use Rattle.module_pieces.proofs.items.word_fault.Goals as goal

pub returns-then-has : goal.returns-then-has
returns-then-has c =
    let items = c.args.items.now in
    let words = c.args.words.now in
    let i = c.items.i in
    let item = c.index-items-i.result in
    let word = c.index-words-i.result in
    let last = option_map (λ w. w.now) c.items.last in
    let F : List PlainName → List (List ℕ) → Option TextFault = λ is ws. first (word_faults c.args.order c.items.seen last is ws) in
    let in_items : i < length items = omega (arith, c.items-test.true, c.min-count.ensures) in
    let in_words : i < length words = omega (arith, c.items-test.true, c.min-count.ensures) in
    word-again c.args.order c.items.seen last item (drop (i + 1) items) word (drop (i + 1) words) (sym c.has.ensures ∙ c.if-has.true)
    ∙ ap (λ (x : PlainName). F (x ∷ drop (i + 1) items) (word ∷ drop (i + 1) words)) c.index-items-i.is
    ∙ ap (λ x. F (get_or items i item ∷ drop (i + 1) items) (x ∷ drop (i + 1) words)) c.index-words-i.is
    ∙ sym (at_drop_more (λ is. F is (get_or words i word ∷ drop (i + 1) words)) items i item in_items)
    ∙ sym (at_drop_more (λ ws. F (drop i items) ws) words i word in_words)
    ∙ c.items.invariant

pub returns-then-not-may_follow : goal.returns-then-not-may_follow
returns-then-not-may_follow c =
    let items = c.args.items.now in
    let words = c.args.words.now in
    let i = c.items.i in
    let item = c.index-items-i.result in
    let word = c.index-words-i.result in
    let last = option_map (λ w. w.now) c.items.last in
    let F : List PlainName → List (List ℕ) → Option TextFault = λ is ws. first (word_faults c.args.order c.items.seen last is ws) in
    let in_items : i < length items = omega (arith, c.items-test.true, c.min-count.ensures) in
    let in_words : i < length words = omega (arith, c.items-test.true, c.min-count.ensures) in
    word-below c.args.order c.items.seen last item (drop (i + 1) items) word (drop (i + 1) words)
    (sym c.has.ensures ∙ c.if-has.false)
    (sym c.may_follow.ensures ∙ c.if-not-may_follow.true)
    ∙ ap (λ (x : PlainName). F (x ∷ drop (i + 1) items) (word ∷ drop (i + 1) words)) c.index-items-i.is
    ∙ ap (λ x. F (get_or items i item ∷ drop (i + 1) items) (x ∷ drop (i + 1) words)) c.index-words-i.is
    ∙ sym (at_drop_more (λ is. F is (get_or words i word ∷ drop (i + 1) words)) items i item in_items)
    ∙ sym (at_drop_more (λ ws. F (drop i items) ws) words i word in_words)
    ∙ c.items.invariant

pub returns : goal.returns
returns c =
    words-ended c.args.order c.items.seen (option_map (λ w. w.now) c.items.last) c.args.items.now c.args.words.now c.items.i
    (nat_le (length c.args.items.now) c.items.i)
    refl
    (omega (arith, c.items-test.false, c.min-count.ensures))
    ∙ c.items.invariant
