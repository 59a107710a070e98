use Rattle.std.proofs.Common.{◌≡◌, ◌<◌, ◌⊎◌, true, length, get_or, sym, ◌∙◌, arith, inl, inr}
use Rattle.std.proofs.lemmas.List.{at_drop_all}
use Rattle.std.proofs.lemmas.Bool.{true≢false}
use Rattle.std.proofs.lemmas.Bool.Decides.{nat_tests}
use Rattle.base_texts.proofs.Collapsing.{well_spaced, refused, not_collapsed, is_collapsed-nil, is_collapsed-cons}
use Rattle.base_texts.proofs.white_space.is_collapsed.Goals as goal

-- the loop meets a byte that breaks the form
pub returns-then-is_apart : goal.returns-then-is_apart
returns-then-is_apart c =
    let bytes = c.args.bytes.now in
    let some : 0 < length bytes = omega arith in
    let white = sym c.is_white_space-is_space.ensures ∙ c.if-is_space.true in
    let broken = elim c.if-is_apart.either as (λ _. (¬ (get_or bytes c.loop-b.b-index 0 ≡ 32)) ⊎ (c.loop-b.is_apart ≡ true)) [ inl other ↦ inl other | inr on ↦ inr on.1 ] in
    let fails = sym c.loop-b.invariant ∙ refused bytes c.loop-b.b-index c.loop-b.is_apart c.loop-b-test.true white broken in
    (λ yes. absurd (true≢false (sym yes)), λ same. absurd (not_collapsed bytes fails some same))

pub returns-then-is_empty : goal.returns-then-is_empty
returns-then-is_empty c =
    let none : length c.args.bytes.now ≡ 0 = grind (arith, nat_tests) in
    (λ _. is_collapsed-nil c.args.bytes.now none, λ _. c.if-is_empty.true)

pub returns-else-is_empty : goal.returns-else-is_empty
returns-else-is_empty c =
    let bytes = c.args.bytes.now in
    let some : 0 < length bytes = grind (arith, nat_tests) in
    is_collapsed-cons bytes _ some (sym (at_drop_all (well_spaced c.loop-b.is_apart) bytes c.loop-b.b-index c.loop-b-test.false) ∙ c.loop-b.invariant)
