-- Tests, and bytes of classes.
use Rattle.std.proofs.Common.{◌≡◌, ◌==◌, ℕ, Bool, true, false, ◌&&◌, not, nat_le, refl, sym, ap, ◌∙◌, arith, eqb-true}
use Rattle.std.proofs.lemmas.Bool.{leb-true}
use Rattle.module_text.specs.Names.{is_capital, is_small}
use Rattle.base_texts.specs.Digits.{is_digit}

pub both : (s t : Bool) → s && t ≡ true → (s ≡ true) × (t ≡ true)
both true t e = (refl, e)
both false t e = absurd cc

pub and_true : (s t : Bool) → s ≡ true → t ≡ true → s && t ≡ true
and_true s t e f = ap (λ k. k && t) e ∙ f

pub not_true : (t : Bool) → not t ≡ true → t ≡ false
not_true true e = absurd cc
not_true false e = refl

pub false_not : (t : Bool) → t ≡ false → not t ≡ true
false_not t e = ap not e

-- a byte that passes a test that this one fails
pub is_other : (test : ℕ → Bool) (b c : ℕ) → test b ≡ true → test c ≡ false → (b == c) ≡ false
is_other test b c e f = cases (b == c) refl
  where
    cases : (t : Bool) → (b == c) ≡ t → t ≡ false
    cases true h = sym (sym f ∙ ap test (sym (eqb-true b c h)) ∙ e)
    cases false h = refl

and_false : (s t : Bool) → t ≡ false → s && t ≡ false
and_false true t e = e
and_false false t e = refl

-- a small letter is no digit
pub small_no_digit : (b : ℕ) → is_small b ≡ true → is_digit b ≡ false
small_no_digit b e = and_false (nat_le 0x30 b) (nat_le b 0x39) (cases (nat_le b 0x39) refl)
  where
    cases : (t : Bool) → nat_le b 0x39 ≡ t → t ≡ false
    cases true h = absurd (omega (arith, leb-true 0x61 b (both (nat_le 0x61 b) (nat_le b 0x7A) e).0, leb-true b 0x39 h))
    cases false h = refl

-- a capital letter is no small one
pub capital_no_small : (b : ℕ) → is_capital b ≡ true → is_small b ≡ false
capital_no_small b e = cases (nat_le 0x61 b) refl
  where
    cases : (t : Bool) → nat_le 0x61 b ≡ t → t && nat_le b 0x7A ≡ false
    cases true h = absurd (omega (arith, leb-true b 0x5A (both (nat_le 0x41 b) (nat_le b 0x5A) e).1, leb-true 0x61 b h))
    cases false h = refl
