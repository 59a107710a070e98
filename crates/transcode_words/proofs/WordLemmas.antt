-- Numbers in digits, and roots without braces.
use Rattle.std.proofs.Common.{◌≡◌, ℕ, Bool, true, false, cond, ◌+◌, ◌-◌, ◌*◌, ◌<◌, ◌≤◌, List, [], ◌∷◌, length, get_or, refl, sym, ap, ◌∙◌, arith, Option, Some, None}
use Rattle.std.specs.Prelude.{if◌then◌else◌, ◌==◌}
use Rattle.std.specs.Str.{chars}
use Rattle.std.proofs.lemmas.Bool.{eqb-true}
use Rattle.std.proofs.lemmas.Str.{chars-nil}
use Rattle.base_texts.specs.Characters.{is_ncname}
use Rattle.base_texts.specs.declared.texts.Name.{Name}
use Rattle.base_texts.specs.Digits.{number_from}
use Rattle.transcode_words.specs.Words.{root_of, braced}

-- more digits make no number less
pub le-number_from : (n : ℕ) (bs : List ℕ) → n ≤ number_from n bs
le-number_from n [] = omega arith
le-number_from n (b ∷ bs) = omega (arith, le-number_from (10 * n + (b - 48)) bs)

chosen : (t : Bool) (b : ℕ) (x y : Option Name) → (b ≡ 123 → ⊥) → t ≡ (b == 123) → cond t x y ≡ y
chosen true b x y other is = absurd (other (eqb-true b 123 (sym is)))
chosen false b x y other is = refl

-- a word that doesn't begin with a brace
pub unbraced : (word : List ℕ) → ((rest : List ℕ) → word ≡ 123 ∷ rest → ⊥) → root_of word ≡ (if is_ncname (chars word) then Some (record { space = []; local = word }) else None)
unbraced [] other = rw chars-nil refl
unbraced (b ∷ bs) other = chosen (b == 123) b (braced bs) _ (λ e. other bs (ap (λ c. c ∷ bs) e)) refl

-- a number over the greatest stays over it
pub over : (n : ℕ) (bs : List ℕ) → 1 ≤ length bs → 100000 < 10 * n + (get_or bs 0 0 - 48) → 100000 < number_from n bs
over n [] some h = absurd (omega arith)
over n (b ∷ bs) some h = omega (arith, le-number_from (10 * n + (b - 48)) bs)

-- an NCName is a root without a namespace
pub plain_root : (word local : List ℕ) → ((rest : List ℕ) → word ≡ 123 ∷ rest → ⊥) → local ≡ word → is_ncname (chars word) ≡ true
    → Some (record { space = []; local = local }) ≡ root_of word
plain_root word local other same passes =
    let e : Some (record { space = []; local = local }) ≡ (if is_ncname (chars word) then Some (record { space = []; local = word }) else None) =
    rw (same, passes) refl in
    e ∙ sym (unbraced word other)
