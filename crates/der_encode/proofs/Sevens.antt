-- The octets of 7 bits of an identifier, from the last to the first.
use Rattle.std.proofs.Common.{◌≡◌, ℕ, zero, suc, ◌+◌, ◌/◌, ◌%◌, ◌<◌, ◌≤◌, Bool, ltb, eqb, List, [], ◌∷◌, ◌++◌, reverse, refl, sym, ap, ◌∙◌, arith, append_assoc, inl, inr}
use Rattle.std.proofs.lemmas.Bool.{cases_lt, le-ltb, eq-eqb, ne_eqb}
use Rattle.std.proofs.lemmas.List.{reverse-append}
use Rattle.base_codecs.proofs.Sequences.{cond_false}
use Rattle.der_fields.specs.Octets.{high_sevens, sevens, form_bit, context_identifier}
use Rattle.der_fields.proofs.FieldsNumbers.{pick_true, pick_false}

tail_last : (turns n : ℕ) (tail : List ℕ) → high_sevens turns n tail ≡ high_sevens turns n [] ++ tail
unfolding high_sevens
tail_last zero n tail = refl
tail_last (suc turns) n tail = elim (cases_lt 0 n) [
  | inl some ↦ pick_false (eqb n 0) tail (high_sevens turns (n / 128) ((128 + n % 128) ∷ tail)) (ne_eqb n 0 (omega (arith, some)))
      ∙ tail_last turns (n / 128) ((128 + n % 128) ∷ tail)
      ∙ sym (append_assoc (high_sevens turns (n / 128) []) ((128 + n % 128) ∷ []) tail)
      ∙ sym (ap (λ xs. xs ++ tail) (pick_false (eqb n 0) [] (high_sevens turns (n / 128) ((128 + n % 128) ∷ [])) (ne_eqb n 0 (omega (arith, some))) ∙ tail_last turns (n / 128) ((128 + n % 128) ∷ [])))
  | inr none ↦ pick_true (eqb n 0) tail (high_sevens turns (n / 128) ((128 + n % 128) ∷ tail)) (eq-eqb n 0 (omega arith))
      ∙ sym (ap (λ xs. xs ++ tail) (pick_true (eqb n 0) [] (high_sevens turns (n / 128) ((128 + n % 128) ∷ [])) (eq-eqb n 0 (omega arith))))
]

enough : (m k n : ℕ) (tail : List ℕ) → n ≤ m → n ≤ k → high_sevens m n tail ≡ high_sevens k n tail
unfolding high_sevens
enough zero zero n tail le ge = refl
enough zero (suc k) n tail le ge = sym (pick_true (eqb n 0) tail (high_sevens k (n / 128) ((128 + n % 128) ∷ tail)) (eq-eqb n 0 (omega (arith, le))))
enough (suc m) zero n tail le ge = pick_true (eqb n 0) tail (high_sevens m (n / 128) ((128 + n % 128) ∷ tail)) (eq-eqb n 0 (omega (arith, ge)))
enough (suc m) (suc k) n tail le ge = elim (cases_lt 0 n) [
  | inl some ↦ pick_false (eqb n 0) tail (high_sevens m (n / 128) ((128 + n % 128) ∷ tail)) (ne_eqb n 0 (omega (arith, some)))
      ∙ enough m k (n / 128) ((128 + n % 128) ∷ tail) (omega (arith, le, some)) (omega (arith, ge, some))
      ∙ sym (pick_false (eqb n 0) tail (high_sevens k (n / 128) ((128 + n % 128) ∷ tail)) (ne_eqb n 0 (omega (arith, some))))
  | inr none ↦ pick_true (eqb n 0) tail (high_sevens m (n / 128) ((128 + n % 128) ∷ tail)) (eq-eqb n 0 (omega arith)) ∙ sym (pick_true (eqb n 0) tail (high_sevens k (n / 128) ((128 + n % 128) ∷ tail)) (eq-eqb n 0 (omega arith)))
]

abbrev pub sevens_back : ℕ → List ℕ
sevens_back n = reverse (high_sevens n n [])

pub no_sevens : sevens_back 0 ≡ []
unfolding high_sevens
no_sevens = refl

pub next_seven : (n : ℕ) → 0 < n → sevens_back n ≡ (128 + n % 128) ∷ sevens_back (n / 128)
unfolding high_sevens
next_seven zero some = absurd (omega (arith, some))
next_seven (suc n) some =
    let xs = high_sevens (suc n / 128) (suc n / 128) [] in
    ap reverse (pick_false (eqb (suc n) 0) [] (high_sevens n (suc n / 128) ((128 + suc n % 128) ∷ [])) (ne_eqb (suc n) 0 (omega arith))
    ∙ tail_last n (suc n / 128) ((128 + suc n % 128) ∷ [])
    ∙ ap (λ ys. ys ++ ((128 + suc n % 128) ∷ [])) (enough n (suc n / 128) (suc n / 128) [] (omega arith) (omega arith)))
    ∙ reverse-append xs ((128 + suc n % 128) ∷ [])

-- the whole identifier, from 31 on
pub large_back : (c : Bool) (i : ℕ) → 31 ≤ i → reverse (context_identifier c i) ≡ (i % 128 ∷ sevens_back (i / 128)) ++ ((159 + form_bit c) ∷ [])
large_back c i ge =
    ap reverse (cond_false (ltb i 31) ((128 + form_bit c + i) ∷ []) ((159 + form_bit c) ∷ sevens i) (le-ltb i 31 ge))
    ∙ reverse-append ((159 + form_bit c) ∷ []) (sevens i)
    ∙ ap (λ xs. xs ++ ((159 + form_bit c) ∷ []))
    (ap reverse (tail_last i (i / 128) (i % 128 ∷ []) ∙ ap (λ xs. xs ++ (i % 128 ∷ [])) (enough i (i / 128) (i / 128) [] (omega arith) (omega arith)))
    ∙ reverse-append (high_sevens (i / 128) (i / 128) []) (i % 128 ∷ []))
