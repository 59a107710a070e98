-- No identifier begins another.
use Rattle.std.proofs.Common.{◌≡◌, ℕ, zero, suc, ◌+◌, ◌-◌, ◌*◌, ◌/◌, ◌%◌, ◌<◌, ◌≤◌, Bool, true, false, cond, eqb, ltb, List, [], ◌∷◌, ◌++◌, length, drop, refl, sym, ap, ◌∙◌, arith, inl, inr}
use Rattle.std.proofs.lemmas.Bool.{cases_lt, lt-ltb, le-ltb, eqb-true, eq-eqb, ne_eqb, and_parts, and_from}
use Rattle.base_codecs.proofs.Sequences.{cond_true, cond_false}
use Rattle.der_fields.proofs.FieldsNumbers.{pick_true, pick_false}
use Rattle.der_fields.specs.Octets.{high_sevens, sevens, form_bit, context_identifier, begins}

pub begins_all : (xs rest : List ℕ) → begins xs (xs ++ rest) ≡ true
begins_all [] rest = refl
begins_all (x ∷ xs) rest = and_from (eqb x x) (begins xs (xs ++ rest)) (eq-eqb x x refl) (begins_all xs rest)

pub begins_parts : (xs ys : List ℕ) → begins xs ys ≡ true → ys ≡ xs ++ drop (length xs) ys
begins_parts [] ys e = refl
begins_parts (x ∷ xs) [] e = absurd cc
begins_parts (x ∷ xs) (y ∷ ys) e =
    let h = and_parts (eqb x y) (begins xs ys) e in
    let same : x ≡ y = eqb-true x y h.0 in
    ap (λ m. m ∷ ys) (sym same) ∙ ap (λ m. x ∷ m) (begins_parts xs ys h.1)

-- what octets of 7 bits stand for, up to the first without the top bit, going on from acc
abbrev seven_value : ℕ → List ℕ → ℕ
seven_value acc [] = acc
seven_value acc (x ∷ xs) = cond (ltb x 128) (128 * acc + x) (seven_value (128 * acc + (x - 128)) xs)

high_value : (turns n : ℕ) (tail : List ℕ) → n ≤ turns → seven_value 0 (high_sevens turns n tail) ≡ seven_value n tail
unfolding high_sevens
high_value zero n tail le = ap (λ m. seven_value m tail) (omega (arith, le))
high_value (suc turns) n tail le = elim (cases_lt 0 n) [
  | inl lt ↦ ap (seven_value 0) (pick_false (eqb n 0) tail (high_sevens turns (n / 128) ((128 + n % 128) ∷ tail)) (ne_eqb n 0 (omega arith)))
      ∙ high_value turns (n / 128) ((128 + n % 128) ∷ tail) (omega (arith, le, lt))
      ∙ cond_false (ltb (128 + n % 128) 128) (128 * (n / 128) + (128 + n % 128)) (seven_value (128 * (n / 128) + (128 + n % 128 - 128)) tail) (le-ltb (128 + n % 128) 128 (omega arith))
      ∙ ap (λ m. seven_value m tail) (omega arith)
  | inr ge ↦ ap (seven_value 0) (pick_true (eqb n 0) tail (high_sevens turns (n / 128) ((128 + n % 128) ∷ tail)) (eq-eqb n 0 (omega arith))) ∙ ap (λ m. seven_value m tail) (omega arith)
]

high_append : (turns n : ℕ) (tail rest : List ℕ) → high_sevens turns n tail ++ rest ≡ high_sevens turns n (tail ++ rest)
unfolding high_sevens
high_append zero n tail rest = refl
high_append (suc turns) n tail rest = by (eqb n 0) (high_append turns (n / 128) ((128 + n % 128) ∷ tail) rest)
  where
    by : (b : Bool) → high_sevens turns (n / 128) ((128 + n % 128) ∷ tail) ++ rest ≡ high_sevens turns (n / 128) ((128 + n % 128) ∷ (tail ++ rest))
        → elim b as (λ _. List ℕ) [ true ↦ tail | false ↦ high_sevens turns (n / 128) ((128 + n % 128) ∷ tail) ] ++ rest ≡ elim b as (λ _. List ℕ) [ true ↦ tail ++ rest | false ↦ high_sevens turns (n / 128) ((128 + n % 128) ∷ (tail ++ rest)) ]
    by true h = refl
    by false h = h

seven_is : (n : ℕ) (rest : List ℕ) → seven_value 0 (sevens n ++ rest) ≡ n
seven_is n rest =
    ap (seven_value 0) (high_append n (n / 128) (n % 128 ∷ []) rest) ∙ high_value n (n / 128) (n % 128 ∷ rest) (omega arith)
    ∙ cond_true (ltb (n % 128) 128) (128 * (n / 128) + n % 128) (seven_value (128 * (n / 128) + (n % 128 - 128)) rest) (lt-ltb (n % 128) 128 (omega arith)) ∙ (omega arith)

abbrev tail_of : List ℕ → List ℕ
tail_of [] = []
tail_of (x ∷ xs) = xs

abbrev head_of : List ℕ → ℕ
head_of [] = 0
head_of (x ∷ xs) = x

small_identifier : (c : Bool) (i : ℕ) → i < 31 → context_identifier c i ≡ (128 + form_bit c + i) ∷ []
small_identifier c i lt = cond_true (ltb i 31) ((128 + form_bit c + i) ∷ []) ((159 + form_bit c) ∷ sevens i) (lt-ltb i 31 lt)

large_identifier : (c : Bool) (i : ℕ) → 31 ≤ i → context_identifier c i ≡ (159 + form_bit c) ∷ sevens i
large_identifier c i ge = cond_false (ltb i 31) ((128 + form_bit c + i) ∷ []) ((159 + form_bit c) ∷ sevens i) (le-ltb i 31 ge)

bit_is : (c : Bool) → (k : ℕ) × (k < 2) × (form_bit c ≡ 32 * k)
bit_is true = (1, omega arith, refl)
bit_is false = (0, omega arith, refl)

-- the numbers are one, where octets begin with both
pub one_number : (c d : Bool) (i j : ℕ) (x y : List ℕ) → context_identifier c i ++ x ≡ context_identifier d j ++ y → i ≡ j
one_number c d i j x y e =
    let p = bit_is c in
    let q = bit_is d in
    elim (cases_lt i 31) [
      | inl a ↦ (elim (cases_lt j 31) [
        | inl b ↦ (
            let h : 128 + form_bit c + i ≡ 128 + form_bit d + j = ap head_of (ap (λ m. m ++ x) (sym (small_identifier c i a)) ∙ e ∙ ap (λ m. m ++ y) (small_identifier d j b)) in
            omega (arith, h, p.2, q.2, p.1, q.1, a, b))
        | inr b ↦ (
            let h : 128 + form_bit c + i ≡ 159 + form_bit d = ap head_of (ap (λ m. m ++ x) (sym (small_identifier c i a)) ∙ e ∙ ap (λ m. m ++ y) (large_identifier d j b)) in
            absurd (omega (arith, h, p.2, q.2, p.1, q.1, a)))
      ])
      | inr a ↦ (elim (cases_lt j 31) [
        | inl b ↦ (
            let h : 159 + form_bit c ≡ 128 + form_bit d + j = ap head_of (ap (λ m. m ++ x) (sym (large_identifier c i a)) ∙ e ∙ ap (λ m. m ++ y) (small_identifier d j b)) in
            absurd (omega (arith, h, p.2, q.2, p.1, q.1, b)))
        | inr b ↦ (
            let h : sevens i ++ x ≡ sevens j ++ y = ap tail_of (ap (λ m. m ++ x) (sym (large_identifier c i a)) ∙ e ∙ ap (λ m. m ++ y) (large_identifier d j b)) in
            sym (seven_is i x) ∙ ap (seven_value 0) h ∙ seven_is j y)
      ])
    ]

-- so no identifier begins that of another part
pub apart : (c d : Bool) (i j : ℕ) (rest : List ℕ) → (i ≡ j → ⊥) → begins (context_identifier c i) (context_identifier d j ++ rest) ≡ false
apart c d i j rest other = by (begins (context_identifier c i) (context_identifier d j ++ rest)) refl
  where
    by : (b : Bool) → begins (context_identifier c i) (context_identifier d j ++ rest) ≡ b → b ≡ false
    by false e = refl
    by true e = absurd (other (one_number c d i j (drop (length (context_identifier c i)) (context_identifier d j ++ rest)) rest (sym (begins_parts (context_identifier c i) (context_identifier d j ++ rest) e))))
