-- Comparing digits is comparing numbers.
use Rattle.std.proofs.Common.{◌≡◌, ℕ, Bool, true, false, cond, ◌+◌, ◌-◌, ◌*◌, ◌<◌, ◌≤◌, List, [], ◌∷◌, length, refl, sym, ap, ◌∙◌, arith}
use Rattle.std.specs.Prelude.{◌==◌, nat_lt, nat_le, ◌&&◌, ◌||◌}
use Rattle.std.specs.List.{list_all}
use Rattle.std.proofs.lemmas.Bool.{eqb-true, leb-true}
use Rattle.std.proofs.lemmas.Bool.Decides.{nat_tests}
use Rattle.base_texts.specs.WhiteSpace.{has_bytes}
use Rattle.base_texts.specs.Digits.{is_digit, is_numeral, number_from, number_of}
use Rattle.schema_syntax.specs.Digits.{is_over}
use Rattle.schema_syntax.specs.Private.Comparing.{without_zeros, is_later, is_greater}

-- ---- tests

lt_true : (a b : ℕ) → a < b → true ≡ nat_lt a b
lt_true a b h = grind (arith, nat_tests)

lt_false : (a b : ℕ) → b ≤ a → false ≡ nat_lt a b
lt_false a b h = grind (arith, nat_tests)

first_true : (a b : Bool) → (a && b) ≡ true → a ≡ true
first_true true b e = refl
first_true false b e = cc

second_true : (a b : Bool) → (a && b) ≡ true → b ≡ true
second_true true b e = e
second_true false b e = cc

-- ---- digits

abbrev Digits : List ℕ → Type 0
Digits [] = Unit {0}
Digits (b ∷ bs) = (48 ≤ b) × (b ≤ 57) × Digits bs

digits_of : (bs : List ℕ) → list_all is_digit bs ≡ true → Digits bs
digits_of [] e = tt
digits_of (b ∷ bs) e =
    let here : is_digit b ≡ true = first_true (is_digit b) (list_all is_digit bs) e in (
      leb-true 48 b (first_true (nat_le 48 b) (nat_le b 57) here),
      leb-true b 57 (second_true (nat_le 48 b) (nat_le b 57) here),
      digits_of bs (second_true (is_digit b) (list_all is_digit bs) e),
    )

-- as many digits behind the greater number make the greater number
greater : (xs ys : List ℕ) (m n : ℕ) → length ys ≡ length xs → Digits ys → m < n → number_from m ys < number_from n xs
greater [] [] m n same digits less = less
greater [] (y ∷ ys) m n same digits less = absurd (omega arith)
greater (x ∷ xs) [] m n same digits less = absurd (omega arith)
greater (x ∷ xs) (y ∷ ys) m n same digits less =
    let top : y ≤ 57 = digits.1 in
    greater xs ys (10 * m + (y - 48)) (10 * n + (x - 48)) (omega arith) digits.2 (omega arith)

by_length : (b : Bool) (x : ℕ) (xs ys : List ℕ) (n : ℕ) → b ≡ nat_le (length ys) (length xs) → length ys ≤ length (x ∷ xs) → Digits ys → 0 < n
    → (length ys ≤ length xs → number_of ys < number_from (10 * n + (x - 48)) xs) → number_of ys < number_from n (x ∷ xs)
by_length true x xs ys n is few digits some rest = rest (leb-true (length ys) (length xs) (sym is))
by_length false x xs ys n is few digits some rest =
    let more : length xs < length ys = grind (arith, nat_tests) in
    greater (x ∷ xs) ys 0 n (omega arith) digits some

-- no fewer digits behind a number above zero make the greater number
longer : (xs ys : List ℕ) (n : ℕ) → length ys ≤ length xs → Digits ys → 0 < n → number_of ys < number_from n xs
longer [] [] n few digits some = some
longer [] (y ∷ ys) n few digits some = absurd (omega arith)
longer (x ∷ xs) ys n few digits some =
    by_length (nat_le (length ys) (length xs)) x xs ys n refl few digits some (λ le. longer xs ys (10 * n + (x - 48)) le digits (omega arith))

by_digit : (b c : Bool) (x y n : ℕ) (xs ys : List ℕ) → b ≡ nat_lt y x → c ≡ (x == y) → length xs ≡ length ys → Digits (x ∷ xs) → Digits (y ∷ ys)
    → is_later xs ys ≡ nat_lt (number_from (10 * n + (x - 48)) ys) (number_from (10 * n + (x - 48)) xs)
    → (b || (c && is_later xs ys)) ≡ nat_lt (number_from n (y ∷ ys)) (number_from n (x ∷ xs))
by_digit true c x y n xs ys is same alike dx dy rest =
    let less : y < x = grind (arith, nat_tests) in
    let low : 48 ≤ y = dy.0 in
    lt_true (number_from n (y ∷ ys)) (number_from n (x ∷ xs)) (greater xs ys (10 * n + (y - 48)) (10 * n + (x - 48)) (sym alike) dy.2 (omega arith))
by_digit false true x y n xs ys is same alike dx dy rest =
    let equal : x ≡ y = eqb-true x y (sym same) in
    rest ∙ ap (λ z. nat_lt (number_from (10 * n + (z - 48)) ys) (number_from n (x ∷ xs))) equal
by_digit false false x y n xs ys is same alike dx dy rest =
    let more : x < y = grind (arith, nat_tests) in
    let low : 48 ≤ x = dx.0 in
    let less : number_from n (x ∷ xs) < number_from n (y ∷ ys) = greater ys xs (10 * n + (x - 48)) (10 * n + (y - 48)) alike dx.2 (omega arith) in
    lt_false (number_from n (y ∷ ys)) (number_from n (x ∷ xs)) (omega arith)

-- of as many digits the first that differs decides
later : (xs ys : List ℕ) (n : ℕ) → length xs ≡ length ys → Digits xs → Digits ys → is_later xs ys ≡ nat_lt (number_from n ys) (number_from n xs)
later [] [] n alike dx dy = lt_false n n (omega arith)
later [] (y ∷ ys) n alike dx dy = absurd (omega arith)
later (x ∷ xs) [] n alike dx dy = absurd (omega arith)
later (x ∷ xs) (y ∷ ys) n alike dx dy =
    let rest : length xs ≡ length ys = omega arith in
    by_digit (nat_lt y x) (x == y) x y n xs ys refl refl rest dx dy (later xs ys (10 * n + (x - 48)) rest dx.2 dy.2)

-- ---- leading zeros

abbrev Leads : List ℕ → Type 0
Leads [] = Unit {0}
Leads (b ∷ bs) = 49 ≤ b

by_zero : (t : Bool) (b : ℕ) (bs : List ℕ) → t ≡ (b == 48) → number_of (without_zeros bs) ≡ number_of bs
    → number_of (cond t (without_zeros bs) (b ∷ bs)) ≡ number_of (b ∷ bs)
by_zero true b bs is rest =
    let zero : b ≡ 48 = eqb-true b 48 (sym is) in
    let none : 0 ≡ 10 * 0 + (b - 48) = omega arith in
    rest ∙ ap (λ n. number_from n bs) none
by_zero false b bs is rest = refl

number_of-without_zeros : (bs : List ℕ) → number_of (without_zeros bs) ≡ number_of bs
number_of-without_zeros [] = refl
number_of-without_zeros (b ∷ bs) = by_zero (b == 48) b bs refl (number_of-without_zeros bs)

digits_kept : (t : Bool) (b : ℕ) (bs : List ℕ) → Digits (b ∷ bs) → Digits (without_zeros bs) → Digits (cond t (without_zeros bs) (b ∷ bs))
digits_kept true b bs all rest = rest
digits_kept false b bs all rest = all

without_zeros-digits : (bs : List ℕ) → Digits bs → Digits (without_zeros bs)
without_zeros-digits [] all = tt
without_zeros-digits (b ∷ bs) all = digits_kept (b == 48) b bs all (without_zeros-digits bs all.2)

leads_kept : (t : Bool) (b : ℕ) (bs : List ℕ) → t ≡ (b == 48) → 48 ≤ b → Leads (without_zeros bs) → Leads (cond t (without_zeros bs) (b ∷ bs))
leads_kept true b bs is low rest = rest
leads_kept false b bs is low rest = grind (arith, nat_tests)

without_zeros-leads : (bs : List ℕ) → Digits bs → Leads (without_zeros bs)
without_zeros-leads [] all = tt
without_zeros-leads (b ∷ bs) all = leads_kept (b == 48) b bs refl all.0 (without_zeros-leads bs all.2)

-- ---- numbers

more_digits : (xs ys : List ℕ) → length ys < length xs → Digits ys → Leads xs → number_of ys < number_of xs
more_digits [] ys more dy leads = absurd (omega arith)
more_digits (x ∷ xs) ys more dy leads =
    let high : 49 ≤ x = leads in
    longer xs ys (10 * 0 + (x - 48)) (omega arith) dy (omega arith)

by_lengths : (b c : Bool) (xs ys : List ℕ) → b ≡ (length xs == length ys) → c ≡ nat_lt (length ys) (length xs) → Digits xs → Digits ys → Leads xs → Leads ys
    → cond b (is_later xs ys) c ≡ nat_lt (number_of ys) (number_of xs)
by_lengths true c xs ys is more dx dy lx ly = later xs ys 0 (eqb-true (length xs) (length ys) (sym is)) dx dy
by_lengths false true xs ys is more dx dy lx ly =
    let less : length ys < length xs = grind (arith, nat_tests) in
    lt_true (number_of ys) (number_of xs) (more_digits xs ys less dy lx)
by_lengths false false xs ys is more dx dy lx ly =
    let less : length xs < length ys = grind (arith, nat_tests) in
    let lower : number_of xs < number_of ys = more_digits ys xs less dx ly in
    lt_false (number_of ys) (number_of xs) (omega arith)

numbers_alone : (a b : List ℕ) → is_numeral a ≡ true → is_numeral b ≡ true → is_greater (without_zeros a) (without_zeros b) ≡ nat_lt (number_of b) (number_of a)
numbers_alone a b na nb =
    let da : Digits a = digits_of a (second_true (has_bytes a) (list_all is_digit a) na) in
    let db : Digits b = digits_of b (second_true (has_bytes b) (list_all is_digit b) nb) in
    let xs = without_zeros a in
    let ys = without_zeros b in
    by_lengths (length xs == length ys) (nat_lt (length ys) (length xs)) xs ys refl refl (without_zeros-digits a da) (without_zeros-digits b db)
    (without_zeros-leads a da) (without_zeros-leads b db)
    ∙ (ap (λ n. nat_lt n (number_of xs)) (number_of-without_zeros b) ∙ ap (λ n. nat_lt (number_of b) n) (number_of-without_zeros a))

chosen : (s t u : Bool) → s ≡ true → t ≡ true → u ≡ (s && t && u)
chosen true true u e f = refl
chosen true false u e f = cc
chosen false t u e f = cc

-- what the comparison tells of two numbers
pub greater_number : (a b xs ys : List ℕ) (r : Bool) → is_numeral a ≡ true → is_numeral b ≡ true → xs ≡ without_zeros a → ys ≡ without_zeros b → r ≡ is_greater xs ys
    → r ≡ is_over a b
greater_number a b xs ys r na nb cut cut' told =
    told ∙ (ap (λ l. is_greater l ys) cut ∙ (ap (λ l. is_greater (without_zeros a) l) cut' ∙ (numbers_alone a b na nb
    ∙ chosen (is_numeral a) (is_numeral b) (nat_lt (number_of b) (number_of a)) na nb)))
