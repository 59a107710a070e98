-- A particle that isn't dropped, in a document without a fault, may occur.
use Rattle.std.proofs.Common.{◌≡◌, ℕ, ◌+◌, ◌-◌, ◌*◌, ◌≤◌, Bool, true, false, cond, List, [], ◌∷◌, Option, Some, None, inl, inr, refl, ap, subst, sym, ◌∙◌, arith, ◌&&◌, ◌||◌, ◌==◌, nat_le, nat_lt, codes, unwrap_or}
use Rattle.schema_read.proofs.Words.{list_all, and_from, and_parts, and_cases, or_parts, cases_Bool, le-leb, leb-true, ltb-false, eqb-true, eqb-false, both_ways, beside, digits_of, is_crossed, is_no_all, declares_xmlns, has_malformed, has_bad_value, least_of, most_of, never_occurs, ElementRole, allow_one}
use Rattle.base_texts.specs.Digits.{is_digit, is_numeral, number_from, number_of}
use Rattle.schema_syntax.specs.Digits.{is_zero, small, is_over}

no_less : (n : ℕ) (bs : List ℕ) → n ≤ number_from n bs
no_less n [] = omega arith
no_less n (b ∷ bs) = omega (arith, no_less (10 * n + (b - 48)) bs)

-- a number with a digit that isn't 0 is none
number_positive : (bs : List ℕ) → list_all is_digit bs ≡ true → list_all (λ b. b == 48) bs ≡ false → 1 ≤ number_from 0 bs
number_positive [] digits other = absurd (let e : true ≡ false = other in cc)
number_positive (b ∷ bs) digits other =
    let two = and_parts (is_digit b) (list_all is_digit bs) digits in
    let bounds = and_parts (nat_le 48 b) (nat_le b 57) two.0 in
    let low = leb-true 48 b bounds.0 in
    elim (cases_Bool (b == 48)) [
      | inl is ↦
          let same : b ≡ 48 = eqb-true b 48 is in
          let rest : list_all (λ c. c == 48) bs ≡ false = ap (λ t. t && list_all (λ c. c == 48) bs) (sym is) ∙ other in
          let zero : 10 * 0 + (b - 48) ≡ 0 = omega (arith, same) in
          subst (λ n. 1 ≤ number_from n bs) (sym zero) (number_positive bs two.1 rest)
      | inr is ↦
          let apart = eqb-false b 48 is in
          let k = no_less (10 * 0 + (b - 48)) bs in
          omega (arith, low, apart, k)
    ]

is_zero_of : (v : List ℕ) → is_numeral v ≡ true → is_zero v ≡ false → 1 ≤ number_of v
is_zero_of [] numeral zero = absurd (let e : false ≡ true = numeral in cc)
is_zero_of (b ∷ bs) numeral zero = number_positive (b ∷ bs) (and_parts true (list_all is_digit (b ∷ bs)) numeral).1 zero

positive_by : (o : Option (List ℕ)) → elim o [ None ↦ false | Some value ↦ is_zero value ] ≡ false → is_numeral (elim o [ None ↦ codes "1" | Some value ↦ value ]) ≡ true
    → 1 ≤ number_of (elim o [ None ↦ codes "1" | Some value ↦ value ])
positive_by None never numeral = omega arith
positive_by (Some value) never numeral = is_zero_of value numeral never

least_small : (a : List ℕ) (b : Bool) (most : ℕ) → nat_lt (number_of a) 4294967296 ≡ b → 1 ≤ most → number_of a ≤ most → unwrap_or (cond b (Some (number_of a)) None) 1 ≤ most
least_small a true most is one le = le
least_small a false most is one le = one

least_by : (a : List ℕ) (b : Bool) (most : ℕ) → is_numeral a ≡ b → 1 ≤ most → (is_numeral a ≡ true → number_of a ≤ most) → unwrap_or (cond b (small (number_of a)) None) 1 ≤ most
least_by a true most is one le = least_small a (nat_lt (number_of a) 4294967296) most refl one (le is)
least_by a false most is one le = one

allow_small : (least n : ℕ) (b : Bool) → least ≤ n → 1 ≤ n → allow_one least (cond b (Some n) None) ≡ true
allow_small least n true le one = and_from (nat_le least n) (nat_le 1 n) (le-leb least n le) (le-leb 1 n one)
allow_small least n false le one = refl

allow_by : (least : ℕ) (b : List ℕ) (c : Bool) → is_numeral b ≡ c → (is_numeral b ≡ true → (least ≤ number_of b) × (1 ≤ number_of b)) → allow_one least (cond c (small (number_of b)) None) ≡ true
allow_by least b true is le = let two = le is in allow_small least (number_of b) (nat_lt (number_of b) 4294967296) two.0 two.1
allow_by least b false is le = refl

not_over : (a b : List ℕ) → is_over a b ≡ false → is_numeral a ≡ true → is_numeral b ≡ true → number_of a ≤ number_of b
not_over a b over first second =
    elim (and_cases (is_numeral a && is_numeral b) (nat_lt (number_of b) (number_of a)) over) [
      | inl other ↦ absurd (both_ways (is_numeral a && is_numeral b) other (and_from (is_numeral a) (is_numeral b) first second))
      | inr le ↦ ltb-false (number_of b) (number_of a) le
    ]

pub may_occur : (role : ElementRole) (scope own : List (List ℕ × List ℕ)) → has_bad_value role scope own ≡ false → never_occurs own ≡ false → allow_one (least_of own) (most_of own) ≡ true
may_occur role scope own good occurs =
    let least = digits_of (codes "minOccurs") own in
    let most = digits_of (codes "maxOccurs") own in
    let parts = or_parts (has_malformed scope own || declares_xmlns role own) (is_crossed own)
    (or_parts (has_malformed scope own || declares_xmlns role own || is_crossed own) (is_no_all role own) good).0 in
    allow_by (least_of own) most (is_numeral most) refl
    (λ numeral.
    let one : 1 ≤ number_of most = positive_by (beside (codes "maxOccurs") own) occurs numeral in
    (least_by least (is_numeral least) (number_of most) refl one (λ first. not_over least most parts.1 first numeral), one))
