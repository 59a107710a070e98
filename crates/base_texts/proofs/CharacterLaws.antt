-- Laws of the tables of characters.
use Rattle.std.proofs.Common.{◌≡◌, ℕ, ◌≤◌, Bool, true, false, ◌&&◌, ◌||◌, List, [], ◌∷◌, refl, sym, arith}
use Rattle.std.specs.Prelude.{nat_le}
use Rattle.std.specs.List.{list_any, list_all}
use Rattle.std.specs.Cmp.{first_so, second_so}
use Rattle.std.proofs.lemmas.Bool.{true≢false, leb-true}
use Rattle.std.proofs.lemmas.Bool.Decides.{nat_tests}
use Rattle.base_texts.specs.Characters.{in_ranges, name_starts, further_name_chars, xml_chars, is_xml_char, is_name_start, is_name_char}

abbrev covers : ℕ × ℕ → ℕ × ℕ → Bool
covers outer inner = nat_le outer.0 inner.0 && nat_le inner.1 outer.1

-- what lies in a range lies in one that covers it
covered_by : (first last c : ℕ) (outer : List (ℕ × ℕ)) → first ≤ c → c ≤ last → list_any (λ o. covers o (first, last)) outer ≡ true → in_ranges outer c ≡ true
covered_by first last c [] low high some = some
covered_by first last c (o ∷ outer) low high some = grind (arith, nat_tests, covered_by first last c outer low high)

one_of : (p q : Bool) {G : Type 0} → (p || q) ≡ true → (p ≡ true → G) → (q ≡ true → G) → G
one_of true q holds first second = first refl
one_of false q holds first second = second holds

covered : (c : ℕ) (inner outer : List (ℕ × ℕ)) → list_all (λ range. list_any (λ o. covers o range) outer) inner ≡ true → in_ranges inner c ≡ true → in_ranges outer c ≡ true
covered c [] outer each has = absurd (true≢false (sym has))
covered c (range ∷ inner) outer each has =
    let this = list_any (λ o. covers o range) outer in
    let others = list_all (λ range. list_any (λ o. covers o range) outer) inner in
    one_of (nat_le range.0 c && nat_le c range.1) (in_ranges inner c) has
    (λ within. covered_by range.0 range.1 c outer
    (leb-true range.0 c (first_so (nat_le range.0 c) (nat_le c range.1) within)) (leb-true c range.1 (second_so (nat_le range.0 c) (nat_le c range.1) within))
    (first_so this others each))
    (covered c inner outer (second_so this others each))

-- a name start is a name character
pub name_start-name_char : (c : ℕ) → is_name_start c ≡ true → is_name_char c ≡ true
unfolding is_name_start is_name_char
name_start-name_char c starts = rw starts refl

-- a name character is an XML character
pub name_char-xml_char : (c : ℕ) → is_name_char c ≡ true → is_xml_char c ≡ true
unfolding is_name_char is_xml_char
name_char-xml_char c in_name =
    one_of (in_ranges name_starts c) (in_ranges further_name_chars c) in_name (covered c name_starts xml_chars refl) (covered c further_name_chars xml_chars refl)
