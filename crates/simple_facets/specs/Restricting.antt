-- Restricting a simple type by facets (XML Schema Part 2, section 4.3), in three steps. First the facets except `enumeration` are
-- applied, in their order. Then a value must be left. Then each `enumeration` is applied, in order.
use Rattle.std.specs.Prelude.{◌≡◌, ◌↔◌, ℕ, Bool, true, false, ◌&&◌, not, nat_le, max, min, int_lt, ℤ, pos, negsuc, Option, Some, None, Result, Ok, Err, MatchResult, List, [], ◌∷◌, length, filter, bytes_eq, if◌then◌else◌}
use Rattle.std.specs.Bool.{MatchBool}
use Rattle.std.specs.Option.{option_or, unwrap_or}
use Rattle.std.specs.Result.{IsOkAnd, is_ok}
use Rattle.std.specs.List.{Contains}
use Rattle.std.specs.List.Sorted.{IsStrictlySortedBy}
use Rattle.std.specs.Ordering.{nat_cmp, int_cmp}
use Rattle.std.specs.declared.cmp.Ordering.{Ordering}
use Rattle.std.specs.Cmp.Lexicographic.{slice_cmp}
use Rattle.std.specs.Str.{chars}
use Rattle.base_texts.specs.declared.white_space.WhiteSpace.{WhiteSpace}
use Rattle.base_texts.specs.declared.white_space.WhiteSpace.TheVariants.{Collapse}
use Rattle.base_texts.specs.WhiteSpace.{treated}
use Rattle.simple_types.specs.declared.facets.Facet.{Facet}
use Rattle.simple_types.specs.declared.facets.Facet.TheVariants as facet
use Rattle.simple_types.specs.Space.{Space, Booleans, Wholes, Numbers, Words, Characters, ListOf, UnionOf}
use Rattle.simple_types.specs.Lexical.{whole_number, is_128_bits, is_at_most, is_from, is_to}
use Rattle.simple_types.specs.Reading.{reads}
use Rattle.simple_facets.specs.declared.refusals.FacetWhy.{FacetWhy}
use Rattle.simple_facets.specs.declared.refusals.FacetWhy.TheVariants as why
use Rattle.simple_facets.specs.declared.constraints.Constraints.{Constraints}
use Rattle.simple_facets.specs.Applying.{exact_length_applied, min_length_applied, max_length_applied, lower_applied, upper_applied, treatment_applied}

-- The first step: the constraints of the facets, or the first reason against one.
abbrev pub no_constraints : Constraints
no_constraints = record { exact_length = None; min_length = None; max_length = None; lower_bound = None; upper_bound = None; white_space = None }

abbrev pub set_by : {A : Type 0} → (A → Constraints) → Result A FacetWhy → Result Constraints FacetWhy
set_by set (Ok x) = Ok (set x)
set_by set (Err w) = Err w

-- The inclusive and the exclusive bound of one side count as the same facet, since sections such as 4.3.9.4 forbid both together.
abbrev pub with_facet : Space → Constraints → Facet → Result Constraints FacetWhy
with_facet base c (facet.Length text) = set_by (λ n. record c { exact_length = Some n }) (exact_length_applied base c.exact_length text)
with_facet base c (facet.MinLength text) = set_by (λ n. record c { min_length = Some n }) (min_length_applied base c.min_length text)
with_facet base c (facet.MaxLength text) = set_by (λ n. record c { max_length = Some n }) (max_length_applied base c.max_length text)
with_facet base c (facet.MinInclusive text) = set_by (λ z. record c { lower_bound = Some z }) (lower_applied base c.lower_bound (pos 0) text)
with_facet base c (facet.MinExclusive text) = set_by (λ z. record c { lower_bound = Some z }) (lower_applied base c.lower_bound (pos 1) text)
with_facet base c (facet.MaxInclusive text) = set_by (λ z. record c { upper_bound = Some z }) (upper_applied base c.upper_bound (pos 0) text)
with_facet base c (facet.MaxExclusive text) = set_by (λ z. record c { upper_bound = Some z }) (upper_applied base c.upper_bound (negsuc 0) text)
with_facet base c (facet.WhiteSpace text) = set_by (λ how. record c { white_space = Some how }) (treatment_applied base c.white_space text)
with_facet base c (facet.Enumeration text) = Ok c

abbrev pub with_facets : Space → Constraints → List Facet → Result Constraints FacetWhy
with_facets base c [] = Ok c
with_facets base c (f ∷ fs) = elim (with_facet base c f) [ Err w ↦ Err w | Ok next ↦ with_facets base next fs ]

-- the values that are left
abbrev pub lesser : Option ℕ → Option ℕ → Option ℕ
lesser None most = most
lesser (Some n) None = Some n
lesser (Some n) (Some most) = Some (min n most)

-- The length satisfies `length`, `minLength` and `maxLength` together.
abbrev pub least_length : Constraints → ℕ → ℕ
least_length c least = max (max least (unwrap_or c.min_length 0)) (unwrap_or c.exact_length 0)

abbrev pub greatest_length : Constraints → Option ℕ → Option ℕ
greatest_length c most = lesser c.exact_length (lesser c.max_length most)

abbrev pub is_length : Constraints → ℕ → Bool
is_length c n = nat_le (least_length c 0) n && is_at_most n (greatest_length c None)

-- Numbers and words are dropped if they don't meet a bound, or if a new treatment would change them.
abbrev pub keeps_number : Constraints → ℤ → Bool
keeps_number c z = is_from c.lower_bound z && is_to c.upper_bound z

abbrev pub keeps_word : Constraints → WhiteSpace → List ℕ → Bool
keeps_word c how word = is_length c (length (chars word)) && bytes_eq (treated how word) word

abbrev pub narrowed : Space → Constraints → Space
narrowed Booleans c = Booleans
narrowed (Wholes least greatest) c = Wholes (option_or c.lower_bound least) (option_or c.upper_bound greatest)
narrowed (Numbers numbers) c = Numbers (filter (keeps_number c) numbers)
narrowed (Words how words) c = Words (unwrap_or c.white_space how) (filter (keeps_word c (unwrap_or c.white_space how)) words)
narrowed (Characters how least most class) c = Characters (unwrap_or c.white_space how) (least_length c least) (greatest_length c most) class
narrowed (ListOf item least most) c = ListOf item (least_length c least) (greatest_length c most)
narrowed (UnionOf members) c = UnionOf members

-- the second step: bounds that cross, or no member left
abbrev pub are_crossed : Option ℤ → Option ℤ → Bool
are_crossed (Some least) (Some greatest) = int_lt greatest least
are_crossed _ _ = false

abbrev pub is_empty : Space → Bool
is_empty (Wholes least greatest) = are_crossed least greatest
is_empty (Numbers []) = true
is_empty (Words how []) = true
is_empty (Characters how least most class) = not (is_at_most least most)
is_empty (ListOf item least most) = not (is_at_most least most)
is_empty _ = false

-- The third step: the texts of the enumerations, and their values in the space so far.
abbrev pub items_of : List Facet → List (List ℕ)
items_of [] = []
items_of (facet.Enumeration text ∷ fs) = text ∷ items_of fs
items_of (f ∷ fs) = items_of fs

abbrev pub accepts : Space → List ℕ → Bool
accepts now text = is_ok (reads now text)

abbrev pub number_in : Space → List ℕ → Option ℤ → Result ℤ FacetWhy
number_in now text None = Err why.NotInBase
number_in now text (Some z) = if is_128_bits z then (if accepts now text then Ok z else Err why.NotInBase) else Err why.TooWide

abbrev pub number_item : Space → List ℕ → Result ℤ FacetWhy
number_item now text = number_in now text (whole_number (treated Collapse text))

abbrev pub word_item : WhiteSpace → Space → List ℕ → Result (List ℕ) FacetWhy
word_item how now text = if accepts now text then Ok (treated how text) else Err why.NotInBase

-- The values of all texts, in order, or the reason of the first text without a value.
abbrev pub each_item : {A : Type 0} → (List ℕ → Result A FacetWhy) → List (List ℕ) → Result (List A) FacetWhy
each_item item [] = Ok []
each_item item (text ∷ texts) =
    elim (item text) [
      | Err w ↦ Err w
      | Ok x ↦ elim (each_item item texts) [ Err w ↦ Err w | Ok xs ↦ Ok (x ∷ xs) ]
    ]

-- The elements of `items`, ascending, each once.
abbrev pub IsAscendingOf : {A : Type 0} → (A → A → Ordering) → List A → List A → Type 0
IsAscendingOf {A} cmp items made = IsStrictlySortedBy cmp made × ((x : A) → Contains made x ↔ Contains items x)

abbrev pub IsNumbersOf : List ℤ → Space → Type 0
IsNumbersOf items (Numbers made) = IsAscendingOf int_cmp items made
IsNumbersOf items _ = ⊥

abbrev pub IsWordsOf : WhiteSpace → List (List ℕ) → Space → Type 0
IsWordsOf how items (Words made words) = (made ≡ how) × IsAscendingOf (slice_cmp nat_cmp) items words
IsWordsOf how items _ = ⊥

abbrev pub EnumeratedBy : {A : Type 0} → (List A → Space → Type 0) → Result (List A) FacetWhy → Result Space FacetWhy → Type 0
EnumeratedBy IsSpaceOf (Ok items) result = IsOkAnd result (IsSpaceOf items)
EnumeratedBy IsSpaceOf (Err w) result = result ≡ Err w

abbrev pub Enumerated : Space → List (List ℕ) → Result Space FacetWhy → Type 0
Enumerated (Wholes least greatest) texts result = EnumeratedBy IsNumbersOf (each_item (number_item (Wholes least greatest)) texts) result
Enumerated (Numbers numbers) texts result = EnumeratedBy IsNumbersOf (each_item (number_item (Numbers numbers)) texts) result
Enumerated (Words how words) texts result = EnumeratedBy (IsWordsOf how) (each_item (word_item how (Words how words)) texts) result
Enumerated (Characters how least most class) texts result = EnumeratedBy (IsWordsOf how) (each_item (word_item how (Characters how least most class)) texts) result
Enumerated now texts result = result ≡ Err why.Misplaced

-- Without an enumeration, the values that are left remain.
abbrev pub ByItems : Space → List (List ℕ) → Result Space FacetWhy → Type 0
ByItems now [] result = result ≡ Ok now
ByItems now (text ∷ texts) result = Enumerated now (text ∷ texts) result

-- The result of the three steps: the one space that they leave, or the first reason.
abbrev pub Restricted : Space → List Facet → Result Space FacetWhy → Type 0
Restricted base facets result =
    MatchResult (with_facets base no_constraints facets)
    (λ c. MatchBool (is_empty (narrowed base c)) (result ≡ Err why.EmptySpace) (ByItems (narrowed base c) (items_of facets) result))
    (λ w. result ≡ Err w)
