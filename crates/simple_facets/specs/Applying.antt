-- The constraint of one facet, and the facets that a base has (XML Schema Part 2, section 4.3). A facet's text is read with its
-- white space collapsed.
use Rattle.std.specs.Prelude.{ℕ, ◌^◌, Bool, true, false, ◌&&◌, ◌||◌, not, nat_lt, int_lt, ℤ, ◌+ℤ◌, Option, Some, None, is_some, Result, Ok, Err, List, bytes_eq, codes, if◌then◌else◌}
use Rattle.std.specs.Str.Parse.{digits_value}
use Rattle.base_texts.specs.declared.white_space.WhiteSpace.{WhiteSpace}
use Rattle.base_texts.specs.declared.white_space.WhiteSpace.TheVariants.{Preserve, Replace, Collapse}
use Rattle.base_texts.specs.WhiteSpace.{treated}
use Rattle.base_texts.specs.Digits.{is_numeral}
use Rattle.simple_types.specs.Space.{Space, Wholes, Numbers, Words, Characters, ListOf, UnionOf}
use Rattle.simple_types.specs.Lexical.{whole_number, is_128_bits, is_at_most}
use Rattle.simple_facets.specs.declared.refusals.FacetWhy.{FacetWhy}
use Rattle.simple_facets.specs.declared.refusals.FacetWhy.TheVariants as why

-- A length has only digits and at most 32 bits.
abbrev pub length_in : List ℕ → Result ℕ FacetWhy
length_in digits =
    if is_numeral digits
    then (if nat_lt (digits_value 10 digits) (2 ^ 32) then Ok (digits_value 10 digits) else Err why.TooWide)
    else Err why.BadNumber

abbrev pub length_of : List ℕ → Result ℕ FacetWhy
length_of text = length_in (treated Collapse text)

-- A bound is a whole number of 128 bits. An exclusive one counts as the next inclusive one, which is `further` away and must have
-- 128 bits too.
abbrev pub bound_in : ℤ → Option ℤ → Result ℤ FacetWhy
bound_in further None = Err why.BadNumber
bound_in further (Some z) = if is_128_bits z && is_128_bits (z +ℤ further) then Ok (z +ℤ further) else Err why.TooWide

abbrev pub bound_of : ℤ → List ℕ → Result ℤ FacetWhy
bound_of further text = bound_in further (whole_number (treated Collapse text))

-- section 4.3.6
abbrev pub treatment_in : List ℕ → Result WhiteSpace FacetWhy
treatment_in word =
    if bytes_eq word (codes "preserve") then Ok Preserve
    else if bytes_eq word (codes "replace") then Ok Replace
    else if bytes_eq word (codes "collapse") then Ok Collapse
    else Err why.BadNumber

abbrev pub treatment_of : List ℕ → Result WhiteSpace FacetWhy
treatment_of text = treatment_in (treated Collapse text)

-- The facets that a base may have, as section 4.1.5 lists them. The profile allows none on unions.
abbrev pub has_bounds : Space → Bool
has_bounds (Wholes least greatest) = true
has_bounds (Numbers numbers) = true
has_bounds _ = false

abbrev pub has_lengths : Space → Bool
has_lengths (Words how words) = true
has_lengths (Characters how least most class) = true
has_lengths (ListOf item least most) = true
has_lengths _ = false

-- The treatment of the white space of a text by a base.
abbrev pub base_treatment : Space → Option WhiteSpace
base_treatment (UnionOf members) = None
base_treatment (Words how words) = Some how
base_treatment (Characters how least most class) = Some how
base_treatment _ = Some Collapse

-- The bounds of a base, where it has some that aren't given by an enumeration.
abbrev pub base_least : Space → Option ℤ
base_least (Wholes least greatest) = least
base_least _ = None

abbrev pub base_greatest : Space → Option ℤ
base_greatest (Wholes least greatest) = greatest
base_greatest _ = None

abbrev pub base_min_length : Space → ℕ
base_min_length (Characters how least most class) = least
base_min_length (ListOf item least most) = least
base_min_length _ = 0

abbrev pub base_max_length : Space → Option ℕ
base_max_length (Characters how least most class) = most
base_max_length (ListOf item least most) = most
base_max_length _ = None

-- The number is outside the base's bound on this side.
abbrev pub is_below : ℤ → Option ℤ → Bool
is_below z None = false
is_below z (Some least) = int_lt z least

abbrev pub is_above : ℤ → Option ℤ → Bool
is_above z None = false
is_above z (Some greatest) = int_lt greatest z

abbrev pub lower_widens : Space → ℤ → Bool
lower_widens base z = is_below z (base_least base)

abbrev pub upper_widens : Space → ℤ → Bool
upper_widens base z = is_above z (base_greatest base)

abbrev pub min_length_widens : Space → ℕ → Bool
min_length_widens base n = nat_lt n (base_min_length base)

abbrev pub max_length_widens : Space → ℕ → Bool
max_length_widens base n = not (is_at_most n (base_max_length base))

abbrev pub exact_length_widens : Space → ℕ → Bool
exact_length_widens base n = min_length_widens base n || max_length_widens base n

-- One treatment does less than another.
abbrev pub is_looser : WhiteSpace → WhiteSpace → Bool
is_looser Preserve Preserve = false
is_looser Preserve base = true
is_looser Replace Collapse = true
is_looser how base = false

abbrev pub treatment_widens : Option WhiteSpace → WhiteSpace → Bool
treatment_widens None how = false
treatment_widens (Some base) how = is_looser how base

-- The reasons against one facet, in their order: it occurs twice or the base has no such facet; its text; it widens.
abbrev pub unless_wider : {A : Type 0} → (A → Bool) → Result A FacetWhy → Result A FacetWhy
unless_wider widens (Err w) = Err w
unless_wider widens (Ok x) = if widens x then Err why.Widens else Ok x

abbrev pub applied : {A : Type 0} → Option A → Bool → (A → Bool) → Result A FacetWhy → Result A FacetWhy
applied before has widens value = if is_some before || not has then Err why.Misplaced else unless_wider widens value

abbrev pub exact_length_applied : Space → Option ℕ → List ℕ → Result ℕ FacetWhy
exact_length_applied base before text = applied before (has_lengths base) (exact_length_widens base) (length_of text)

abbrev pub min_length_applied : Space → Option ℕ → List ℕ → Result ℕ FacetWhy
min_length_applied base before text = applied before (has_lengths base) (min_length_widens base) (length_of text)

abbrev pub max_length_applied : Space → Option ℕ → List ℕ → Result ℕ FacetWhy
max_length_applied base before text = applied before (has_lengths base) (max_length_widens base) (length_of text)

abbrev pub lower_applied : Space → Option ℤ → ℤ → List ℕ → Result ℤ FacetWhy
lower_applied base before further text = applied before (has_bounds base) (lower_widens base) (bound_of further text)

abbrev pub upper_applied : Space → Option ℤ → ℤ → List ℕ → Result ℤ FacetWhy
upper_applied base before further text = applied before (has_bounds base) (upper_widens base) (bound_of further text)

abbrev pub treatment_applied : Space → Option WhiteSpace → List ℕ → Result WhiteSpace FacetWhy
treatment_applied base before text =
    applied before (is_some (base_treatment base)) (treatment_widens (base_treatment base)) (treatment_of text)
