-- What facets leave of a sound base within widths is sound and within them.
use Rattle.std.proofs.Common.{◌≡◌, ℕ, suc, ◌<◌, ◌^◌, Bool, true, false, ◌&&◌, ◌||◌, not, List, [], ◌∷◌, length, refl, sym, ap, subst, arith, Option, Some, None, Result, Ok, Err}
use Rattle.std.specs.Prelude.{ℤ, ◌+ℤ◌, pos, negsuc, is_some, nat_lt, MatchResult, filter, if◌then◌else◌}
use Rattle.std.specs.Bool.{MatchBool}
use Rattle.std.specs.Option.{unwrap_or, option_or}
use Rattle.std.specs.Result.{is_ok}
use Rattle.std.specs.List.{Contains}
use Rattle.std.specs.Ordering.{int_cmp, nat_cmp}
use Rattle.std.specs.Cmp.Lexicographic.{slice_cmp}
use Rattle.std.specs.Str.Parse.{digits_value}
use Rattle.std.proofs.lemmas.Bool.{true≢false, and_parts, ltb-true}
use Rattle.std.proofs.lemmas.Cmp.{int_cmp_total, nat_list_cmp_total}
use Rattle.std.proofs.lemmas.List.Elements.{All-nil, All-cons, All-head, All-tail, All-contains}
use Rattle.base_texts.specs.declared.white_space.WhiteSpace.{WhiteSpace}
use Rattle.base_texts.specs.declared.white_space.WhiteSpace.TheVariants.{Collapse}
use Rattle.base_texts.specs.WhiteSpace.{treated}
use Rattle.base_texts.specs.Digits.{is_numeral}
use Rattle.simple_types.specs.declared.facets.Facet.{Facet}
use Rattle.simple_types.specs.declared.facets.Facet.TheVariants as facet
use Rattle.simple_types.specs.Space.{Space, Booleans, Wholes, Numbers, Words, Characters, ListOf, UnionOf}
use Rattle.simple_types.specs.Seen.{space_of}
use Rattle.simple_types.specs.Sound.{Sound}
use Rattle.simple_types.specs.Lexical.{whole_number, is_128_bits}
use Rattle.asn_types.specs.Bounds.{IsBound, AreWhole, IsSize}
use Rattle.simple_facets.specs.declared.refusals.FacetWhy.{FacetWhy}
use Rattle.simple_facets.specs.declared.refusals.FacetWhy.TheVariants as why
use Rattle.simple_facets.specs.Applying.{applied, unless_wider, length_in, bound_in, exact_length_applied, min_length_applied, max_length_applied, lower_applied, upper_applied, treatment_applied}
use Rattle.simple_facets.specs.Private.Deciding.{IsTexts}
use Rattle.simple_facets.specs.Restricting.{Restricted, Enumerated, EnumeratedBy, ByItems, IsNumbersOf, IsWordsOf, with_facet, with_facets, set_by, no_constraints, narrowed, is_empty, items_of, each_item, number_in, number_item, word_item, accepts, keeps_number, lesser, least_length, greatest_length}
use Rattle.simple_facets.proofs.Soundness.{narrowed_sound, numbers_sound, words_sound}
use Rattle.map_laws.specs.Widths.{IsWide}
use Rattle.link_exists.proofs.Within.{no_longer}

-- what is sound and within the widths
abbrev pub IsGood : Space → Type 0
IsGood s = Sound s × IsWide s

ok_value : {A : Type 0} (x y : A) → (let r : Result A FacetWhy = Ok x in r) ≡ Ok y → x ≡ y
ok_value x y e = cc

err_ok : {A B : Type 0} (w : FacetWhy) (y : A) → (let r : Result A FacetWhy = Err w in r) ≡ Ok y → B
err_ok w y e = absurd (true≢false (sym (ap is_ok e)))

-- ---- what facets ask is within the widths

abbrev type_of : {A : Type 0} → A → Type 0
type_of {A} a = A

abbrev Constraints : Type 0
Constraints = type_of no_constraints

record AsksWide (c : Constraints) : Type 0 where
  exact : IsSize c.exact_length
  least : IsSize c.min_length
  most : IsSize c.max_length
  lower : IsBound c.lower_bound
  upper : IsBound c.upper_bound

unless_value : {A : Type 0} (widens : A → Bool) (value : Result A FacetWhy) (x : A) → unless_wider widens value ≡ Ok x → value ≡ Ok x
unless_value widens (Err w) x e = e
unless_value {A} widens (Ok v) x e = by (widens v) e
  where
    by : (b : Bool) → (let r : Result A FacetWhy = if b then Err why.Widens else Ok v in r) ≡ Ok x → (let r : Result A FacetWhy = Ok v in r) ≡ Ok x
    by true f = err_ok why.Widens x f
    by false f = f

if_value : {A : Type 0} (b : Bool) (w : FacetWhy) (value : Result A FacetWhy) (x : A) → (let r : Result A FacetWhy = if b then Err w else value in r) ≡ Ok x → value ≡ Ok x
if_value true w value x e = err_ok w x e
if_value false w value x e = e

applied_value : {A : Type 0} (before : Option A) (has : Bool) (widens : A → Bool) (value : Result A FacetWhy) (x : A) → applied before has widens value ≡ Ok x → value ≡ Ok x
applied_value before has widens value x e = unless_value widens value x (if_value (is_some before || not has) why.Misplaced (unless_wider widens value) x e)

length_wide : (digits : List ℕ) (n : ℕ) → length_in digits ≡ Ok n → n < 2 ^ 32
length_wide digits n e = by (is_numeral digits) e
  where
    inner : (b : Bool) → nat_lt (digits_value 10 digits) (2 ^ 32) ≡ b → (let r : Result ℕ FacetWhy = if b then Ok (digits_value 10 digits) else Err why.TooWide in r) ≡ Ok n → n < 2 ^ 32
    inner true less f = let same = ok_value (digits_value 10 digits) n f in let lt = ltb-true (digits_value 10 digits) (2 ^ 32) less in omega (arith, same, lt)
    inner false less f = err_ok why.TooWide n f

    by : (b : Bool) → (let r : Result ℕ FacetWhy = if b then (if nat_lt (digits_value 10 digits) (2 ^ 32) then Ok (digits_value 10 digits) else Err why.TooWide) else Err why.BadNumber in r) ≡ Ok n → n < 2 ^ 32
    by true f = inner (nat_lt (digits_value 10 digits) (2 ^ 32)) refl f
    by false f = err_ok why.BadNumber n f

bound_wide : (further : ℤ) (found : Option ℤ) (z : ℤ) → bound_in further found ≡ Ok z → is_128_bits z ≡ true
bound_wide further None z e = err_ok why.BadNumber z e
bound_wide further (Some y) z e = by (is_128_bits y && is_128_bits (y +ℤ further)) refl e
  where
    by : (b : Bool) → (is_128_bits y && is_128_bits (y +ℤ further)) ≡ b → (let r : Result ℤ FacetWhy = if b then Ok (y +ℤ further) else Err why.TooWide in r) ≡ Ok z → is_128_bits z ≡ true
    by true both f = subst (λ x. is_128_bits x ≡ true) (ok_value (y +ℤ further) z f) (and_parts (is_128_bits y) (is_128_bits (y +ℤ further)) both).1
    by false both f = err_ok why.TooWide z f

set_wide : {A : Type 0} (P : A → Type 0) (set : A → Constraints) (r : Result A FacetWhy) (next : Constraints) → ((x : A) → r ≡ Ok x → P x) → ((x : A) → P x → AsksWide (set x))
    → set_by set r ≡ Ok next → AsksWide next
set_wide P set (Ok x) next has wide e = subst AsksWide (ok_value (set x) next e) (wide x (has x refl))
set_wide P set (Err w) next has wide e = err_ok w next e

asks_more : (base : Space) (c next : Constraints) (f : Facet) → AsksWide c → with_facet base c f ≡ Ok next → AsksWide next
asks_more base c next (facet.Length text) h e =
    set_wide (λ n. n < 2 ^ 32) (λ n. record c { exact_length = Some n }) (exact_length_applied base c.exact_length text) next
    (λ n is. length_wide (treated Collapse text) n (applied_value _ _ _ _ n is))
    (λ n lt. record { exact = lt; least = h.least; most = h.most; lower = h.lower; upper = h.upper }) e
asks_more base c next (facet.MinLength text) h e =
    set_wide (λ n. n < 2 ^ 32) (λ n. record c { min_length = Some n }) (min_length_applied base c.min_length text) next
    (λ n is. length_wide (treated Collapse text) n (applied_value _ _ _ _ n is))
    (λ n lt. record { exact = h.exact; least = lt; most = h.most; lower = h.lower; upper = h.upper }) e
asks_more base c next (facet.MaxLength text) h e =
    set_wide (λ n. n < 2 ^ 32) (λ n. record c { max_length = Some n }) (max_length_applied base c.max_length text) next
    (λ n is. length_wide (treated Collapse text) n (applied_value _ _ _ _ n is))
    (λ n lt. record { exact = h.exact; least = h.least; most = lt; lower = h.lower; upper = h.upper }) e
asks_more base c next (facet.MinInclusive text) h e =
    set_wide (λ z. is_128_bits z ≡ true) (λ z. record c { lower_bound = Some z }) (lower_applied base c.lower_bound (pos 0) text) next
    (λ z is. bound_wide (pos 0) (whole_number (treated Collapse text)) z (applied_value _ _ _ _ z is))
    (λ z fits. record { exact = h.exact; least = h.least; most = h.most; lower = fits; upper = h.upper }) e
asks_more base c next (facet.MinExclusive text) h e =
    set_wide (λ z. is_128_bits z ≡ true) (λ z. record c { lower_bound = Some z }) (lower_applied base c.lower_bound (pos 1) text) next
    (λ z is. bound_wide (pos 1) (whole_number (treated Collapse text)) z (applied_value _ _ _ _ z is))
    (λ z fits. record { exact = h.exact; least = h.least; most = h.most; lower = fits; upper = h.upper }) e
asks_more base c next (facet.MaxInclusive text) h e =
    set_wide (λ z. is_128_bits z ≡ true) (λ z. record c { upper_bound = Some z }) (upper_applied base c.upper_bound (pos 0) text) next
    (λ z is. bound_wide (pos 0) (whole_number (treated Collapse text)) z (applied_value _ _ _ _ z is))
    (λ z fits. record { exact = h.exact; least = h.least; most = h.most; lower = h.lower; upper = fits }) e
asks_more base c next (facet.MaxExclusive text) h e =
    set_wide (λ z. is_128_bits z ≡ true) (λ z. record c { upper_bound = Some z }) (upper_applied base c.upper_bound (negsuc 0) text) next
    (λ z is. bound_wide (negsuc 0) (whole_number (treated Collapse text)) z (applied_value _ _ _ _ z is))
    (λ z fits. record { exact = h.exact; least = h.least; most = h.most; lower = h.lower; upper = fits }) e
asks_more base c next (facet.WhiteSpace text) h e =
    set_wide (λ how. Unit {0}) (λ how. record c { white_space = Some how }) (treatment_applied base c.white_space text) next
    (λ how is. tt)
    (λ how u. record { exact = h.exact; least = h.least; most = h.most; lower = h.lower; upper = h.upper }) e
asks_more base c next (facet.Enumeration text) h e = subst AsksWide (ok_value c next e) h

asks_wide : (base : Space) (c asked : Constraints) (fs : List Facet) → AsksWide c → with_facets base c fs ≡ Ok asked → AsksWide asked
asks_wide base c asked [] h e = subst AsksWide (ok_value c asked e) h
asks_wide base c asked (f ∷ fs) h e = by (λ next more rest. asks_wide base next asked fs more rest) (with_facet base c f) refl e
  where
    by : ((next : Constraints) → AsksWide next → with_facets base next fs ≡ Ok asked → AsksWide asked) → (r : Result Constraints FacetWhy) → with_facet base c f ≡ r → (let q : Result Constraints FacetWhy = elim r [ Err w ↦ Err w | Ok next ↦ with_facets base next fs ] in q) ≡ Ok asked → AsksWide asked
    by later (Err w) is g = err_ok w asked g
    by later (Ok next) is g = later next (asks_more base c next f h is) g

-- ---- what is left

either_bound : (new old : Option ℤ) → IsBound new → IsBound old → IsBound (option_or new old)
either_bound None old h k = k
either_bound (Some z) old h k = h

all_kept : (p : ℤ → Bool) (zs : List ℤ) → AreWhole zs → AreWhole (filter p zs)
all_kept p [] h = h
all_kept p (z ∷ zs) h = by (p z) refl (all_kept p zs (All-tail (λ x. is_128_bits x ≡ true) z zs h))
  where
    by : (b : Bool) → p z ≡ b → AreWhole (filter p zs) → AreWhole (filter p (z ∷ zs))
    by true e rest = rw e (All-cons (λ x. is_128_bits x ≡ true) z (filter p zs) (All-head (λ x. is_128_bits x ≡ true) z zs h) rest)
    by false e rest = rw e rest

or_zero_wide : (o : Option ℕ) → IsSize o → unwrap_or o 0 < 2 ^ 32
or_zero_wide None h = omega arith
or_zero_wide (Some n) h = h

least_wide : (c : Constraints) (least : ℕ) → AsksWide c → least < 2 ^ 32 → least_length c least < 2 ^ 32
least_wide c least h lt =
    let a = or_zero_wide c.min_length h.least in
    let b = or_zero_wide c.exact_length h.exact in
    omega (arith, a, b, lt)

lesser_wide : (a b : Option ℕ) → IsSize a → IsSize b → IsSize (lesser a b)
lesser_wide None b h k = k
lesser_wide (Some n) None h k = h
lesser_wide (Some n) (Some m) h k = omega (arith, h, k)

greatest_wide : (c : Constraints) (most : Option ℕ) → AsksWide c → IsSize most → IsSize (greatest_length c most)
greatest_wide c most h k = lesser_wide c.exact_length (lesser c.max_length most) h.exact (lesser_wide c.max_length most h.most k)

narrowed_wide : (base : Space) (c : Constraints) → IsWide base → AsksWide c → IsWide (narrowed base c)
narrowed_wide Booleans c wide asks = tt
narrowed_wide (Wholes least greatest) c wide asks = (either_bound c.lower_bound least asks.lower wide.0, either_bound c.upper_bound greatest asks.upper wide.1)
narrowed_wide (Numbers numbers) c wide asks = all_kept (keeps_number c) numbers wide
narrowed_wide (Words how words) c wide asks = tt
narrowed_wide (Characters how least most class) c wide asks = (least_wide c least asks wide.0, greatest_wide c most asks wide.1)
narrowed_wide (ListOf item least most) c wide asks = (wide.0, least_wide c least asks wide.1, greatest_wide c most asks wide.2)
narrowed_wide (UnionOf members) c wide asks = wide

-- ---- enumerations

number_wide : (now : Space) (text : List ℕ) (found : Option ℤ) (z : ℤ) → number_in now text found ≡ Ok z → is_128_bits z ≡ true
number_wide now text None z e = err_ok why.NotInBase z e
number_wide now text (Some y) z e = by (is_128_bits y) refl e
  where
    inner : (b : Bool) → is_128_bits y ≡ true → (let r : Result ℤ FacetWhy = if b then Ok y else Err why.NotInBase in r) ≡ Ok z → is_128_bits z ≡ true
    inner true fits f = subst (λ x. is_128_bits x ≡ true) (ok_value y z f) fits
    inner false fits f = err_ok why.NotInBase z f

    by : (b : Bool) → is_128_bits y ≡ b → (let r : Result ℤ FacetWhy = if b then (if accepts now text then Ok y else Err why.NotInBase) else Err why.TooWide in r) ≡ Ok z → is_128_bits z ≡ true
    by true fits f = inner (accepts now text) fits f
    by false fits f = err_ok why.TooWide z f

each_wide : (now : Space) (texts : List (List ℕ)) (items : List ℤ) → each_item (number_item now) texts ≡ Ok items → AreWhole items
each_wide now [] items e = subst AreWhole (ok_value [] items e) (All-nil (λ z. is_128_bits z ≡ true))
each_wide now (text ∷ texts) items e = by (λ xs rest. each_wide now texts xs rest) (number_item now text) refl e
  where
    inner : ((xs : List ℤ) → each_item (number_item now) texts ≡ Ok xs → AreWhole xs) → (z : ℤ) → number_item now text ≡ Ok z → (r : Result (List ℤ) FacetWhy) → each_item (number_item now) texts ≡ r
        → (let q : Result (List ℤ) FacetWhy = elim r [ Err w ↦ Err w | Ok xs ↦ Ok (z ∷ xs) ] in q) ≡ Ok items → AreWhole items
    inner later z is (Err w) rest f = err_ok w items f
    inner later z is (Ok xs) rest f =
        subst AreWhole (ok_value (z ∷ xs) items f)
        (All-cons (λ x. is_128_bits x ≡ true) z xs (number_wide now text (whole_number (treated Collapse text)) z is) (later xs rest))

    by : ((xs : List ℤ) → each_item (number_item now) texts ≡ Ok xs → AreWhole xs) → (r : Result ℤ FacetWhy) → number_item now text ≡ r
        → (let q : Result (List ℤ) FacetWhy = elim r [ Err w ↦ Err w | Ok z ↦ elim (each_item (number_item now) texts) [ Err w ↦ Err w | Ok xs ↦ Ok (z ∷ xs) ] ] in q) ≡ Ok items → AreWhole items
    by later (Err w) is f = err_ok w items f
    by later (Ok z) is f = inner later z is (each_item (number_item now) texts) refl f

from_contained : (made items : List ℤ) → ((z : ℤ) → Contains made z → Contains items z) → AreWhole items → AreWhole made
from_contained [] items inside h = All-nil (λ z. is_128_bits z ≡ true)
from_contained (z ∷ zs) items inside h =
    All-cons (λ x. is_128_bits x ≡ true) z zs (All-contains (λ x. is_128_bits x ≡ true) items z h (inside z (0, omega arith, refl)))
    (from_contained zs items (λ x k. let lt = k.1 in inside x (suc k.0, omega (arith, lt), k.2)) h)

module _ (now : Space) (texts : List (List ℕ)) (some : 0 < length texts) (few : length texts < 2 ^ 32) where
  numbers_good : (s : Space) (items : List ℤ) → each_item (number_item now) texts ≡ Ok items → IsNumbersOf items s → IsGood s
  unfolding space_of
  numbers_good (Numbers made) items e h =
      let shorter = no_longer int_cmp int_cmp_total made items h.0 (λ z. (h.1 z).0) in
      (numbers_sound (number_item now) texts items made made e refl h shorter some few, from_contained made items (λ z. (h.1 z).0) (each_wide now texts items e))
  numbers_good Booleans items e h = absurd h
  numbers_good (Wholes a b) items e h = absurd h
  numbers_good (Words a b) items e h = absurd h
  numbers_good (Characters a b c d) items e h = absurd h
  numbers_good (ListOf a b c) items e h = absurd h
  numbers_good (UnionOf a) items e h = absurd h

  words_good : (how : WhiteSpace) → IsTexts how now → Sound now → (s : Space) (items : List (List ℕ)) → each_item (word_item how now) texts ≡ Ok items → IsWordsOf how items s → IsGood s
  unfolding space_of
  words_good how is_texts sound (Words made words) items e h =
      let shorter = no_longer (slice_cmp nat_cmp) nat_list_cmp_total words items h.1.0 (λ z. (h.1.1 z).0) in
      let good : Sound (Words how words) = words_sound how now texts items words words e refl h.1 is_texts sound shorter some few in
      (subst (λ w. Sound (Words w words)) (sym h.0) good, tt)
  words_good how is_texts sound Booleans items e h = absurd h
  words_good how is_texts sound (Wholes a b) items e h = absurd h
  words_good how is_texts sound (Numbers a) items e h = absurd h
  words_good how is_texts sound (Characters a b c d) items e h = absurd h
  words_good how is_texts sound (ListOf a b c) items e h = absurd h
  words_good how is_texts sound (UnionOf a) items e h = absurd h

  by_numbers : (r : Result (List ℤ) FacetWhy) (s : Space) → each_item (number_item now) texts ≡ r → EnumeratedBy IsNumbersOf r (Ok s) → IsGood s
  by_numbers (Ok items) s e h = numbers_good s items e h
  by_numbers (Err w) s e h = err_ok w s (sym h)

  by_words : (how : WhiteSpace) → IsTexts how now → Sound now → (r : Result (List (List ℕ)) FacetWhy) (s : Space) → each_item (word_item how now) texts ≡ r → EnumeratedBy (IsWordsOf how) r (Ok s) → IsGood s
  by_words how is_texts sound (Ok items) s e h = words_good how is_texts sound s items e h
  by_words how is_texts sound (Err w) s e h = err_ok w s (sym h)

enumerated_good : (now s : Space) (texts : List (List ℕ)) → 0 < length texts → length texts < 2 ^ 32 → Sound now → Enumerated now texts (Ok s) → IsGood s
enumerated_good (Wholes a b) s texts some few sound h = by_numbers (Wholes a b) texts some few (each_item (number_item (Wholes a b)) texts) s refl h
enumerated_good (Numbers a) s texts some few sound h = by_numbers (Numbers a) texts some few (each_item (number_item (Numbers a)) texts) s refl h
enumerated_good (Words how a) s texts some few sound h = by_words (Words how a) texts some few how refl sound (each_item (word_item how (Words how a)) texts) s refl h
enumerated_good (Characters how a b c) s texts some few sound h = by_words (Characters how a b c) texts some few how refl sound (each_item (word_item how (Characters how a b c)) texts) s refl h
enumerated_good Booleans s texts some few sound h = err_ok why.Misplaced s (sym h)
enumerated_good (ListOf a b c) s texts some few sound h = err_ok why.Misplaced s (sym h)
enumerated_good (UnionOf a) s texts some few sound h = err_ok why.Misplaced s (sym h)

items_good : (now s : Space) (texts : List (List ℕ)) → length texts < 2 ^ 32 → IsGood now → ByItems now texts (Ok s) → IsGood s
items_good now s [] few good h = subst IsGood (ok_value now s (sym h)) good
items_good now s (text ∷ texts) few good h = enumerated_good now s (text ∷ texts) (omega arith) few good.0 h

-- ---- all three steps

pub restricted_good : (base s : Space) (facets : List Facet) → IsGood base → length (items_of facets) < 2 ^ 32 → Restricted base facets (Ok s) → IsGood s
restricted_good base s facets good few h = by (with_facets base no_constraints facets) refl h
  where
    inner : (c : Constraints) → AsksWide c → (b : Bool) → is_empty (narrowed base c) ≡ b
        → MatchBool b ((let r : Result Space FacetWhy = Ok s in r) ≡ Err why.EmptySpace) (ByItems (narrowed base c) (items_of facets) (Ok s)) → IsGood s
    inner c asks true e k = err_ok why.EmptySpace s (sym k)
    inner c asks false e k = items_good (narrowed base c) s (items_of facets) few (narrowed_sound base c good.0 e, narrowed_wide base c good.1 asks) k

    by : (asked : Result Constraints FacetWhy) → with_facets base no_constraints facets ≡ asked
        → MatchResult asked (λ c. MatchBool (is_empty (narrowed base c)) ((let r : Result Space FacetWhy = Ok s in r) ≡ Err why.EmptySpace) (ByItems (narrowed base c) (items_of facets) (Ok s)))
        (λ w. (let r : Result Space FacetWhy = Ok s in r) ≡ Err w) → IsGood s
    by (Ok c) e k = inner c (asks_wide base no_constraints c facets (record { exact = tt; least = tt; most = tt; lower = tt; upper = tt }) e) (is_empty (narrowed base c)) refl k
    by (Err w) e k = err_ok w s (sym k)
