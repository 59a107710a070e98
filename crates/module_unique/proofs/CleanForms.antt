-- Numbers, bounds, sizes, items and words have no fault as they are told.
use Rattle.std.proofs.Common.{◌≡◌, ℕ, zero, suc, ◌<◌, ◌≤◌, ◌^◌, Bool, true, false, ◌&&◌, ◌||◌, not, Option, Some, None, List, [], ◌∷◌, ◌++◌, map, refl, sym, ap, ap₂, ◌∙◌, arith, Less, Equal, Greater}
use Rattle.std.specs.Prelude.{ℤ, pos, int_lt, ◌≤ℤ◌, bytes_eq, is_some, if◌then◌else◌}
use Rattle.std.specs.List.{AllByRecursion, IsDistinct}
use Rattle.std.specs.List.Sorted.{IsStrictlySortedBy}
use Rattle.std.specs.Ordering.{nat_cmp, int_cmp, int_eq, is_lt}
use Rattle.std.specs.Cmp.Lexicographic.{slice_cmp}
use Rattle.std.specs.Fmt.{signed_decimal}
use Rattle.std.proofs.lemmas.Bool.{true≢false}
use Rattle.std.proofs.lemmas.Int.{ints}
use Rattle.simple_types.specs.Sound.{AreBounds, AreSizes}
use Rattle.simple_types.specs.Lexical.{is_128_bits}
use Rattle.asn_types.specs.Bounds.{IsBound, IsSize, AreWhole}
use Rattle.module_print.specs.Instructions.{number_identifier}
use Rattle.module_text.specs.declared.bounds.PlainEnds.TheVariants as ends
use Rattle.module_text.specs.declared.reasons.ModuleWhy.{ModuleWhy}
use Rattle.module_text.specs.declared.reasons.ModuleWhy.TheVariants as why
use Rattle.module_text.specs.declared.reasons.TextFault.{TextFault}
use Rattle.module_text.specs.Listed.{unless}
use Rattle.module_text.specs.Told.{whole_of, size_of, is_printed, is_printed_number}
use Rattle.module_text.specs.Faults as rule
use Rattle.module_laws.proofs.Firsts.{bytes-self, bytes-turned}
use Rattle.module_unique.proofs.Telling.{number_told, both_told, range_told, size_told, numbered_told, name_at}
use Rattle.module_unique.proofs.Digits.{small_bits, number_back, size_back, numbers_same}

-- ---- lists of faults

pub stands-so : (b : Bool) (at : ℕ) (reason : ModuleWhy) → b ≡ true → unless b at reason ≡ []
stands-so b at reason e = ap (λ t. unless t at reason) e

pub no-more : (xs ys : List TextFault) → xs ≡ [] → ys ≡ [] → xs ++ ys ≡ []
no-more xs ys e f = ap₂ (λ (us : List TextFault) vs. us ++ vs) e f

pub both-so : (a b : Bool) → a ≡ true → b ≡ true → (a && b) ≡ true
both-so a b e f = ap₂ (λ s t. s && t) e f

-- ---- numbers and bounds

number_printed : (z : ℤ) → is_128_bits z ≡ true → is_printed_number (number_told z) ≡ true
number_printed z bits = ap (λ o. is_printed o (signed_decimal z)) (number_back z bits) ∙ bytes-self (signed_decimal z)

number_clean : (z : ℤ) → is_128_bits z ≡ true → rule.number_faults (number_told z) ≡ []
number_clean z bits = stands-so (is_printed_number (number_told z)) 0 why.Spelling (number_printed z bits)

below_told : (a b : ℤ) → is_128_bits a ≡ true → is_128_bits b ≡ true → rule.is_below (whole_of (number_told a)) (whole_of (number_told b)) ≡ int_lt a b
below_told a b m n = ap₂ rule.is_below (number_back a m) (number_back b n)

turned_under : (a b : ℤ) → a ≤ℤ b → int_lt b a ≡ false
turned_under a b le = grind (arith, ints)

lt_by : (a b : ℤ) (less : Bool) → int_lt a b ≡ less → a ≤ℤ b → int_eq a b ≡ false → int_lt a b ≡ true
lt_by a b true e le apart = e
lt_by a b false e le apart = absurd (let same : int_eq a b ≡ true = rw (e, turned_under a b le, int_eq, int_cmp) refl in true≢false (sym same ∙ apart))

lt_apart : (a b : ℤ) → a ≤ℤ b → int_eq a b ≡ false → int_lt a b ≡ true
lt_apart a b le apart = lt_by a b (int_lt a b) refl le apart

ends_clean : (a b : ℤ) → is_128_bits a ≡ true → is_128_bits b ≡ true → a ≤ℤ b → rule.ends_faults (both_told a b) ≡ []
ends_clean a b m n le = by (int_eq a b) refl
  where
    by : (same : Bool) → int_eq a b ≡ same → rule.ends_faults (if same then ends.One (number_told a) else ends.Both (number_told a) (number_told b)) ≡ []
    by true e = number_clean a m
    by false e =
        let below = rule.is_below (whole_of (number_told a)) (whole_of (number_told b)) in
        no-more (rule.number_faults (number_told a)) (unless (is_printed_number (number_told b) && below) 0 why.Spelling)
        (number_clean a m)
        (stands-so (is_printed_number (number_told b) && below) 0 why.Spelling (both-so (is_printed_number (number_told b)) below (number_printed b n) (below_told a b m n ∙ lt_apart a b le e)))

pub range_clean : (least greatest : Option ℤ) → AreBounds least greatest → IsBound least → IsBound greatest → rule.range_faults (range_told least greatest) ≡ []
range_clean None None are m n = refl
range_clean None (Some b) are m n = number_clean b n
range_clean (Some a) None are m n = number_clean a m
range_clean (Some a) (Some b) are m n = ends_clean a b m n are

-- ---- sizes

size_printed : (n : ℕ) → n < 2 ^ 32 → rule.is_size (number_told (pos n)) ≡ true
size_printed n lt =
    both-so (is_printed_number (number_told (pos n))) (is_some (size_of (whole_of (number_told (pos n)))))
    (number_printed (pos n) (small_bits n lt))
    (ap is_some (size_back n lt))

one_clean : (n : ℕ) → n < 2 ^ 32 → rule.one_size_faults (number_told (pos n)) ≡ []
one_clean n lt = stands-so (rule.is_size (number_told (pos n))) 0 why.Spelling (size_printed n lt)

size_under : (m n : ℕ) → m ≤ n → pos m ≤ℤ pos n
size_under m n le = grind (arith, ints)

sizes_clean : (m n : ℕ) → m < 2 ^ 32 → n < 2 ^ 32 → m ≤ n → rule.size_faults (Some (both_told (pos m) (pos n))) ≡ []
sizes_clean m n a b le = by (int_eq (pos m) (pos n)) refl
  where
    by : (same : Bool) → int_eq (pos m) (pos n) ≡ same
        → rule.size_faults (Some (if same then ends.One (number_told (pos m)) else ends.Both (number_told (pos m)) (number_told (pos n)))) ≡ []
    by true e = one_clean m a
    by false e =
        let below = rule.is_below (whole_of (number_told (pos m))) (whole_of (number_told (pos n))) in
        no-more (rule.one_size_faults (number_told (pos m))) (unless (rule.is_size (number_told (pos n)) && below) 0 why.Spelling)
        (one_clean m a)
        (stands-so (rule.is_size (number_told (pos n)) && below) 0 why.Spelling
        (both-so (rule.is_size (number_told (pos n))) below (size_printed n b)
        (below_told (pos m) (pos n) (small_bits m a) (small_bits n b) ∙ lt_apart (pos m) (pos n) (size_under m n le) e)))

pub size_clean : (least : ℕ) (most : Option ℕ) → AreSizes least most → least < 2 ^ 32 → IsSize most → rule.size_faults (size_told least most) ≡ []
size_clean zero None are a b = refl
size_clean (suc n) None are a b =
    no-more (rule.one_size_faults (number_told (pos (suc n)))) (unless (not (rule.is_zero (whole_of (number_told (pos (suc n)))))) 0 why.Spelling)
    (one_clean (suc n) a)
    (stands-so (not (rule.is_zero (whole_of (number_told (pos (suc n)))))) 0 why.Spelling (ap (λ o. not (rule.is_zero o)) (number_back (pos (suc n)) (small_bits (suc n) a))))
size_clean zero (Some m) are a b = sizes_clean 0 m a b are
size_clean (suc n) (Some m) are a b = sizes_clean (suc n) m a b are

-- ---- what is new behind others

or_none : (a b : Bool) → a ≡ false → b ≡ false → (a || b) ≡ false
or_none a b e f = ap₂ (λ s t. s || t) e f

or_first : (a b : Bool) → (a || b) ≡ false → a ≡ false
or_first false b e = refl
or_first true b e = e

or_second : (a b : Bool) → (a || b) ≡ false → b ≡ false
or_second false b e = e
or_second true b e = absurd (true≢false e)

pub new_more : (before : List (List ℕ)) (x y : List ℕ) → rule.has_text before y ≡ false → bytes_eq y x ≡ false → rule.has_text (before ++ x ∷ []) y ≡ false
new_more [] x y e f = or_none (bytes_eq y x) false f refl
new_more (b ∷ bs) x y e f =
    or_none (bytes_eq y b) (rule.has_text (bs ++ x ∷ []) y) (or_first (bytes_eq y b) (rule.has_text bs y) e) (new_more bs x y (or_second (bytes_eq y b) (rule.has_text bs y) e) f)

-- each of these is new behind those
abbrev pub AreFresh : List (List ℕ) → List (List ℕ) → Type 0
AreFresh before names = AllByRecursion (λ y. rule.has_text before y ≡ false) names

pub fresh_first : (names : List (List ℕ)) → AreFresh [] names
fresh_first [] = tt
fresh_first (name ∷ names) = (refl, fresh_first names)

pub fresh_more : (before : List (List ℕ)) (x : List ℕ) (names : List (List ℕ)) → AreFresh before names → AllByRecursion (λ y. bytes_eq x y ≡ false) names → AreFresh (before ++ x ∷ []) names
fresh_more before x [] fresh apart = tt
fresh_more before x (y ∷ ys) fresh apart = (new_more before x y fresh.0 (bytes-turned x y apart.0), fresh_more before x ys fresh.1 apart.1)

-- ---- numbered items

abbrev NewNumbers : List (List ℕ) → List ℤ → Type 0
NewNumbers before zs = AllByRecursion (λ z. rule.has_text before (number_identifier z) ≡ false) zs

abbrev Over : Option ℤ → List ℤ → Type 0
Over last [] = Unit {0}
Over last (z ∷ zs) = rule.is_above last (Some z) ≡ true

less_lt : (y z : ℤ) (less more : Bool) → int_lt y z ≡ less → int_lt z y ≡ more → int_cmp y z ≡ Less → int_lt y z ≡ true
less_lt y z true more e f is = e
less_lt y z false true e f is = absurd (let is_more : int_cmp y z ≡ Greater = rw (e, f, int_cmp) refl in cc)
less_lt y z false false e f is = absurd (let is_same : int_cmp y z ≡ Equal = rw (e, f, int_cmp) refl in cc)

pub number_lt : (y z : ℤ) → int_cmp y z ≡ Less → int_lt y z ≡ true
number_lt y z is = less_lt y z (int_lt y z) (int_lt z y) refl refl is

lt_other : (z : ℤ) → int_lt z z ≡ true → ⊥
lt_other z e = grind (arith, ints)

some_same : (y z : ℤ) → Some y ≡ Some z → y ≡ z
some_same y z e = cc

numbers_apart : (y z : ℤ) → is_128_bits y ≡ true → is_128_bits z ≡ true → int_lt z y ≡ true → bytes_eq (number_identifier y) (number_identifier z) ≡ false
numbers_apart y z m n lt = by (bytes_eq (number_identifier y) (number_identifier z)) refl
  where
    by : (same : Bool) → bytes_eq (number_identifier y) (number_identifier z) ≡ same → same ≡ false
    by false e = refl
    by true e =
        let written = numbers_same y z e in
        let told : whole_of (number_told y) ≡ whole_of (number_told z) = ap (λ w. whole_of (record { at = 0; written = w })) written in
        let is = some_same y z (sym (number_back y m) ∙ told ∙ number_back z n) in
        absurd (lt_other z (ap (int_lt z) (sym is) ∙ lt))

new_numbers : (before : List (List ℕ)) (z : ℤ) (zs : List ℤ) → is_128_bits z ≡ true → AreWhole zs → NewNumbers before zs → AllByRecursion (λ y. int_cmp z y ≡ Less) zs
    → NewNumbers (before ++ number_identifier z ∷ []) zs
new_numbers before z [] bits whole new less = tt
new_numbers before z (y ∷ ys) bits whole new less = (
  new_more before (number_identifier z) (number_identifier y) new.0 (numbers_apart y z (whole zero y (omega arith)) bits (number_lt z y less.0)),
  new_numbers before z ys bits (λ k d lt. whole (suc k) d (omega (arith, lt))) new.1 less.1,
)

over_next : (z : ℤ) (zs : List ℤ) → AllByRecursion (λ y. int_cmp z y ≡ Less) zs → Over (Some z) zs
over_next z [] less = tt
over_next z (y ∷ ys) less = number_lt z y less.0

numbered_clean : (zs : List ℤ) (before : List (List ℕ)) (last : Option ℤ) → AreWhole zs → IsStrictlySortedBy int_cmp zs → NewNumbers before zs → Over last zs
    → rule.numbered_faults before last (map numbered_told zs) ≡ []
unfolding IsStrictlySortedBy
numbered_clean [] before last whole sorted new over = refl
numbered_clean (z ∷ zs) before last whole sorted new over =
    let bits = whole zero z (omega arith) in
    let rest : AreWhole zs = λ k d lt. whole (suc k) d (omega (arith, lt)) in
    let item = numbered_told z in
    let above = rule.is_above last (whole_of item.number) in
    let new_one = unless (not (rule.has_text before (number_identifier z))) 0 why.Duplicate in
    let others = rule.numbered_faults (before ++ number_identifier z ∷ []) (whole_of item.number) (map numbered_told zs) in
    no-more (new_one ++ rule.item_faults last item) others
    (no-more new_one (rule.item_faults last item)
    (stands-so (not (rule.has_text before (number_identifier z))) 0 why.Duplicate (ap not new.0))
    (no-more (unless (rule.is_numbered_so item) 0 why.Spelling) (unless (is_printed_number item.number && above) 0 why.Spelling)
    (stands-so (rule.is_numbered_so item) 0 why.Spelling (bytes-self (number_identifier z)))
    (stands-so (is_printed_number item.number && above) 0 why.Spelling (both-so (is_printed_number item.number) above (number_printed z bits) (ap (rule.is_above last) (number_back z bits) ∙ over)))))
    (ap (λ o. rule.numbered_faults (before ++ number_identifier z ∷ []) o (map numbered_told zs)) (number_back z bits)
    ∙ numbered_clean zs (before ++ number_identifier z ∷ []) (Some z) rest sorted.1 (new_numbers before z zs bits rest new.1 sorted.0) (over_next z zs sorted.0))

numbers_first : (zs : List ℤ) → NewNumbers [] zs
numbers_first [] = tt
numbers_first (z ∷ zs) = (refl, numbers_first zs)

over_none : (zs : List ℤ) → Over None zs
over_none [] = tt
over_none (z ∷ zs) = refl

pub numbers_clean : (zs : List ℤ) → AreWhole zs → IsStrictlySortedBy int_cmp zs → rule.numbered_faults [] None (map numbered_told zs) ≡ []
numbers_clean zs whole sorted = numbered_clean zs [] None whole sorted (numbers_first zs) (over_none zs)

-- ---- words

-- where they are no order, each is over the one before
abbrev Ascend : Bool → Option (List ℕ) → List (List ℕ) → Type 0
Ascend true last words = Unit {0}
Ascend false last [] = Unit {0}
Ascend false last (word ∷ words) = (rule.is_word_above last word ≡ true) × Ascend false (Some word) words

or_true : (a b : Bool) → b ≡ true → (a || b) ≡ true
or_true true b e = refl
or_true false b e = e

words_by : (order : Bool) (names : List (List ℕ)) (before : List (List ℕ)) (last : Option (List ℕ)) (words : List (List ℕ))
    → IsDistinct bytes_eq names → AreFresh before names → Ascend order last words → rule.word_faults order before last (map name_at names) words ≡ []
unfolding IsDistinct
words_by order [] before last words apart fresh up = refl
words_by order (name ∷ names) before last [] apart fresh up = refl
words_by true (name ∷ names) before last (word ∷ words) apart fresh up =
    no-more (unless (not (rule.has_text before name)) 0 why.Duplicate ++ []) (rule.word_faults true (before ++ name ∷ []) (Some word) (map name_at names) words)
    (no-more (unless (not (rule.has_text before name)) 0 why.Duplicate) [] (stands-so (not (rule.has_text before name)) 0 why.Duplicate (ap not fresh.0)) refl)
    (words_by true names (before ++ name ∷ []) (Some word) words apart.1 (fresh_more before name names fresh.1 apart.0) tt)
words_by false (name ∷ names) before last (word ∷ words) apart fresh up =
    let new_one = unless (not (rule.has_text before name)) 0 why.Duplicate in
    let over = unless (rule.is_word_above last word) 0 why.Spelling in
    no-more (new_one ++ over) (rule.word_faults false (before ++ name ∷ []) (Some word) (map name_at names) words)
    (no-more new_one over
    (stands-so (not (rule.has_text before name)) 0 why.Duplicate (ap not fresh.0))
    (stands-so (rule.is_word_above last word) 0 why.Spelling up.0))
    (words_by false names (before ++ name ∷ []) (Some word) words apart.1 (fresh_more before name names fresh.1 apart.0) up.1)

-- the items of an order, whatever the words
pub order_clean : (names words : List (List ℕ)) → IsDistinct bytes_eq names → rule.word_faults true [] None (map name_at names) words ≡ []
order_clean names words apart = words_by true names [] None words apart (fresh_first names) tt

ascend_from : (word : List ℕ) (words : List (List ℕ)) → AllByRecursion (λ y. slice_cmp nat_cmp word y ≡ Less) words → IsStrictlySortedBy (slice_cmp nat_cmp) words
    → Ascend false (Some word) words
unfolding IsStrictlySortedBy
ascend_from word [] less sorted = tt
ascend_from word (y ∷ ys) less sorted = (ap is_lt less.0, ascend_from y ys sorted.0 sorted.1)

ascend_all : (words : List (List ℕ)) → IsStrictlySortedBy (slice_cmp nat_cmp) words → Ascend false None words
unfolding IsStrictlySortedBy
ascend_all [] sorted = tt
ascend_all (word ∷ words) sorted = (refl, ascend_from word words sorted.0 sorted.1)

pub words_clean : (names words : List (List ℕ)) → IsDistinct bytes_eq names → IsStrictlySortedBy (slice_cmp nat_cmp) words
    → rule.word_faults false [] None (map name_at names) words ≡ []
words_clean names words apart sorted = words_by false names [] None words apart (fresh_first names) (ascend_all words sorted)
