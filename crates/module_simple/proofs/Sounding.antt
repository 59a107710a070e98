-- What stands for a simple type is sound.
use Rattle.std.proofs.Common.{◌≡◌, ℕ, ◌<◌, ◌≤◌, ◌^◌, Bool, true, false, ◌&&◌, not, Option, Some, None, List, [], ◌∷◌, length, refl, sym, ap, ◌∙◌, subst, arith, Ordering, Less, Equal, Greater}
use Rattle.std.specs.Prelude.{ℤ, int_le, int_lt, ◌≤ℤ◌, nat_lt, nat_le}
use Rattle.std.specs.List.{list_all}
use Rattle.std.specs.List.{AllByRecursion}
use Rattle.std.specs.List.Sorted.{IsStrictlySortedBy}
use Rattle.std.specs.Ordering.{nat_cmp, int_cmp, is_lt}
use Rattle.std.specs.Cmp.{IsTotalOrder}
use Rattle.std.specs.Cmp.Lexicographic.{slice_cmp}
use Rattle.std.proofs.lemmas.Bool.{true≢false, leb-true, ltb-true}
use Rattle.std.proofs.lemmas.Cmp.{int_cmp_total, nat_list_cmp_total}
use Rattle.std.proofs.lemmas.Int.{ints}
use Rattle.simple_types.specs.declared.simples.Class.{Class}
use Rattle.simple_types.specs.Sound.{Sound, AreSound, IsCounted, AreBounds, AreSizes}
use Rattle.simple_types.specs.Space.{Space, Spaces, none, more, Booleans, Wholes, Numbers, Words, Characters, ListOf, UnionOf, count_members}
use Rattle.std.specs.Prelude.{chars, bytes_eq}
use Rattle.std.specs.Str.{is_utf8}
use Rattle.std.proofs.lemmas.Bool.{false_from_ne_true}
use Rattle.std.proofs.lemmas.Slice.Eq.{bytes_eq-Decides}
use Rattle.base_texts.specs.declared.white_space.WhiteSpace.{WhiteSpace}
use Rattle.base_texts.specs.WhiteSpace.{treated}
use Rattle.base_texts.specs.Characters.{is_xml_char}
use Rattle.simple_types.specs.Sound.{IsWord, AreWords}
use Rattle.module_text.specs.Told.{Bounds, Sizes, is_xml_text}
use Rattle.module_text.specs.Simple as simple

pub and-first : (a b : Bool) → (a && b) ≡ true → a ≡ true
and-first true b e = refl
and-first false b e = e

pub and-second : (a b : Bool) → (a && b) ≡ true → b ≡ true
and-second true b e = e
and-second false b e = absurd (true≢false (sym e))

pub counted : (n : ℕ) → simple.is_counted n ≡ true → IsCounted n
counted n e =
    (ltb-true 0 n (and-first (nat_lt 0 n) (nat_lt n (2 ^ 32)) e), ltb-true n (2 ^ 32) (and-second (nat_lt 0 n) (nat_lt n (2 ^ 32)) e))

pub bounds : (b : Bounds) → simple.are_bounds b ≡ true → AreBounds b.0 b.1
bounds (None, greatest) e = tt
bounds (Some least, None) e = tt
bounds (Some least, Some greatest) e = grind (arith, ints)

pub sizes : (s : Sizes) → simple.are_sizes s ≡ true → AreSizes s.0 s.1
sizes (least, None) e = tt
sizes (least, Some most) e = leb-true least most e

-- ---- what ascends from one to the next ascends

abbrev Chains : {K : Type 0} → (K → K → Ordering) → K → List K → Type 0
Chains c x [] = Unit {0}
Chains c x (y ∷ ys) = (c x y ≡ Less) × Chains c y ys

over_all : {K : Type 0} (c : K → K → Ordering) (o : IsTotalOrder c) (x y : K) (zs : List K) → c x y ≡ Less
    → AllByRecursion (λ z. c y z ≡ Less) zs → AllByRecursion (λ z. c x z ≡ Less) zs
over_all c o x y [] lt h = tt
over_all c o x y (z ∷ zs) lt h = (o.trans x y z lt h.0, over_all c o x y zs lt h.1)

chained : {K : Type 0} (c : K → K → Ordering) (o : IsTotalOrder c) (x : K) (ys : List K) → Chains c x ys
    → AllByRecursion (λ y. c x y ≡ Less) ys × IsStrictlySortedBy c ys
unfolding IsStrictlySortedBy
chained c o x [] h = (tt, tt)
chained c o x (y ∷ ys) h =
    let rest = chained c o y ys h.1 in
    ((h.0, over_all c o x y ys h.0 rest.0), rest)

numbers_chain : (z : ℤ) (zs : List ℤ) → simple.ascend_behind (Some z) zs ≡ true → Chains int_cmp z zs
numbers_chain z [] e = tt
numbers_chain z (y ∷ ys) e =
    let lt : int_lt z y ≡ true = and-first (int_lt z y) (simple.ascend_behind (Some y) ys) e in
    (rw lt refl, numbers_chain y ys (and-second (int_lt z y) (simple.ascend_behind (Some y) ys) e))

pub numbers_ascend : (zs : List ℤ) → simple.ascend zs ≡ true → IsStrictlySortedBy int_cmp zs
unfolding IsStrictlySortedBy
numbers_ascend [] e = tt
numbers_ascend (z ∷ zs) e = chained int_cmp int_cmp_total z zs (numbers_chain z zs e)

less_is : (o : Ordering) → is_lt o ≡ true → o ≡ Less
less_is Less e = refl
less_is Equal e = absurd (true≢false (sym e))
less_is Greater e = absurd (true≢false (sym e))

words_chain : (w : List ℕ) (ws : List (List ℕ)) → simple.texts_behind (Some w) ws ≡ true → Chains (slice_cmp nat_cmp) w ws
words_chain w [] e = tt
words_chain w (v ∷ vs) e = (
  less_is (slice_cmp nat_cmp w v) (and-first (simple.text_lt w v) (simple.texts_behind (Some v) vs) e),
  words_chain v vs (and-second (simple.text_lt w v) (simple.texts_behind (Some v) vs) e),
)

pub words_ascend : (ws : List (List ℕ)) → simple.texts_ascend ws ≡ true → IsStrictlySortedBy (slice_cmp nat_cmp) ws
unfolding IsStrictlySortedBy
words_ascend [] e = tt
words_ascend (w ∷ ws) e = chained (slice_cmp nat_cmp) nat_list_cmp_total w ws (words_chain w ws e)

-- ---- words

word : (how : WhiteSpace) (w : List ℕ) → simple.is_word how w ≡ true → IsWord how w
word how w e =
    let xml : is_xml_text w ≡ true = and-first (is_xml_text w) (bytes_eq (treated how w) w) e in
    let same : bytes_eq (treated how w) w ≡ true = and-second (is_xml_text w) (bytes_eq (treated how w) w) e in
    (and-second (is_utf8 w) (list_all is_xml_char (chars w)) xml, (bytes_eq-Decides (treated how w) w).0 same)

pub are_words : (how : WhiteSpace) (ws : List (List ℕ)) → list_all (simple.is_word how) ws ≡ true → AreWords how ws
are_words how [] e = tt
are_words how (w ∷ ws) e =
    (word how w (and-first (simple.is_word how w) (list_all (simple.is_word how) ws) e), are_words how ws (and-second (simple.is_word how w) (list_all (simple.is_word how) ws) e))

utf8-words : (how : WhiteSpace) (ws : List (List ℕ)) → list_all (simple.is_word how) ws ≡ true → list_all is_utf8 ws ≡ true
utf8-words how [] e = refl
utf8-words how (w ∷ ws) e =
    let here : simple.is_word how w ≡ true = and-first (simple.is_word how w) (list_all (simple.is_word how) ws) e in
    let xml : is_xml_text w ≡ true = and-first (is_xml_text w) (bytes_eq (treated how w) w) here in
    let one : is_utf8 w ≡ true = and-first (is_utf8 w) (list_all is_xml_char (chars w)) xml in
    let rest : list_all is_utf8 ws ≡ true = utf8-words how ws (and-second (simple.is_word how w) (list_all (simple.is_word how) ws) e) in
    rw one rest

and-false : (a : Bool) → (a && false) ≡ false
and-false true = refl
and-false false = refl

-- words of which one isn't UTF-8 have no space
pub no_words : (how : WhiteSpace) (ws : List (List ℕ)) → list_all is_utf8 ws ≡ false → simple.word_space ws (Some how) ≡ None
no_words how ws e =
    let bad : list_all (simple.is_word how) ws ≡ false = false_from_ne_true (list_all (simple.is_word how) ws) (λ t. true≢false (sym (utf8-words how ws t) ∙ e)) in
    rw bad (simp and-false)
