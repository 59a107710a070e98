-- Tokens are of one tree; so bytes are of one tree, or have one fault.
use Rattle.std.proofs.Common.{◌≡◌, ◌≢◌, ℕ, zero, suc, ◌≤◌, ◌<◌, Bool, true, false, cond, List, [], ◌∷◌, ◌++◌, length, take, drop, refl, sym, ap, subst, ◌∙◌, arith, inl, inr, append_assoc}
use Rattle.std.specs.Prelude.{◌⊎◌, IsUtf8, nat_eq}
use lib.Utf8.{encode}
use Rattle.std.specs.Str.{IsValidUpTo, is_utf8}
use Rattle.std.specs.List.{starts_with}
use Rattle.std.proofs.lemmas.Str.{utf8_valid_len-IsValidUpTo, IsUtf8-past_char, IsUtf8-from_is_utf8, is_utf8-from_IsUtf8, IsUtf8-nil}
use Rattle.std.proofs.lemmas.Slice.Eq.{starts_is}
use Rattle.std.proofs.lemmas.Bool.Decides.{Decides-eqb, eqb_tells}
use Rattle.std.proofs.lemmas.List.{length-append, take_all}
use Rattle.base_trees.specs.Rose.{Rose, node, Roses, none, more, Allowed, AllowedAll, length_all}
use Rattle.xml_items.specs.declared.label.ItemLabel.{ItemLabel}
use Rattle.xml_items.specs.declared.label.ItemLabel.TheVariants.{Element, Text}
use Rattle.xml_read.specs.declared.error.DocWhy.{DocWhy}
use Rattle.xml_items.specs.Labels.{MayHave}
use Rattle.xml_read.specs.Contexts.{start}
use Rattle.xml_read.specs.Tokens.{Token, Opens, Closes, Words, tokens, tokens_all}
use Rattle.xml_read.specs.Documents.{mark_len, DocOf, BrokenAt}
use Rattle.xml_read.proofs.PieceLaws.{PieceLaws}
use Rattle.xml_read.proofs.OneAnswer.{whole_one, not_both, broken_one, DocFault}

-- ---- tokens

none_left : (kids : Roses ItemLabel) → length_all kids ≡ 0 → kids ≡ none
none_left none e = refl
none_left (more t ts) e = absurd (omega arith)

abbrev pub behind_first : List Token → List Token
behind_first [] = []
behind_first (t ∷ ts) = ts

mutual
  tokens_same : (x y : Rose ItemLabel) (ts us : List Token) → Allowed MayHave x → Allowed MayHave y → tokens x ++ ts ≡ tokens y ++ us → (x ≡ y) × (ts ≡ us)
  tokens_same (node (Element n a d p) kids) (node (Element m b e q) others) ts us f g same =
      let heads : Opens n a d p ≡ Opens m b e q = cc in
      let tails : (tokens_all kids ++ Closes ∷ []) ++ ts ≡ (tokens_all others ++ Closes ∷ []) ++ us = ap behind_first same in
      let inner : tokens_all kids ++ Closes ∷ ts ≡ tokens_all others ++ Closes ∷ us = sym (append_assoc (tokens_all kids) (Closes ∷ []) ts) ∙ tails ∙ append_assoc (tokens_all others) (Closes ∷ []) us in
      let below = all_same kids others ts us f.1 g.1 inner in
      let kids_are : kids ≡ others = below.0 in
      let labels : Element n a d p ≡ Element m b e q = cc in
      (rw (labels, kids_are) refl, below.1)
  tokens_same (node (Element n a d p) kids) (node (Text t q) others) ts us f g same = absurd cc
  tokens_same (node (Text t p) kids) (node (Element m b e q) others) ts us f g same = absurd cc
  tokens_same (node (Text t p) kids) (node (Text u q) others) ts us f g same =
      let kids_are : kids ≡ none = none_left kids f.0 in
      let others_are : others ≡ none = none_left others g.0 in
      let plain : Words t p ∷ ts ≡ Words u q ∷ us = ap (λ (k : Roses ItemLabel). Words t p ∷ (tokens_all k ++ ts)) (sym kids_are) ∙ same ∙ ap (λ (k : Roses ItemLabel). Words u q ∷ (tokens_all k ++ us)) others_are in
      let labels : Text t p ≡ Text u q = (let heads : Words t p ≡ Words u q = cc in cc) in
      (rw (labels, kids_are, others_are) refl, cc)

  all_same : (xs ys : Roses ItemLabel) (ts us : List Token) → AllowedAll MayHave xs → AllowedAll MayHave ys → tokens_all xs ++ Closes ∷ ts ≡ tokens_all ys ++ Closes ∷ us → (xs ≡ ys) × (ts ≡ us)
  all_same none none ts us f g same = (refl, cc)
  all_same none (more (node (Element m b e q) others) ys) ts us f g same = absurd cc
  all_same none (more (node (Text u q) others) ys) ts us f g same = absurd cc
  all_same (more (node (Element n a d p) kids) xs) none ts us f g same = absurd cc
  all_same (more (node (Text t p) kids) xs) none ts us f g same = absurd cc
  all_same (more x xs) (more y ys) ts us f g same =
      let first = tokens_same x y (tokens_all xs ++ Closes ∷ ts) (tokens_all ys ++ Closes ∷ us) f.0 g.0 (sym (append_assoc (tokens x) (tokens_all xs) (Closes ∷ ts)) ∙ same ∙ append_assoc (tokens y) (tokens_all ys) (Closes ∷ us)) in
      let later = all_same xs ys ts us f.1 g.1 first.1 in
      (rw (first.0, later.0) refl, later.1)

pub one_by_tokens : (x y : Rose ItemLabel) → Allowed MayHave x → Allowed MayHave y → tokens x ≡ tokens y → x ≡ y
one_by_tokens x y f g e = (tokens_same x y [] [] f g (ap (λ (ts : List Token). ts ++ []) e)).0

-- ---- the byte order mark

abbrev pub mark : List ℕ
mark = 0xEF ∷ 0xBB ∷ 0xBF ∷ []

marked : (bytes : List ℕ) → starts_with nat_eq bytes mark ≡ true → bytes ≡ encode 0xFEFF ++ drop 3 bytes
unfolding encode
marked bytes e = (starts_is Decides-eqb bytes mark (starts_with nat_eq bytes mark) refl).0 e

pub utf8_behind : (bytes : List ℕ) → IsUtf8 bytes → IsUtf8 (drop (mark_len bytes) bytes)
utf8_behind bytes utf8 = elim (starts_with nat_eq bytes mark) as (λ (b : Bool). starts_with nat_eq bytes mark ≡ b → IsUtf8 (drop (cond b 3 0) bytes)) [
  | true ↦ (λ e. IsUtf8-past_char bytes (drop 3 bytes) 0xFEFF utf8 (marked bytes e))
  | false ↦ (λ e. utf8)
] refl

pub mark_within : (bytes : List ℕ) → mark_len bytes ≤ length bytes
unfolding encode
mark_within bytes = elim (starts_with nat_eq bytes mark) as (λ (b : Bool). starts_with nat_eq bytes mark ≡ b → cond b 3 0 ≤ length bytes) [
  | true ↦ (λ e. let three : length (encode 0xFEFF) ≡ 3 = refl in omega (arith, ap length (marked bytes e), length-append (encode 0xFEFF) (drop 3 bytes)))
  | false ↦ (λ e. omega arith)
] refl

-- ---- the laws

pub one_tree : PieceLaws → (bytes : List ℕ) (x y : Rose ItemLabel) → DocOf bytes x → DocOf bytes y → x ≡ y
one_tree laws bytes x y v w =
    one_by_tokens x y v.allowed w.allowed (whole_one laws v.pieces w.pieces start (mark_len bytes) (drop (mark_len bytes) bytes) (tokens x) (tokens y) (utf8_behind bytes v.utf8) v.whole w.whole)

pub tree_or_fault : PieceLaws → (bytes : List ℕ) (x : Rose ItemLabel) (at : ℕ) (cause : DocWhy) → DocOf bytes x → BrokenAt bytes at cause → ⊥
tree_or_fault laws bytes x at cause v (inl w) = w.0 v.utf8
tree_or_fault laws bytes x at cause v (inr w) = not_both laws v.pieces w.1.0 start (mark_len bytes) (drop (mark_len bytes) bytes) (tokens x) at cause (utf8_behind bytes v.utf8) v.whole w.1.1

pub one_fault : PieceLaws → (bytes : List ℕ) (a b : ℕ) (cause other : DocWhy) → BrokenAt bytes a cause → BrokenAt bytes b other → (a ≡ b) × (cause ≡ other)
one_fault laws bytes a b cause other (inl v) (inl w) = (sym (utf8_valid_len-IsValidUpTo bytes a v.1) ∙ utf8_valid_len-IsValidUpTo bytes b w.1, v.2 ∙ sym w.2)
one_fault laws bytes a b cause other (inl v) (inr w) = absurd (v.0 w.0)
one_fault laws bytes a b cause other (inr v) (inl w) = absurd (w.0 v.0)
one_fault laws bytes a b cause other (inr v) (inr w) =
    let e = broken_one laws v.1.0 w.1.0 start (mark_len bytes) (drop (mark_len bytes) bytes) a b cause other (utf8_behind bytes v.0) v.1.1 w.1.1 in
    (ap (λ (f : DocFault). f.place) e, ap (λ (f : DocFault). f.cause) e)

-- ---- the longest front that is UTF-8

no_longer : (bytes : List ℕ) (n : ℕ) → ¬ IsUtf8 bytes → length bytes ≤ n → ¬ IsUtf8 (take n bytes)
no_longer bytes n bad long u = bad (subst IsUtf8 (take_all n bytes long) u)

lt_cases : (n m : ℕ) → n < m → (m ≡ suc n) ⊎ (suc n < m)
lt_cases n m lt = elim (eqb_tells m (suc n)) [ inl e ↦ inl e.1 | inr e ↦ inr (let ne : m ≢ suc n = e.1 in omega arith) ]

longest : (bytes : List ℕ) (n : ℕ) → n < length bytes → ((m : ℕ) → n < m → ¬ IsUtf8 (take m bytes)) → (k : ℕ) × IsValidUpTo bytes k
longest bytes zero short above = (0, record { short = short; front = IsUtf8-nil; longest = above })
longest bytes (suc n) short above = elim (is_utf8 (take (suc n) bytes)) as (λ (b : Bool). is_utf8 (take (suc n) bytes) ≡ b → (k : ℕ) × IsValidUpTo bytes k) [
  | true ↦ (λ e. (suc n, record { short = short; front = IsUtf8-from_is_utf8 (take (suc n) bytes) e; longest = above }))
  | false ↦ (λ e. longest bytes n (omega arith) (λ m lt u. elim (lt_cases n m lt) [ inl same ↦ (let yes : is_utf8 (take (suc n) bytes) ≡ true = is_utf8-from_IsUtf8 (take (suc n) bytes) (subst (λ (k : ℕ). IsUtf8 (take k bytes)) same u) in absurd cc) | inr lt ↦ above m lt u ]))
] refl

pub valid_up_to : (bytes : List ℕ) → ¬ IsUtf8 bytes → (k : ℕ) × IsValidUpTo bytes k
valid_up_to [] bad = absurd (bad IsUtf8-nil)
valid_up_to (b ∷ bs) bad = longest (b ∷ bs) (length bs) (omega arith) (λ m lt. no_longer (b ∷ bs) m bad (omega arith))
