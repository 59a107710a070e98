-- Numbers of items: where no identifier stands twice, the first item with an identifier behind others is the first of all.
use Rattle.std.proofs.Common.{◌≡◌, ℕ, zero, suc, ◌<◌, ◌≤◌, ◌+◌, Bool, true, false, not, ◌||◌, Option, Some, None, List, [], ◌∷◌, ◌++◌, length, drop, get_or, refl, sym, ap, ◌∙◌, arith}
use Rattle.std.specs.Prelude.{bytes_eq, cond, position, is_some, if◌then◌else◌}
use Rattle.std.specs.List.{list_any, position_from}
use Rattle.std.specs.Option.{option_map}
use Rattle.std.proofs.lemmas.Bool.{not-true}
use Rattle.std.proofs.lemmas.List.{at_drop_more, at_drop_all}
use Rattle.std.proofs.lemmas.Iterator.Adapters.{position_from-zero}
use Rattle.std.proofs.lemmas.Slice.Eq.{bytes_eq-Decides}
use Rattle.std.proofs.lemmas.List.Folds.{list_any-append}
use Rattle.module_text.specs.declared.types.PlainName.{PlainName}
use Rattle.module_text.specs.declared.types.PlainForm.{PlainForm}
use Rattle.module_text.specs.declared.types.PlainForm.TheVariants as form
use Rattle.module_text.specs.declared.spots.Spot.{Spot}
use Rattle.module_text.specs.declared.reasons.ModuleWhy.TheVariants.{Duplicate, Spelling}
use Rattle.module_text.specs.Listed.{unless}
use Rattle.module_text.specs.Simple.{is_order_item}
use Rattle.module_text.specs.Marks.{item_number}
use Rattle.module_text.specs.Faults.{has_text, is_word_above, word_faults}
use Rattle.module_text.proofs.PrintedBounds.{unless-none as so, front-none as front, behind-none as behind}

-- None of these identifiers stands before it or among those before.
abbrev pub StandOnce : List (List ℕ) → List PlainName → Type 0
StandOnce before [] = Unit {0}
StandOnce before (i ∷ is) = (has_text before i.name ≡ false) × StandOnce (before ++ i.name ∷ []) is

pub once : (order : Bool) (before : List (List ℕ)) (last : Option (List ℕ)) (is : List PlainName) (words : List (List ℕ))
    → length words ≡ length is → word_faults order before last is words ≡ [] → StandOnce before is
once order before last [] words same e = tt
once order before last (i ∷ is) [] same e = absurd (omega (arith, same))
once order before last (i ∷ is) (word ∷ words) same e =
    let first = unless (not (has_text before i.name)) i.at Duplicate in
    let second = unless (order || is_word_above last word) i.at Spelling in
    let rest = word_faults order (before ++ i.name ∷ []) (Some word) is words in
    let fewer : length words ≡ length is = omega (arith, same) in (
      not-true (has_text before i.name) (so (not (has_text before i.name)) i.at Duplicate (front first second (front (first ++ second) rest e))),
      once order (before ++ i.name ∷ []) (Some word) is words fewer (behind (first ++ second) rest e),
    )

-- the test for an identifier
abbrev pub is_named : List ℕ → PlainName → Bool
is_named identifier i = bytes_eq i.name identifier

kept : (identifier : List ℕ) (before : List (List ℕ)) (other : List ℕ) → has_text before identifier ≡ true → has_text (before ++ other ∷ []) identifier ≡ true
kept identifier before other had = list_any-append (bytes_eq identifier) before (other ∷ []) ∙ ap (λ b. b || has_text (other ∷ []) identifier) had

-- with a last one that is this
lastly : (identifier : List ℕ) (before : List (List ℕ)) → has_text (before ++ identifier ∷ []) identifier ≡ true
lastly identifier before =
    list_any-append (bytes_eq identifier) before (identifier ∷ [])
    ∙ ap (λ b. has_text before identifier || (b || false)) ((bytes_eq-Decides identifier identifier).1 refl)
    ∙ or_true (has_text before identifier)
  where
    or_true : (b : Bool) → (b || true) ≡ true
    or_true true = refl
    or_true false = refl

passed : (identifier : List ℕ) (before : List (List ℕ)) (i : PlainName) (found : Option ℕ) (n : ℕ) (same : Bool)
    → bytes_eq i.name identifier ≡ same → has_text before identifier ≡ true → has_text before i.name ≡ false → found ≡ None
    → cond same (Some n) found ≡ None
passed identifier before i found n true e had other none =
    let is : i.name ≡ identifier = (bytes_eq-Decides i.name identifier).0 e in
    let never : true ≡ false = sym had ∙ ap (has_text before) (sym is) ∙ other in
    absurd (cc)
passed identifier before i found n false e had other none = none

-- An identifier that stood before isn't among them.
never : (identifier : List ℕ) (before : List (List ℕ)) (is : List PlainName) (j n : ℕ)
    → has_text before identifier ≡ true → StandOnce before is → position_from (is_named identifier) n (drop j is) ≡ None
never identifier before [] zero n had once = refl
never identifier before [] (suc j) n had once = refl
never identifier before (i ∷ is) (suc j) n had once =
    never identifier (before ++ i.name ∷ []) is j n (kept identifier before i.name had) once.1
never identifier before (i ∷ is) zero n had once =
    passed identifier before i _ n (bytes_eq i.name identifier) refl had once.0
    (never identifier (before ++ i.name ∷ []) is zero (n + 1) (kept identifier before i.name had) once.1)

-- Where the first of those behind is found, it is the first of all.
found_first : (identifier : List ℕ) (before : List (List ℕ)) (i : PlainName) (is : List PlainName) (j n m k : ℕ) (same : Bool)
    → bytes_eq i.name identifier ≡ same → StandOnce (before ++ i.name ∷ []) is
    → position_from (is_named identifier) m (drop j is) ≡ Some k
    → position_from (is_named identifier) (n + 1) is ≡ Some k
    → cond same (Some n) (position_from (is_named identifier) (n + 1) is) ≡ Some k
found_first identifier before i is j n m k true e once found rest =
    let is_it : i.name ≡ identifier = (bytes_eq-Decides i.name identifier).0 e in
    let had : has_text (before ++ i.name ∷ []) identifier ≡ true = ap (λ name. has_text (before ++ name ∷ []) identifier) is_it ∙ lastly identifier before in
    let none : None ≡ Some k = sym (never identifier (before ++ i.name ∷ []) is j m had once) ∙ found in
    absurd (cc)
found_first identifier before i is j n m k false e once found rest = rest

first_of_all : (identifier : List ℕ) (before : List (List ℕ)) (is : List PlainName) (j n m k : ℕ)
    → m ≡ j + n → StandOnce before is
    → position_from (is_named identifier) m (drop j is) ≡ Some k → position_from (is_named identifier) n is ≡ Some k
first_of_all identifier before is zero n m k e once found =
    let same : n ≡ m = omega (arith, e) in
    ap (λ x. position_from (is_named identifier) x is) same ∙ found
first_of_all identifier before [] (suc j) n m k e once found = found
first_of_all identifier before (i ∷ is) (suc j) n m k e once found =
    found_first identifier before i is j n m k (bytes_eq i.name identifier) refl once.1 found
    (first_of_all identifier (before ++ i.name ∷ []) is j (n + 1) m k (omega (arith, e)) once.1 found)

-- counted on from a number
moved_at : {X : Type 0} (p : X → Bool) (a n m : ℕ) (xs : List X) (b : Bool) → m ≡ a + n
    → option_map (λ i. a + i) (position_from p (n + 1) xs) ≡ position_from p (m + 1) xs
    → option_map (λ i. a + i) (cond b (Some n) (position_from p (n + 1) xs)) ≡ cond b (Some m) (position_from p (m + 1) xs)
moved_at p a n m xs true e rest = ap Some (sym e)
moved_at p a n m xs false e rest = rest

moved : {X : Type 0} (p : X → Bool) (a n m : ℕ) (xs : List X) → m ≡ a + n → option_map (λ i. a + i) (position_from p n xs) ≡ position_from p m xs
moved p a n m [] e = refl
moved p a n m (x ∷ xs) e = moved_at p a n m xs (p x) e (moved p a (n + 1) (m + 1) xs (omega (arith, e)))

from_least : (identifier : List ℕ) (least : ℕ) (is : List PlainName)
    → option_map (λ i. least + i) (position (is_named identifier) (drop least is)) ≡ position_from (is_named identifier) least (drop least is)
from_least identifier least is =
    ap (option_map (λ i. least + i)) (position_from-zero (is_named identifier) (drop least is))
    ∙ moved (is_named identifier) least 0 least (drop least is) (omega arith)

-- what is said of the items of a form
abbrev pub ItemsStandOnce : PlainForm → Type 0
ItemsStandOnce (form.Words identifiers) = StandOnce [] identifiers
ItemsStandOnce f = Unit {0}

some_of : (o : Option ℕ) → is_some o ≡ true → (k : ℕ) × (o ≡ Some k)
some_of None e = absurd (cc)
some_of (Some k) e = (k, refl)

number_at : (least : ℕ) (identifier : List ℕ) (identifiers : List PlainName) (order : Bool)
    → StandOnce [] identifiers
    → is_some (if order then None else option_map (λ i. least + i) (position (is_named identifier) (drop least identifiers))) ≡ true
    → (if order then None else option_map (λ i. least + i) (position (is_named identifier) (drop least identifiers)))
    ≡ (if order then None else option_map (λ i. 0 + i) (position (is_named identifier) (drop 0 identifiers)))
number_at least identifier identifiers true once e = refl
number_at least identifier identifiers false once e =
    let found = some_of (option_map (λ i. least + i) (position (is_named identifier) (drop least identifiers))) e in
    let there : position_from (is_named identifier) least (drop least identifiers) ≡ Some found.0 = sym (from_least identifier least identifiers) ∙ found.1 in
    let first : position_from (is_named identifier) 0 identifiers ≡ Some found.0 = first_of_all identifier [] identifiers least 0 least found.0 (omega arith) once there in
    found.1 ∙ sym first ∙ sym (from_least identifier 0 identifiers)

pub same_number : (spot : Spot) (f : PlainForm) (least : ℕ) (identifier : List ℕ)
    → ItemsStandOnce f → is_some (item_number spot f least identifier) ≡ true → item_number spot f least identifier ≡ item_number spot f 0 identifier
same_number spot (form.Words identifiers) least identifier once e = number_at least identifier identifiers (is_order_item spot) once e
same_number spot f least identifier once e = refl

-- ---- the search for an identifier

module _ (identifier : List ℕ) (items : List PlainName) (i : ℕ) where
  pub place_passed : (x : PlainName) → i < length items → x ≡ get_or items i x → bytes_eq x.name identifier ≡ false
      → position_from (is_named identifier) i (drop i items) ≡ position_from (is_named identifier) (i + 1) (drop (i + 1) items)
  place_passed x lt here e =
      at_drop_more (position_from (is_named identifier) i) items i x lt
      ∙ ap (λ y. cond (bytes_eq y.name identifier) (Some i) (position_from (is_named identifier) (i + 1) (drop (i + 1) items))) (sym here)
      ∙ ap (λ b. cond b (Some i) (position_from (is_named identifier) (i + 1) (drop (i + 1) items))) e

  pub place_here : (x : PlainName) → i < length items → x ≡ get_or items i x → bytes_eq x.name identifier ≡ true
      → position_from (is_named identifier) i (drop i items) ≡ Some i
  place_here x lt here e =
      at_drop_more (position_from (is_named identifier) i) items i x lt
      ∙ ap (λ y. cond (bytes_eq y.name identifier) (Some i) (position_from (is_named identifier) (i + 1) (drop (i + 1) items))) (sym here)
      ∙ ap (λ b. cond b (Some i) (position_from (is_named identifier) (i + 1) (drop (i + 1) items))) e

  pub place_past : length items ≤ i → position_from (is_named identifier) i (drop i items) ≡ None
  place_past le = at_drop_all (position_from (is_named identifier) i) items i le

-- the number of an item by its place
pub number_is : (spot : Spot) (identifiers : List PlainName) (least : ℕ) (identifier : List ℕ) (o : Option ℕ)
    → is_order_item spot ≡ false → o ≡ position_from (is_named identifier) least (drop least identifiers)
    → o ≡ item_number spot (form.Words identifiers) least identifier
number_is spot identifiers least identifier o order e = rw order (e ∙ sym (from_least identifier least identifiers))

pub no_number : (spot : Spot) (identifiers : List PlainName) (least : ℕ) (identifier : List ℕ)
    → is_order_item spot ≡ true → None ≡ item_number spot (form.Words identifiers) least identifier
no_number spot identifiers least identifier order = rw order refl
