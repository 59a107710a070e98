-- The simple types of unions and lists, and what is made where there is none.
use Rattle.std.proofs.Common.{◌≡◌, ℕ, ◌≤◌, Bool, true, false, ◌&&◌, not, Option, Some, None, List, [], ◌∷◌, Box, Global, length, drop, slice_get, refl, sym, ap, ◌∙◌, subst, arith}
use Rattle.std.specs.Prelude.{MatchOption}
use Rattle.std.proofs.lemmas.List.{at_drop_all}
use Rattle.base_trees.specs.Rose.{Rose, roses_of, node_count, count_all}
use Rattle.simple_types.specs.declared.simples.Simple.{Simple}
use Rattle.simple_types.specs.declared.simples.Simple.TheVariants as variant
use Rattle.simple_types.specs.declared.simples.SimpleList.{SimpleList}
use Rattle.simple_types.specs.Seen.{space_of, spaces_in, spaces_of}
use Rattle.simple_types.specs.Sound.{Sound, has_list}
use Rattle.simple_types.specs.Space.{Space, Spaces, ListOf, UnionOf, count_members}
use Rattle.simple_types.proofs.Members.{count_in}
use Rattle.simple_types.proofs.Seen as seen
use Rattle.module_text.specs.declared.types.PlainLabel.{PlainLabel}
use Rattle.module_text.specs.declared.spots.Spot.{Spot}
use Rattle.module_text.specs.Told.{Sizes}
use Rattle.module_text.specs.Simple.{if_so, is_counted, are_sizes, union_space, list_space, simple_told, members_told, item_told}
use Rattle.module_simple.specs.Made.{made_space, IsMade, Makes, AreMade}
use Rattle.module_simple.proofs.Sounding.{counted, sizes, and-first, and-second}
use Rattle.module_simple.proofs.Telling.{with_those, those-all, no-item, first-item}

-- nothing is made of a type that stands for none
pub made_none : (found : Option Simple) (due : Option Space) → ((s : Simple) → found ≡ Some s → ⊥) → Makes found due → due ≡ None
made_none None due never made = made.0
made_none (Some s) due never made = absurd (never s refl)

-- nor of what is not found
pub absent : {X : Type 0} (found : Option X) (P : Type 0) (Q : X → Type 0) → ((x : X) → found ≡ Some x → ⊥) → MatchOption found P Q → P
absent None P Q never h = h
absent (Some x) P Q never h = absurd (never x refl)

-- the members behind the last type
pub those-end : (ms : List Simple) (kids : List (Rose PlainLabel)) (i : ℕ) (due : Option Spaces) → length kids ≤ i
    → with_those ms (members_told (roses_of (drop i kids))) ≡ due → due ≡ Some (spaces_in ms)
those-end ms kids i due past so = those-all ms due (sym (at_drop_all (λ ts. with_those ms (members_told (roses_of ts))) kids i past) ∙ so)

-- ---- unions

pub union-none : (due : Option Spaces) → due ≡ None → Makes None (union_space due)
union-none due none = (ap union_space none, tt)

module _ (due : Option Spaces) (ms : List Simple) (made : AreMade due ms) where
  union-if : (b : Bool) → is_counted (length ms) ≡ b → union_space due ≡ if_so b (Some (UnionOf (spaces_in ms)))
  union-if b e = ap union_space made.0 ∙ ap (λ n. if_so (is_counted n) (Some (UnionOf (spaces_in ms)))) (count_in ms) ∙ ap (λ c. if_so c (Some (UnionOf (spaces_in ms)))) e

  pub union-few : is_counted (length ms) ≡ false → Makes None (union_space due)
  union-few e = (union-if false e, tt)

  pub union-made : (list : SimpleList) → spaces_of list ≡ spaces_in ms → is_counted (length ms) ≡ true → Makes (Some (variant.Union list)) (union_space due)
  union-made list lent e =
      let is : space_of (variant.Union list) ≡ UnionOf (spaces_in ms) = seen.union_space list ∙ ap UnionOf lent in
      let few : is_counted (count_members (spaces_in ms)) ≡ true = ap is_counted (count_in ms) ∙ e in
      (union-if true e ∙ ap Some (sym is), subst Sound (sym is) (counted (count_members (spaces_in ms)) few, made.1))

-- ---- lists

pub item-first : (spot : Spot) (kids : List (Rose PlainLabel)) (kid : Rose PlainLabel) → Some kid ≡ slice_get kids 0 → simple_told spot kid ≡ item_told spot (roses_of kids)
item-first spot [] kid got = absurd (cc)
item-first spot (k ∷ ks) kid got = let same : kid ≡ k = cc in ap (simple_told spot) same ∙ sym (first-item spot k (roses_of ks))

pub item-none : (spot : Spot) (kids : List (Rose PlainLabel)) → None ≡ slice_get kids 0 → Makes None (item_told spot (roses_of kids))
item-none spot [] got = (no-item spot, tt)
item-none spot (k ∷ ks) got = absurd (cc)

pub list_no_sizes : (due : Option Space) (size : Option Sizes) → size ≡ None → Makes None (list_space size due)
list_no_sizes due size none = (ap (λ s. list_space s due) none, tt)

pub list_no_item : (due : Option Space) (size : Option Sizes) → due ≡ None → Makes None (list_space size due)
list_no_item due None none = (refl, tt)
list_no_item due (Some s) none = (ap (list_space (Some s)) none, tt)

module _ (due : Option Space) (size : Option Sizes) (s : Sizes) (item : Simple) (size_is : size ≡ Some s) (made : Makes (Some item) due) where
  list-if : (b : Bool) → (are_sizes s && not (has_list (space_of item))) ≡ b → list_space size due ≡ if_so b (Some (ListOf (space_of item) s.0 s.1))
  list-if b e =
      ap (λ z. list_space z due) size_is ∙ ap (list_space (Some s)) made.0
      ∙ ap (λ c. if_so c (Some (ListOf (space_of item) s.0 s.1))) e

  pub list-not : (are_sizes s && not (has_list (space_of item))) ≡ false → Makes None (list_space size due)
  list-not e = (list-if false e, tt)

  not-true : (b : Bool) → not b ≡ true → b ≡ false
  not-true true e = sym e
  not-true false e = refl

  pub list-made : (held : Box Simple Global) → held.value ≡ item → (are_sizes s && not (has_list (space_of item))) ≡ true
      → Makes (Some (variant.List held s.0 s.1)) (list_space size due)
  list-made held lent e =
      let is : space_of (variant.List held s.0 s.1) ≡ ListOf (space_of item) s.0 s.1 = seen.list_space held s.0 s.1 ∙ ap (λ i. ListOf (space_of i) s.0 s.1) lent in
      let no_list : has_list (space_of item) ≡ false = not-true (has_list (space_of item)) (and-second (are_sizes s) (not (has_list (space_of item))) e) in
      (list-if true e ∙ ap Some (sym is), subst Sound (sym is) (made.1, no_list, sizes s (and-first (are_sizes s) (not (has_list (space_of item))) e)))

pub first-count : (kids : List (Rose PlainLabel)) (kid : Rose PlainLabel) → Some kid ≡ slice_get kids 0 → node_count kid ≤ count_all (roses_of kids)
first-count [] kid got = absurd (cc)
first-count (k ∷ ks) kid got = let same : kid ≡ k = cc in let as_many : node_count kid ≡ node_count k = ap node_count same in omega arith
