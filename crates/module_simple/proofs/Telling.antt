-- The space of a type by its form, and of the members of a union one behind another.
use Rattle.std.proofs.Common.{◌≡◌, ℕ, ◌+◌, ◌<◌, Bool, true, false, not, Option, Some, None, List, [], ◌∷◌, ◌++◌, ◌&&◌, length, get_or, drop, refl, sym, ap, ◌∙◌}
use Rattle.base_trees.specs.Rose.{Rose, node, Roses, none, more, roses_of, label_of, kids_of}
use Rattle.base_trees.proofs.Roses.{roses_of-list_of}
use Rattle.base_trees.proofs.Kids.{roses_of-drop}
use Rattle.simple_types.specs.declared.simples.Simple.{Simple}
use Rattle.simple_types.specs.Seen.{space_of, spaces_in}
use Rattle.simple_types.specs.Sound.{Sound, AreSound, is_union}
use Rattle.simple_types.specs.Space as space
use Rattle.simple_types.specs.Space.{Space, Spaces, Booleans}
use Rattle.module_text.specs.declared.types.PlainForm.{PlainForm}
use Rattle.module_text.specs.declared.types.PlainForm.TheVariants as form
use Rattle.module_text.specs.declared.types.PlainLabel.{PlainLabel}
use Rattle.module_text.specs.declared.spots.Spot.{Spot}
use Rattle.module_text.specs.declared.spots.Spot.TheVariants.{Elsewhere}
use Rattle.module_text.specs.Told.{range_of, sizes_of, have_names_alone, told_alone, is_nothing, is_number_alone, is_list_alone, is_union_alone, white_space_alone, words_of}
use Rattle.module_text.specs.Simple.{if_so, whole_space, number_space, numbers_of, word_space, text_space, list_space, union_space, with_member, are_plain, item_spot, is_order_item, simple_told, members_told, item_told}

-- ---- by the form

module _ (spot : Spot) (t : Rose PlainLabel) where
  abbrev pub told_with : PlainForm → Option Space
  told_with f = elim f [
    | form.Bool ↦ if_so (is_nothing (told_alone (label_of t).marks)) (Some Booleans)
    | form.Int r ↦ if_so (is_nothing (told_alone (label_of t).marks)) (whole_space (range_of r))
    | form.Numbers items ↦ if_so (is_number_alone (told_alone (label_of t).marks)) (number_space (numbers_of items))
    | form.Words identifiers ↦
        if_so (not (is_order_item spot)) (word_space (words_of (label_of t).marks identifiers) (white_space_alone (told_alone (label_of t).marks)))
    | form.Utf8 size class ↦ text_space (sizes_of size) class (white_space_alone (told_alone (label_of t).marks))
    | form.Sequence components ↦ None
    | form.Choice alternatives ↦
        if_so (is_union_alone (told_alone (label_of t).marks) && are_plain alternatives) (union_space (members_told (roses_of (kids_of t))))
    | form.SequenceOf size item ↦
        if_so
        (is_list_alone (told_alone (label_of t).marks) && have_names_alone item.marks)
        (list_space (sizes_of size) (item_told (item_spot spot) (roses_of (kids_of t))))
    | form.Ref reference ↦ None
  ]

pub told-is : (spot : Spot) (t : Rose PlainLabel) (f : PlainForm) → (label_of t).form ≡ f → simple_told spot t ≡ told_with spot t f
unfolding simple_told members_told item_told
told-is spot (node l ts) f is = ap (λ us. simple_told spot (node l us)) (sym (roses_of-list_of ts)) ∙ ap (told_with spot (node l ts)) is

-- ---- one behind another

pub no-members : members_told none ≡ Some space.none
unfolding simple_told members_told item_told
no-members = refl

pub more-members : (t : Rose PlainLabel) (ts : Roses PlainLabel) → members_told (more t ts) ≡ with_member (simple_told Elsewhere t) (members_told ts)
unfolding simple_told members_told item_told
more-members t ts = refl

pub no-item : (spot : Spot) → item_told spot none ≡ None
unfolding simple_told members_told item_told
no-item spot = refl

pub first-item : (spot : Spot) (t : Rose PlainLabel) (ts : Roses PlainLabel) → item_told spot (more t ts) ≡ simple_told spot t
unfolding simple_told members_told item_told
first-item spot t ts = refl

abbrev pub onto : List Simple → Spaces → Spaces
onto [] ss = ss
onto (m ∷ ms) ss = space.more (space_of m) (onto ms ss)

-- the members so far before those that are told
abbrev pub with_those : List Simple → Option Spaces → Option Spaces
with_those ms None = None
with_those ms (Some ss) = Some (onto ms ss)

onto-none : (ms : List Simple) → onto ms space.none ≡ spaces_in ms
onto-none [] = refl
onto-none (m ∷ ms) = ap (space.more (space_of m)) (onto-none ms)

onto-push : (ms : List Simple) (m : Simple) (ss : Spaces) → onto (ms ++ m ∷ []) ss ≡ onto ms (space.more (space_of m) ss)
onto-push [] m ss = refl
onto-push (n ∷ ms) m ss = ap (space.more (space_of n)) (onto-push ms m ss)

pub those-all : (ms : List Simple) (due : Option Spaces) → with_those ms (members_told none) ≡ due → due ≡ Some (spaces_in ms)
those-all ms due e = sym e ∙ ap (with_those ms) no-members ∙ ap Some (onto-none ms)

those-push : (ms : List Simple) (m : Simple) (found : Option Spaces) → is_union (space_of m) ≡ false
    → with_those (ms ++ m ∷ []) found ≡ with_those ms (with_member (Some (space_of m)) found)
those-push ms m None plain = refl
those-push ms m (Some ss) plain = ap Some (onto-push ms m ss) ∙ rw plain refl

none-with : (found : Option Spaces) → with_member None found ≡ None
none-with found = refl

union-with : (s : Space) (found : Option Spaces) → is_union s ≡ true → with_member (Some s) found ≡ None
union-with s None union = refl
union-with s (Some ss) union = rw union refl

pub sound-push : (ms : List Simple) (m : Simple) → AreSound (spaces_in ms) → Sound (space_of m) → is_union (space_of m) ≡ false
    → AreSound (spaces_in (ms ++ m ∷ []))
sound-push [] m all here plain = (here, plain, tt)
sound-push (n ∷ ms) m all here plain = (all.0, all.1, sound-push ms m all.2 here plain)

-- the kid with number i, as a loop has it
module _ (kids : List (Rose PlainLabel)) (i : ℕ) (kid : Rose PlainLabel) (at : i < length kids) (here : kid ≡ get_or kids i kid) where
  pub members-here : members_told (roses_of (drop i kids)) ≡ with_member (simple_told Elsewhere kid) (members_told (roses_of (drop (i + 1) kids)))
  members-here = ap members_told (roses_of-drop kids i kid at here) ∙ more-members kid (roses_of (drop (i + 1) kids))

  -- a member more
  pub members-push : (ms : List Simple) (m : Simple) (due : Option Spaces) → simple_told Elsewhere kid ≡ Some (space_of m) → is_union (space_of m) ≡ false
      → with_those ms (members_told (roses_of (drop i kids))) ≡ due → with_those (ms ++ m ∷ []) (members_told (roses_of (drop (i + 1) kids))) ≡ due
  members-push ms m due is plain so =
      those-push ms m (members_told (roses_of (drop (i + 1) kids))) plain
      ∙ ap (λ s. with_those ms (with_member s (members_told (roses_of (drop (i + 1) kids))))) (sym is)
      ∙ ap (with_those ms) (sym members-here) ∙ so

  -- one that stands for no simple type, or for a union
  pub members-fail : (ms : List Simple) (due : Option Spaces) → with_member (simple_told Elsewhere kid) (members_told (roses_of (drop (i + 1) kids))) ≡ None
      → with_those ms (members_told (roses_of (drop i kids))) ≡ due → due ≡ None
  members-fail ms due fails so = sym so ∙ ap (with_those ms) (members-here ∙ fails)

  pub members-none : (ms : List Simple) (due : Option Spaces) → simple_told Elsewhere kid ≡ None
      → with_those ms (members_told (roses_of (drop i kids))) ≡ due → due ≡ None
  members-none ms due is so =
      members-fail ms due (ap (λ s. with_member s (members_told (roses_of (drop (i + 1) kids)))) is ∙ none-with (members_told (roses_of (drop (i + 1) kids)))) so

  pub members-union : (ms : List Simple) (m : Simple) (due : Option Spaces) → simple_told Elsewhere kid ≡ Some (space_of m) → is_union (space_of m) ≡ true
      → with_those ms (members_told (roses_of (drop i kids))) ≡ due → due ≡ None
  members-union ms m due is union so =
      members-fail
      ms
      due
      (ap (λ s. with_member s (members_told (roses_of (drop (i + 1) kids)))) is ∙ union-with (space_of m) (members_told (roses_of (drop (i + 1) kids))) union)
      so
