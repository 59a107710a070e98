-- The order of child elements, step by step.
use Rattle.std.proofs.Common.{◌≡◌, ℕ, zero, suc, ◌+◌, ◌-◌, ◌<◌, Bool, true, false, cond, ◌&&◌, Some, None, List, [], ◌∷◌, ◌++◌, length, get_or, drop, refl, sym, ◌∙◌, ap, arith, append_assoc}
use Rattle.std.specs.Prelude.{map, slice_get, slice_set}
use Rattle.std.specs.Option.{option_map}
use Rattle.std.proofs.lemmas.List.{drop_more, append-nil}
use Rattle.base_trees.specs.Rose.{Rose, roses_of, list_of, label_of, kids_of}
use Rattle.base_trees.proofs.Roses.{list_of-roses_of}
use Rattle.simple_types.specs.declared.labels.ValueLabel.{ValueLabel}
use Rattle.asn_types.specs.declared.modules.Assignment.{Assignment}
use Rattle.asn_types.specs.declared.types.Component.{Component}
use Rattle.asn_types.specs.declared.types.TypeLabel.{TypeLabel}
use Rattle.asn_types.specs.Marks.{has_use_nil}
use Rattle.asn_types.specs.Modules.{ordered}
use Rattle.asn_types.specs.Parts.{parts_of}
use Rattle.asn_types.specs.Refs.{resolve, is_element}
use Rattle.asn_types.specs.Roles.{role_of}
use Rattle.asn_values.specs.Orders.{is_set, cleared, are_just_set}
use Rattle.asn_values.specs.Values.{ComponentPlace, flags_from, is_order_role, item_number, numbers_in}

-- the type of the content
pub ordered-nil : (M : List Assignment) (t content : Rose TypeLabel) → has_use_nil (label_of t).marks ≡ true → slice_get (kids_of t) (length (parts_of (label_of t).form) - 1) ≡ Some content
    → ordered M (label_of t) (roses_of (kids_of t)) ≡ Some (label_of (resolve M content))
ordered-nil M t content nil got =
    let last = length (parts_of (label_of t).form) - 1 in
    ap (λ b. cond b (option_map (λ u. label_of (resolve M u)) (slice_get (list_of (roses_of (kids_of t))) last)) (Some (label_of t))) nil
    ∙ ap (λ us. option_map (λ u. label_of (resolve M u)) (slice_get us last)) (list_of-roses_of (kids_of t))
    ∙ ap (option_map (λ u. label_of (resolve M u))) got

pub ordered-none : (M : List Assignment) (t : Rose TypeLabel) → has_use_nil (label_of t).marks ≡ true → slice_get (kids_of t) (length (parts_of (label_of t).form) - 1) ≡ None
    → ordered M (label_of t) (roses_of (kids_of t)) ≡ None
ordered-none M t nil missed =
    let last = length (parts_of (label_of t).form) - 1 in
    ap (λ b. cond b (option_map (λ u. label_of (resolve M u)) (slice_get (list_of (roses_of (kids_of t))) last)) (Some (label_of t))) nil
    ∙ ap (λ us. option_map (λ u. label_of (resolve M u)) (slice_get us last)) (list_of-roses_of (kids_of t))
    ∙ ap (option_map (λ u. label_of (resolve M u))) missed

-- ---- the flags of the elements

pub flags-end : (l : TypeLabel) (i : ℕ) (parts : List Component) → flags_from l i parts [] ≡ []
flags-end l i [] = refl
flags-end l i (part ∷ parts) = refl

pub flags-no_parts : (l : TypeLabel) (i : ℕ) (flags : List Bool) → flags_from l i [] flags ≡ []
flags-no_parts l i flags = refl

module _ (l : TypeLabel) (parts : List Component) (flags : List Bool) where
  abbrev pub flags_left : ℕ → List Bool
  flags_left i = flags_from l i (drop i parts) (drop i flags)

  module _ (i : ℕ) (part : Component) (in_parts : i < length parts) (in_flags : i < length flags) (part_is : part ≡ get_or parts i part) where
    opened : flags_left i ≡ cond (is_element (role_of l i part)) (get_or flags i false ∷ flags_left (i + 1)) (flags_left (i + 1))
    opened =
        ap (λ ps. flags_from l i ps (drop i flags)) (drop_more parts i part in_parts ∙ ap (λ p. p ∷ drop (i + 1) parts) (sym part_is))
        ∙ ap (λ fs. flags_from l i (part ∷ drop (i + 1) parts) fs) (drop_more flags i false in_flags)

    pub flags-skipped : (whole so_far : List Bool) → whole ≡ so_far ++ flags_left i → is_element (role_of l i part) ≡ false → whole ≡ so_far ++ flags_left (i + 1)
    flags-skipped whole so_far e other =
        e ∙ ap (λ fs. so_far ++ fs) (opened ∙ ap (λ b. cond b (get_or flags i false ∷ flags_left (i + 1)) (flags_left (i + 1))) other)

    pub flags-pushed : (whole so_far : List Bool) → whole ≡ so_far ++ flags_left i → is_element (role_of l i part) ≡ true → whole ≡ (so_far ++ get_or flags i false ∷ []) ++ flags_left (i + 1)
    flags-pushed whole so_far e is =
        e ∙ ap (λ fs. so_far ++ fs) (opened ∙ ap (λ b. cond b (get_or flags i false ∷ flags_left (i + 1)) (flags_left (i + 1))) is)
        ∙ sym (append_assoc so_far (get_or flags i false ∷ []) (flags_left (i + 1)))

  pub flags-ended : (i : ℕ) (whole so_far : List Bool) → whole ≡ so_far ++ flags_left i → drop i flags ≡ [] → whole ≡ so_far
  flags-ended i whole so_far e past = e ∙ ap (λ fs. so_far ++ flags_from l i (drop i parts) fs) past ∙ ap (λ fs. so_far ++ fs) (flags-end l i (drop i parts)) ∙ append-nil so_far

  pub flags-parted : (i : ℕ) (whole so_far : List Bool) → whole ≡ so_far ++ flags_left i → drop i parts ≡ [] → whole ≡ so_far
  flags-parted i whole so_far e past = e ∙ ap (λ ps. so_far ++ flags_from l i ps (drop i flags)) past ∙ append-nil so_far

-- ---- the items of the order

pub numbers-end : (ps : List ComponentPlace) → numbers_in ps [] ≡ []
numbers-end [] = refl
numbers-end (p ∷ ps) = refl

module _ (p : ComponentPlace) (ps qs : List ComponentPlace) (v : Rose ValueLabel) (vs ws : List (Rose ValueLabel)) (next : vs ≡ v ∷ ws) (is : ps ≡ p ∷ qs) where
  numbers-next : numbers_in ps vs ≡ cond (is_order_role p.role) (map item_number (kids_of v)) (numbers_in qs ws)
  numbers-next = ap (λ xs. numbers_in xs vs) is ∙ ap (λ us. numbers_in (p ∷ qs) us) next

  pub numbers-here : is_order_role p.role ≡ true → numbers_in ps vs ≡ map item_number (kids_of v)
  numbers-here here = numbers-next ∙ ap (λ b. cond b (map item_number (kids_of v)) (numbers_in qs ws)) here

  pub numbers-later : is_order_role p.role ≡ false → numbers_in ps vs ≡ numbers_in qs ws
  numbers-later later = numbers-next ∙ ap (λ b. cond b (map item_number (kids_of v)) (numbers_in qs ws)) later

-- ---- flags that are taken

pub set-some : (flags : List Bool) (i : ℕ) (flag : Bool) → slice_get flags i ≡ Some flag → is_set flags i ≡ flag
set-some [] i flag got = absurd cc
set-some (f ∷ fs) zero flag got = cc
set-some (f ∷ fs) (suc i) flag got = set-some fs i flag got

pub set-none : (flags : List Bool) (i : ℕ) → slice_get flags i ≡ None → is_set flags i ≡ false
set-none [] i missed = refl
set-none (f ∷ fs) zero missed = absurd cc
set-none (f ∷ fs) (suc i) missed = set-none fs i missed

pub set-below : (flags : List Bool) (i : ℕ) → is_set flags i ≡ true → i < length flags
set-below [] i h = absurd cc
set-below (f ∷ fs) zero h = omega arith
set-below (f ∷ fs) (suc i) h = let inner = set-below fs i h in omega (arith, inner)

pub slice_set-cleared : (flags : List Bool) (i : ℕ) → slice_set flags i false ≡ cleared flags i
slice_set-cleared [] i = refl
slice_set-cleared (f ∷ fs) zero = refl
slice_set-cleared (f ∷ fs) (suc i) = ap (λ gs. f ∷ gs) (slice_set-cleared fs i)

pub taken : (flags : List Bool) (vs ws : List (Rose ValueLabel)) (v : Rose ValueLabel) (whole : Bool) → vs ≡ v ∷ ws → whole ≡ are_just_set flags (map item_number vs) → is_set flags (item_number v) ≡ true
    → whole ≡ are_just_set (cleared flags (item_number v)) (map item_number ws)
taken flags vs ws v whole next e set =
    e ∙ ap (λ us. are_just_set flags (map item_number us)) next ∙ ap (λ b. b && are_just_set (cleared flags (item_number v)) (map item_number ws)) set

pub not_taken : (flags : List Bool) (vs ws : List (Rose ValueLabel)) (v : Rose ValueLabel) (whole : Bool) → vs ≡ v ∷ ws → whole ≡ are_just_set flags (map item_number vs) → is_set flags (item_number v) ≡ false
    → whole ≡ false
not_taken flags vs ws v whole next e unset =
    e ∙ ap (λ us. are_just_set flags (map item_number us)) next ∙ ap (λ b. b && are_just_set (cleared flags (item_number v)) (map item_number ws)) unset
