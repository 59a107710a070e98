-- The values of the part that has the order of elements: each is its numbers.
use Rattle.std.proofs.Common.{◌≡◌, ℕ, ◌<◌, ◌≤◌, nat_lt, nat_le, Bool, true, false, Option, Some, None, List, [], ◌∷◌, length, map, inl, inr, refl, sym, ap, subst, ◌∙◌, arith}
use Rattle.std.specs.List.{AllByRecursion}
use Rattle.std.proofs.lemmas.Bool.Decides.{Decides-ltb, leb_tells}
use Rattle.base_trees.specs.Rose.{Rose, node, Roses, list_of, roses_of, label_of, kids_of, length_all}
use Rattle.base_trees.specs.Rose as rose
use Rattle.simple_types.specs.declared.labels.ValueLabel.{ValueLabel}
use Rattle.simple_types.specs.declared.labels.ValueLabel.TheVariants as value
use Rattle.asn_types.specs.declared.modules.Assignment.{Assignment}
use Rattle.asn_types.specs.declared.roles.Role.TheVariants as role
use Rattle.asn_types.specs.declared.types.Component.{Component}
use Rattle.asn_types.specs.declared.types.Form.TheVariants as form
use Rattle.asn_types.specs.declared.types.TypeLabel.{TypeLabel}
use Rattle.asn_types.specs.Roles.{role_of}
use Rattle.asn_values.specs.Values.{ComponentPlace, places, places_in, none_if, below, FitsAt, FitEach, OwnAt, item_number}
use Rattle.map_assignments.specs.Naming.{type_label}
use Rattle.map_assignments.proofs.Resolving.{follow-none}
use Rattle.map_laws.specs.Standing.{AreOrder}
use Rattle.map_laws.proofs.Values.{ItemsFit, list-value}
use Rattle.map_laws.proofs.Giving.{list-fits}

-- the item with this number, and those with these
abbrev pub item_value : ℕ → Rose ValueLabel
item_value i = node (value.Enum i) rose.none

abbrev pub order_value : List ℕ → Rose ValueLabel
order_value numbers = node value.SequenceOf (roses_of (map item_value numbers))

pub order-numbers : (numbers : List ℕ) → map item_number (kids_of (order_value numbers)) ≡ numbers
order-numbers [] = refl
order-numbers (i ∷ numbers) = ap (λ ns. i ∷ ns) (order-numbers numbers)

module _ (M : List Assignment) (depth : ℕ) where
  abbrev item_type : List (List ℕ) → Rose TypeLabel
  item_type identifiers = node (type_label (form.Order identifiers) []) rose.none

  abbrev EachFits : Option (List ComponentPlace) → Roses ValueLabel → Type 0
  EachFits o vs = elim o [ None ↦ ⊥ | Some ps ↦ FitEach M depth ps vs ]

  no-kids : (vs : Roses ValueLabel) → FitEach M depth [] vs → vs ≡ rose.none
  unfolding FitsAt FitEach
  no-kids rose.none h = refl
  no-kids (rose.more v vs) h = absurd h

  abbrev IsItem : List (List ℕ) → Rose ValueLabel → Type 0
  IsItem identifiers v = (v ≡ item_value (item_number v)) × (item_number v < length identifiers)

  item-is : (identifiers : List (List ℕ)) (v : Rose ValueLabel) → FitsAt M depth (item_type identifiers) v → IsItem identifiers v
  unfolding FitsAt FitEach
  item-is identifiers (node w vs) h = by w (subst (λ t. EachFits (places t w (length_all vs)) vs) (follow-none M 4 (item_type identifiers) refl) h.1)
    where
      within : (i : ℕ) (b : Bool) → nat_lt i (length identifiers) ≡ b → EachFits (none_if b) vs → IsItem identifiers (node (value.Enum i) vs)
      within i true e k = (ap (λ xs. node (value.Enum i) xs) (no-kids vs k), (Decides-ltb i (length identifiers)).0 e)
      within i false e k = absurd k

      by : (x : ValueLabel) → EachFits (places_in (type_label (form.Order identifiers) []) [] (form.Order identifiers) x (length_all vs)) vs → IsItem identifiers (node x vs)
      by (value.Enum i) k = within i (nat_lt i (length identifiers)) refl k
      by (value.Bool b) k = absurd k
      by (value.Int z) k = absurd k
      by (value.Utf8 text) k = absurd k
      by (value.Sequence flags) k = absurd k
      by (value.Choice i) k = absurd k
      by value.SequenceOf k = absurd k

  item-fits : (small : depth ≤ 64) (identifiers : List (List ℕ)) (i : ℕ) → i < length identifiers → FitsAt M depth (item_type identifiers) (item_value i)
  unfolding FitsAt FitEach
  item-fits small identifiers i below =
      let t = item_type identifiers in
      let holds : nat_lt i (length identifiers) ≡ true = (Decides-ltb i (length identifiers)).1 below in
      subst (λ u. (depth ≤ 64) × EachFits (places u (value.Enum i) 0) rose.none × OwnAt M (label_of u) u (item_value i)) (sym (follow-none M 4 t refl))
      (small, subst (λ b. EachFits (none_if b) rose.none) (sym holds) tt, (tt, tt, tt, tt))

  items-decided : (l : TypeLabel) (item : Component) (identifiers : List (List ℕ)) → role_of l 0 item ≡ role.Item → (vs ws : Roses ValueLabel) → ItemsFit M depth l item (item_type identifiers) vs
      → ItemsFit M depth l item (item_type identifiers) ws → map item_number (list_of vs) ≡ map item_number (list_of ws) → vs ≡ ws
  items-decided l item identifiers r rose.none rose.none hv hw e = refl
  items-decided l item identifiers r rose.none (rose.more w ws) hv hw e = absurd cc
  items-decided l item identifiers r (rose.more v vs) rose.none hv hw e = absurd cc
  items-decided l item identifiers r (rose.more v vs) (rose.more w ws) hv hw e =
      let one = item-is identifiers v (subst (λ x. FitsAt M (below x depth) (item_type identifiers) v) r hv.0) in
      let other = item-is identifiers w (subst (λ x. FitsAt M (below x depth) (item_type identifiers) w) r hw.0) in
      let first : item_number v ≡ item_number w = cc in
      let rest : map item_number (list_of vs) ≡ map item_number (list_of ws) = cc in
      ap (λ x. rose.more x vs) (one.0 ∙ ap item_value first ∙ sym other.0) ∙ ap (λ xs. rose.more w xs) (items-decided l item identifiers r vs ws hv.1 hw.1 rest)

  -- two with the same numbers are one
  pub order-decided : (count : ℕ) (u : Rose TypeLabel) → AreOrder count u → (v w : Rose ValueLabel) → FitsAt M depth u v → FitsAt M depth u w
      → map item_number (kids_of v) ≡ map item_number (kids_of w) → v ≡ w
  order-decided count u h v w fv fw e =
      let l = type_label (form.SequenceOf h.item 0 None) [] in
      let a = list-value M depth [] h.item (item_type h.identifiers) 0 None v (subst (λ z. FitsAt M depth z v) h.type fv) in
      let b = list-value M depth [] h.item (item_type h.identifiers) 0 None w (subst (λ z. FitsAt M depth z w) h.type fw) in
      let same = items-decided l h.item h.identifiers h.is.role a.values b.values a.fit b.fit (sym (ap (λ z. map item_number (kids_of z)) a.is) ∙ e ∙ ap (λ z. map item_number (kids_of z)) b.is) in
      a.is ∙ ap (λ z. node value.SequenceOf z) same ∙ sym b.is

  module _ (small : depth ≤ 64) where
    items-fit : (l : TypeLabel) (item : Component) (identifiers : List (List ℕ)) → role_of l 0 item ≡ role.Item → (numbers : List ℕ) → AllByRecursion (λ i. i < length identifiers) numbers
        → ItemsFit M depth l item (item_type identifiers) (roses_of (map item_value numbers))
    items-fit l item identifiers r [] h = tt
    items-fit l item identifiers r (i ∷ numbers) h = (
      subst (λ x. FitsAt M (below x depth) (item_type identifiers) (item_value i)) (sym r) (item-fits small identifiers i h.0),
      items-fit l item identifiers r numbers h.1,
    )

    least : (n : ℕ) → nat_le 0 n ≡ true
    least n = elim (leb_tells 0 n) [ inl h ↦ h.0 | inr h ↦ absurd (let below = h.1 in omega (arith, below)) ]

    -- numbers of items make a value
    pub order-fits : (count : ℕ) (u : Rose TypeLabel) → AreOrder count u → (numbers : List ℕ) → AllByRecursion (λ i. i < count) numbers → FitsAt M depth u (order_value numbers)
    order-fits count u h numbers below =
        let l = type_label (form.SequenceOf h.item 0 None) [] in
        let vs = roses_of (map item_value numbers) in
        subst (λ z. FitsAt M depth z (order_value numbers)) (sym h.type)
        (list-fits M depth small h.item (item_type h.identifiers) 0 None vs (least (length_all vs)) refl (h.is.free refl)
        (items-fit l h.item h.identifiers h.is.role numbers (subst (λ n. AllByRecursion (λ i. i < n) numbers) (sym h.many) below)))
