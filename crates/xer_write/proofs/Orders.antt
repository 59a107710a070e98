-- The order that a value of a USE-ORDER type tells, as the code finds it.
use Rattle.std.proofs.Common.{◌≡◌, ℕ, zero, suc, ◌+◌, ◌-◌, ◌<◌, ◌≤◌, Bool, true, false, cond, Option, Some, None, List, [], ◌∷◌, ◌++◌, length, map, get_or, drop, append_assoc, append-nil, inl, inr, refl, sym, ◌∙◌, ap, arith}
use Rattle.std.specs.Prelude.{slice_get, ◌==◌}
use Rattle.std.specs.Option.{is_some, option_map}
use Rattle.std.proofs.lemmas.Bool.Decides.{eqb_tells}
use Rattle.std.proofs.lemmas.List.{drop_more}
use Rattle.base_trees.specs.Rose.{Rose, node, label_of, kids_of, list_of, roses_of}
use Rattle.base_trees.proofs.Roses.{list_of-roses_of}
use Rattle.simple_types.specs.declared.labels.ValueLabel.{ValueLabel}
use Rattle.simple_types.specs.declared.labels.ValueLabel.TheVariants as value
use Rattle.asn_types.specs.declared.modules.Assignment.{Assignment}
use Rattle.asn_types.specs.declared.roles.Role.{Role}
use Rattle.asn_types.specs.declared.roles.Role.TheVariants.{Attribute, Element, Group, Content, Embed, Order, Item, Alternative}
use Rattle.asn_types.specs.declared.types.Component.{Component}
use Rattle.asn_types.specs.declared.types.Form.TheVariants as form
use Rattle.asn_types.specs.declared.types.TypeLabel.{TypeLabel}
use Rattle.asn_types.specs.Marks.{has_use_nil}
use Rattle.asn_types.specs.Parts.{parts_of}
use Rattle.asn_types.specs.Refs.{resolve, is_element}
use Rattle.asn_types.specs.Roles.{role_of}
use Rattle.asn_values.specs.Values.{ComponentPlace, put_first, places_in, present_from, flags_from, element_flags, ordered_value, is_last_absent, is_order_role, item_number, numbers_in, order_of, ordered_flags}
use Rattle.asn_values.proofs.Counting.{drop-past}

-- ---- the numbers of the part `order`

abbrev pub numbers_at : Option (List ComponentPlace) → List (Rose ValueLabel) → List ℕ
numbers_at o vs = elim o as (λ _. List ℕ) [ None ↦ [] | Some ps ↦ numbers_in ps vs ]

pub number-is : (v : Rose ValueLabel) (i : ℕ) → label_of v ≡ value.Enum i → item_number v ≡ i
number-is (node (value.Bool b) vs) i e = absurd (cc)
number-is (node (value.Int z) vs) i e = absurd (cc)
number-is (node (value.Enum n) vs) i e = cc
number-is (node (value.Utf8 text) vs) i e = absurd (cc)
number-is (node (value.Sequence present) vs) i e = absurd (cc)
number-is (node (value.Choice n) vs) i e = absurd (cc)
number-is (node value.SequenceOf vs) i e = absurd (cc)

pub number-other : (v : Rose ValueLabel) → ((i : ℕ) → label_of v ≡ value.Enum i → ⊥) → item_number v ≡ 0
number-other (node (value.Bool b) vs) differs = refl
number-other (node (value.Int z) vs) differs = refl
number-other (node (value.Enum n) vs) differs = absurd (differs n refl)
number-other (node (value.Utf8 text) vs) differs = refl
number-other (node (value.Sequence present) vs) differs = refl
number-other (node (value.Choice n) vs) differs = refl
number-other (node value.SequenceOf vs) differs = refl

pub numbers-here : (p : ComponentPlace) (o : Option (List ComponentPlace)) (v : Rose ValueLabel) (vs : List (Rose ValueLabel)) → is_some o ≡ true → is_order_role p.role ≡ true
    → numbers_at (put_first p o) (v ∷ vs) ≡ map item_number (kids_of v)
numbers-here p None v vs some e = absurd (cc)
numbers-here p (Some ps) v vs some e = ap (λ b. cond b (map item_number (kids_of v)) (numbers_in ps vs)) e

pub numbers-later : (p : ComponentPlace) (o : Option (List ComponentPlace)) (v : Rose ValueLabel) (vs : List (Rose ValueLabel)) → is_some o ≡ true → is_order_role p.role ≡ false
    → numbers_at (put_first p o) (v ∷ vs) ≡ numbers_at o vs
numbers-later p None v vs some e = absurd (cc)
numbers-later p (Some ps) v vs some e = ap (λ b. cond b (map item_number (kids_of v)) (numbers_in ps vs)) e

pub numbers-none : (o : Option (List ComponentPlace)) → numbers_at o [] ≡ []
numbers-none None = refl
numbers-none (Some []) = refl
numbers-none (Some (p ∷ ps)) = refl

pub numbers-no-places : (vs : List (Rose ValueLabel)) → numbers_at (Some []) vs ≡ []
numbers-no-places vs = refl

pub numbers-of : (t : Rose TypeLabel) (v : Rose ValueLabel) (parts : List Component) (present : List Bool) → (label_of t).form ≡ form.Sequence parts → label_of v ≡ value.Sequence present
    → order_of t v ≡ numbers_at (present_from (label_of t) 0 parts (kids_of t) present) (kids_of v)
numbers-of t v parts present f l =
    ap (λ x. numbers_at (places_in (label_of t) (kids_of t) x (label_of v) (length (kids_of v))) (kids_of v)) f
    ∙ ap (λ x. numbers_at (places_in (label_of t) (kids_of t) (form.Sequence parts) x (length (kids_of v))) (kids_of v)) l

-- ---- tests

pub order-not : (r : Role) → (r ≡ Order → ⊥) → is_order_role r ≡ false
order-not Attribute other = refl
order-not Element other = refl
order-not Group other = refl
order-not Content other = refl
order-not Embed other = refl
order-not Order other = absurd (other refl)
order-not Item other = refl
order-not Alternative other = refl
