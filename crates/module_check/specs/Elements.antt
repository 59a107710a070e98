-- The identifiers of the elements of a SEQUENCE, part by part, and the order of those of a content.
use Rattle.std.specs.Prelude.{ℕ, Bool, false, ◌&&◌, not, Option, Some, None, List, ◌∷◌, map, slice_get, if◌then◌else◌}
use Rattle.std.specs.Option.{option_map}
use Rattle.std.specs.Borrow.{Bor}
use Rattle.base_trees.specs.Rose.{Roses, list_of}
use Rattle.asn_types.specs.Refs.{is_element}
use Rattle.module_text.specs.declared.types.PlainName.{PlainName}
use Rattle.module_text.specs.declared.types.PlainPart.{PlainPart}
use Rattle.module_text.specs.declared.types.PlainLabel.{PlainLabel}
use Rattle.module_text.specs.Texts.{parts_of}
use Rattle.module_text.specs.Resolving.{role_of, order_place}
use Rattle.module_text.specs.Orders.{is_sequence, is_order, is_order_of, may_be_absent, has_no_group, stands_alone, element_identifiers}
use Rattle.module_check.specs.declared.orders.Content.{Content}

-- The identifier of the part with number i, if it is an element, before those of the parts after it.
abbrev pub with_element : PlainLabel → ℕ → PlainPart → List (List ℕ) → List (List ℕ)
with_element l i part identifiers = if is_element (role_of l i part) then part.identifier ∷ identifiers else identifiers

abbrev pub names_of : List PlainName → List (List ℕ)
names_of names = map (λ (i : PlainName). i.name) names

abbrev pub texts_in : List (Bor (List ℕ)) → List (List ℕ)
texts_in texts = map (λ (t : Bor (List ℕ)). t.now) texts

-- The type has the part with the order of elements with these identifiers.
abbrev pub part_of_order : PlainLabel → Roses PlainLabel → List (List ℕ) → Bool
part_of_order l ts identifiers = elim (slice_get (parts_of l.form) (order_place l.marks)) [
  | None ↦ false
  | Some part ↦ elim (slice_get (list_of ts) (order_place l.marks)) [
    | None ↦ false
    | Some t ↦ is_order (role_of l (order_place l.marks) part) && not (may_be_absent part.absence) && is_order_of identifiers t
  ]
]

-- The elements of a type that may be the content of a type with USE-NIL and USE-ORDER.
abbrev pub content_of : PlainLabel → Option (List (List ℕ))
content_of l = if is_sequence l.form && has_no_group l && stands_alone l then Some (element_identifiers l) else None

-- The type has the part with the order of the elements of its content.
abbrev pub content_order : PlainLabel → Roses PlainLabel → Option (List (List ℕ)) → Bool
content_order l ts None = false
content_order l ts (Some identifiers) = part_of_order l ts identifiers

-- The elements as the code keeps them.
abbrev pub elements_told : Content → Option (List (List ℕ))
elements_told c = option_map (λ elements. texts_in elements.items) c.elements
