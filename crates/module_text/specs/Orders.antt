-- What EMBED-VALUES, USE-NIL and USE-ORDER require of a type (X.693).
use Rattle.std.specs.Prelude.{ℕ, ◌+◌, ◌-◌, Bool, true, false, ◌&&◌, not, Option, Some, None, List, [], ◌∷◌, length, map, slice_get, bytes_eq, if◌then◌else◌}
use Rattle.std.specs.Option.{option_map}
use Rattle.base_trees.specs.Rose.{Rose, node, Roses, none, more, label_of, list_of}
use Rattle.simple_types.specs.declared.simples.Class.{Class}
use Rattle.simple_types.specs.declared.simples.Class.TheVariants.{Any}
use Rattle.asn_types.specs.declared.roles.Role.{Role}
use Rattle.asn_types.specs.declared.roles.Role.TheVariants.{Group, Order}
use Rattle.asn_types.specs.Refs.{is_element}
use Rattle.module_text.specs.declared.values.Absence.{Absence}
use Rattle.module_text.specs.declared.values.Absence.TheVariants as absence
use Rattle.module_text.specs.declared.types.PlainName.{PlainName}
use Rattle.module_text.specs.declared.types.PlainPart.{PlainPart}
use Rattle.module_text.specs.declared.types.PlainForm.{PlainForm}
use Rattle.module_text.specs.declared.types.PlainForm.TheVariants as form
use Rattle.module_text.specs.declared.types.PlainLabel.{PlainLabel}
use Rattle.module_text.specs.declared.modules.PlainAssignment.{PlainAssignment}
use Rattle.module_text.specs.Texts.{parts_of}
use Rattle.module_text.specs.Told.{has_use_nil, has_embed_values, has_use_order}
use Rattle.module_text.specs.Resolving.{role_of, order_place, resolve}

abbrev pub is_any : Class → Bool
is_any Any = true
is_any _ = false

abbrev pub is_sequence : PlainForm → Bool
is_sequence (form.Sequence parts) = true
is_sequence _ = false

abbrev pub is_sequence_of : PlainForm → Bool
is_sequence_of (form.SequenceOf size item) = true
is_sequence_of _ = false

abbrev pub is_choice : PlainForm → Bool
is_choice (form.Choice parts) = true
is_choice _ = false

abbrev pub may_be_absent : Absence → Bool
may_be_absent absence.Never = false
may_be_absent _ = true

-- UTF8String without constraints.
abbrev pub is_any_text : PlainForm → Bool
is_any_text (form.Utf8 None class) = is_any class
is_any_text _ = false

-- SEQUENCE OF without a size.
abbrev pub is_any_list : PlainForm → Bool
is_any_list (form.SequenceOf None item) = true
is_any_list _ = false

abbrev pub first_of : Roses PlainLabel → Option (Rose PlainLabel)
first_of none = None
first_of (more t ts) = Some t

abbrev pub is_text_list : Rose PlainLabel → Bool
is_text_list (node l none) = false
is_text_list (node l (more t ts)) = is_any_list l.form && is_any_text (label_of t).form

-- EMBED-VALUES: the type is a SEQUENCE whose first part is a list of texts.
abbrev pub has_texts : PlainForm → Roses PlainLabel → Bool
has_texts f none = false
has_texts f (more t ts) = is_sequence f && is_text_list t

-- USE-NIL: the type is a SEQUENCE whose last part may be absent.
abbrev pub has_content : PlainForm → Bool
has_content (form.Sequence parts) = elim (slice_get parts (length parts - 1)) [ None ↦ false | Some part ↦ may_be_absent part.absence ]
has_content _ = false

-- ---- USE-ORDER

abbrev pub is_group : Role → Bool
is_group Group = true
is_group _ = false

abbrev pub is_order : Role → Bool
is_order Order = true
is_order _ = false

-- The parts from the one with number i on that have the role, in their order.
abbrev pub parts_from : PlainLabel → (Role → Bool) → ℕ → List PlainPart → List PlainPart
parts_from l is i [] = []
parts_from l is i (part ∷ parts) = if is (role_of l i part) then part ∷ parts_from l is (i + 1) parts else parts_from l is (i + 1) parts

abbrev pub are_none : List PlainPart → Bool
are_none [] = true
are_none (part ∷ parts) = false

abbrev pub has_no_group : PlainLabel → Bool
has_no_group l = are_none (parts_from l is_group 0 (parts_of l.form))

abbrev pub element_identifiers : PlainLabel → List (List ℕ)
element_identifiers l = map (λ (part : PlainPart). part.identifier) (parts_from l is_element 0 (parts_of l.form))

-- The type whose elements are in an order: the content of a USE-NIL type, and each other type itself.
abbrev pub ordered : List PlainAssignment → PlainLabel → Roses PlainLabel → Option PlainLabel
ordered P l ts =
    if has_use_nil l.marks
    then option_map (λ t. label_of (resolve P t)) (slice_get (list_of ts) (length (list_of ts) - 1))
    else Some l

abbrev pub are_equal : List (List ℕ) → List (List ℕ) → Bool
are_equal [] [] = true
are_equal [] (c ∷ cs) = false
are_equal (b ∷ bs) [] = false
are_equal (b ∷ bs) (c ∷ cs) = bytes_eq b c && are_equal bs cs

abbrev pub are_identifiers : List (List ℕ) → PlainForm → Bool
are_identifiers identifiers (form.Words names) = are_equal identifiers (map (λ (i : PlainName). i.name) names)
are_identifiers identifiers _ = false

-- The type is a SEQUENCE OF the ENUMERATED of these identifiers, without a size.
abbrev pub is_order_of : List (List ℕ) → Rose PlainLabel → Bool
is_order_of identifiers (node l none) = false
is_order_of identifiers (node l (more t ts)) = is_any_list l.form && are_identifiers identifiers (label_of t).form

abbrev pub is_order_part : PlainLabel → Roses PlainLabel → PlainLabel → Bool
is_order_part l ts inner = elim (slice_get (parts_of l.form) (order_place l.marks)) [
  | None ↦ false
  | Some part ↦ elim (slice_get (list_of ts) (order_place l.marks)) [
    | None ↦ false
    | Some t ↦
        is_order (role_of l (order_place l.marks) part) && not (may_be_absent part.absence)
        && is_order_of (element_identifiers inner) t
  ]
]

-- The type itself has none of USE-NIL, EMBED-VALUES and USE-ORDER.
abbrev pub stands_alone : PlainLabel → Bool
stands_alone l = not (has_use_nil l.marks) && not (has_embed_values l.marks) && not (has_use_order l.marks)

abbrev pub is_ordered : PlainLabel → Option PlainLabel → Roses PlainLabel → Bool
is_ordered l None ts = false
is_ordered l (Some inner) ts =
    is_sequence inner.form && has_no_group inner && (if has_use_nil l.marks then stands_alone inner else true) && is_order_part l ts inner

-- USE-ORDER: the type is a SEQUENCE with a part that has the order of its elements, or of those of its content. No part has
-- UNTAGGED.
abbrev pub has_order_part : List PlainAssignment → PlainLabel → Roses PlainLabel → Bool
has_order_part P l ts = is_sequence l.form && has_no_group l && is_ordered l (ordered P l ts) ts
