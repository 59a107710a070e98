-- References of a plain text, and the roles of its parts.
use Rattle.std.specs.Prelude.{ℕ, zero, suc, ◌+◌, ◌==◌, Bool, true, false, ◌&&◌, Option, Some, None, List, [], ◌∷◌, length, slice_get, position, option_and_then, bytes_eq, if◌then◌else◌}
use Rattle.std.specs.Option.{option_map}
use Rattle.base_trees.specs.Rose.{Rose, node, Roses, none, more, label_of}
use Rattle.base_texts.specs.Limits.{is_empty}
use Rattle.asn_types.specs.declared.roles.Role.{Role}
use Rattle.asn_types.specs.declared.roles.Role.TheVariants.{Attribute, Element, Group, Content, Embed, Order, Item, Alternative}
use Rattle.asn_types.specs.Refs.{is_element}
use Rattle.module_text.specs.declared.marks.TypeMark.{TypeMark}
use Rattle.module_text.specs.declared.types.PlainPart.{PlainPart}
use Rattle.module_text.specs.declared.types.PlainForm.{PlainForm}
use Rattle.module_text.specs.declared.types.PlainForm.TheVariants as form
use Rattle.module_text.specs.declared.types.PlainLabel.{PlainLabel}
use Rattle.module_text.specs.declared.modules.PlainAssignment.{PlainAssignment}
use Rattle.module_text.specs.Texts.{parts_of}
use Rattle.module_text.specs.Told.{has_attribute, has_untagged, has_use_nil, has_embed_values, has_use_order, has_use_union}

-- ---- roles (X.693), as those of parts of types

abbrev pub order_place : List TypeMark → ℕ
order_place marks = if has_embed_values marks then 1 else 0

abbrev pub is_item : PlainForm → PlainPart → Bool
is_item (form.SequenceOf size item) part = is_empty part.identifier
is_item _ part = false

-- The role of the part with number i.
abbrev pub role_of : PlainLabel → ℕ → PlainPart → Role
role_of l i part =
    if has_attribute part.marks then Attribute
    else (if has_untagged part.marks then Group
    else (if has_use_nil l.marks && (i + 1 == length (parts_of l.form)) then Content
    else (if (i == 0) && has_embed_values l.marks then Embed
    else (if (i == order_place l.marks) && has_use_order l.marks then Order
    else (if is_item l.form part then Item
    else (if has_use_union l.marks then Alternative
    else Element))))))

-- ---- references

abbrev pub reference_of : PlainForm → Option (List ℕ)
reference_of (form.Ref reference) = Some reference.name
reference_of _ = None

module _ (P : List PlainAssignment) where
  -- The number of the first assignment with this reference.
  abbrev pub number_of : List ℕ → Option ℕ
  number_of reference = position (λ (a : PlainAssignment). bytes_eq a.reference reference) P

  abbrev pub body_at : ℕ → Option (Rose PlainLabel)
  body_at k = option_map (λ (a : PlainAssignment). a.body) (slice_get P k)

  abbrev pub body_of : List ℕ → Option (Rose PlainLabel)
  body_of reference = option_and_then body_at (number_of reference)

  -- The type that one reference reaches.
  abbrev pub next : Rose PlainLabel → Option (Rose PlainLabel)
  next t = option_and_then body_of (reference_of (label_of t).form)

  -- The type that at most n references reach.
  unfoldable pub follow : ℕ → Rose PlainLabel → Rose PlainLabel
  follow zero t = t
  follow (suc n) t = elim (next t) [ None ↦ t | Some u ↦ follow n u ]

  -- The type that at most four references reach.
  abbrev pub resolve : Rose PlainLabel → Rose PlainLabel
  resolve t = follow 4 t

-- If the type is a reference, the condition holds of it.
abbrev pub if_reference : (List ℕ → Bool) → PlainForm → Bool
if_reference is (form.Ref reference) = is reference.name
if_reference is _ = true

module _ (is : List ℕ → Bool) where
  -- The condition holds of each reference that the type reaches without passing a part with the role of an element.
  unfoldable mutual
    pub near_references : Rose PlainLabel → Bool
    near_references (node l ts) = if_reference is l.form && near_references_of l 0 (parts_of l.form) ts

    pub near_references_of : PlainLabel → ℕ → List PlainPart → Roses PlainLabel → Bool
    near_references_of l i parts none = true
    near_references_of l i parts (more t ts) =
        elim parts [
          | [] ↦ true
          | part ∷ others ↦ (if is_element (role_of l i part) then true else near_references t) && near_references_of l (i + 1) others ts
        ]

  -- The condition holds of each reference in the type.
  unfoldable mutual
    pub all_references : Rose PlainLabel → Bool
    all_references (node l ts) = if_reference is l.form && all_references_in ts

    pub all_references_in : Roses PlainLabel → Bool
    all_references_in none = true
    all_references_in (more t ts) = all_references t && all_references_in ts

module _ (P : List PlainAssignment) where
  -- At most n references follow one another from the type without passing a part with the role of an element. A reference without
  -- an assignment leads no further.
  unfoldable pub chains_within : ℕ → Rose PlainLabel → Bool
  chains_within zero t = near_references (λ reference. false) t
  chains_within (suc n) t = near_references (λ reference. elim (body_of P reference) [ None ↦ true | Some u ↦ chains_within n u ]) t

  -- Each reference in the type is followed by at most three others.
  abbrev pub chains_end : Rose PlainLabel → Bool
  chains_end t = all_references (λ reference. elim (body_of P reference) [ None ↦ true | Some u ↦ chains_within 3 u ]) t
