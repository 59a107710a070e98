-- What a part of a type represents in a document, by the encoding instructions of X.693.
use Rattle.std.specs.Prelude.{ℕ, ◌+◌, ◌==◌, ◌&&◌, Bool, false, List, length, if◌then◌else◌}
use Rattle.base_texts.specs.Limits.{is_empty}
use Rattle.asn_types.specs.declared.marks.Instruction.{Instruction}
use Rattle.asn_types.specs.declared.roles.Role.{Role}
use Rattle.asn_types.specs.declared.roles.Role.TheVariants.{Attribute, Element, Group, Content, Embed, Order, Item, Alternative}
use Rattle.asn_types.specs.declared.types.Component.{Component}
use Rattle.asn_types.specs.declared.types.Form.{Form}
use Rattle.asn_types.specs.declared.types.Form.TheVariants as form
use Rattle.asn_types.specs.declared.types.TypeLabel.{TypeLabel}
use Rattle.asn_types.specs.Marks.{has_attribute, has_untagged, has_use_nil, has_embed_values, has_use_order, has_use_union}
use Rattle.asn_types.specs.Parts.{parts_of}

-- It is the last part of a USE-NIL type.
abbrev pub is_content : TypeLabel → ℕ → Bool
is_content l i = has_use_nil l.marks && (i + 1 == length (parts_of l.form))

-- It is the first part of an EMBED-VALUES type.
abbrev pub is_embed : TypeLabel → ℕ → Bool
is_embed l i = (i == 0) && has_embed_values l.marks

-- The place of the order: the first part of a USE-ORDER type, or the second if the first is that of EMBED-VALUES (X.693).
abbrev pub order_place : List Instruction → ℕ
order_place marks = if has_embed_values marks then 1 else 0

abbrev pub is_order : TypeLabel → ℕ → Bool
is_order l i = (i == order_place l.marks) && has_use_order l.marks

-- It is the part of a SEQUENCE OF, and it has no identifier.
abbrev pub is_item : Form → Component → Bool
is_item (form.SequenceOf part least most) component = is_empty component.identifier
is_item _ component = false

-- The role of the part with number i.
abbrev pub role_of : TypeLabel → ℕ → Component → Role
role_of l i component =
    if has_attribute component.marks then Attribute
    else (if has_untagged component.marks then Group
    else (if is_content l i then Content
    else (if is_embed l i then Embed
    else (if is_order l i then Order
    else (if is_item l.form component then Item
    else (if has_use_union l.marks then Alternative
    else Element))))))
