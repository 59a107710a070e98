-- The octets of a value (X.690, the distinguished encoding rules). They are a recursion on the value over any module, with its
-- references resolved.
use Rattle.std.specs.Prelude.{ℕ, ℤ, pos, ◌+◌, Bool, true, false, Option, Some, None, List, [], ◌∷◌, ◌++◌, length, slice_get, replicate, if◌then◌else◌}
use Rattle.base_trees.specs.Rose.{Rose, node, Roses, none, more, label_of, length_all}
use Rattle.simple_types.specs.declared.labels.ValueLabel.{ValueLabel}
use Rattle.simple_types.specs.declared.labels.ValueLabel.TheVariants as value
use Rattle.asn_types.specs.declared.modules.Assignment.{Assignment}
use Rattle.asn_types.specs.declared.types.Form.{Form}
use Rattle.asn_types.specs.declared.types.Form.TheVariants as form
use Rattle.asn_types.specs.declared.types.TypeLabel.{TypeLabel}
use Rattle.asn_types.specs.Refs.{resolve}
use Rattle.asn_values.specs.Values.{ComponentPlace, places}
use Rattle.der_fields.specs.Octets.{length_octets, signed_octets, context_identifier}

-- TAGS are automatic. A component of a SEQUENCE and an alternative of a CHOICE have their numbers, from 0 on, as context-specific
-- tags (X.680, clauses 25 and 29). An item of a SEQUENCE OF has no tag of its own, nor has the root.
pub record TaggedPlace : Type 0 where
  pub tag : Option ℕ
  pub place : ComponentPlace

abbrev pub tagged_place : Option ℕ → ComponentPlace → TaggedPlace
tagged_place tag place = record { tag = tag; place = place }

-- The numbers of the flags that are set, from the one with number i on.
abbrev pub tags_from : ℕ → List Bool → List (Option ℕ)
tags_from i [] = []
tags_from i (true ∷ flags) = Some i ∷ tags_from (i + 1) flags
tags_from i (false ∷ flags) = tags_from (i + 1) flags

-- The tags of the n children of a value with this label.
abbrev pub tags_of : ValueLabel → ℕ → List (Option ℕ)
tags_of (value.Sequence present) n = tags_from 0 present
tags_of (value.Choice i) n = Some i ∷ []
tags_of _ n = replicate n None

abbrev pub tagged : List (Option ℕ) → List ComponentPlace → List TaggedPlace
tagged (tag ∷ tags) (p ∷ ps) = tagged_place tag p ∷ tagged tags ps
tagged _ _ = []

-- IDENTIFIERS (clause 8.1.2). The identifier of a type: BOOLEAN, INTEGER, ENUMERATED and UTF8String are primitive, SEQUENCE and
-- SEQUENCE OF constructed. A CHOICE has only that of its alternative (clause 8.13).
abbrev pub universal_identifier : Form → List ℕ
universal_identifier form.Bool = 0x01 ∷ []
universal_identifier (form.Int least greatest) = 0x02 ∷ []
universal_identifier (form.Numbers numbers) = 0x0A ∷ []
universal_identifier (form.Words identifiers words) = 0x0A ∷ []
universal_identifier (form.Order identifiers) = 0x0A ∷ []
universal_identifier (form.Utf8 least most class) = 0x0C ∷ []
universal_identifier _ = 0x30 ∷ []

abbrev pub is_constructed : Form → Bool
is_constructed (form.Sequence parts) = true
is_constructed (form.Choice parts) = true
is_constructed (form.SequenceOf part least most) = true
is_constructed _ = false

-- A tag replaces the type's own identifier. But the tag of a CHOICE is explicit, and precedes its complete encoding (X.680, clause
-- 31.2.7; clauses 8.14.2 and 8.14.3). So a tag is constructed if its type is, and so is that of a CHOICE.
abbrev pub identifier : Option ℕ → Form → List ℕ
identifier None f = universal_identifier f
identifier (Some i) f = context_identifier (is_constructed f) i

-- A CHOICE without a tag has only the octets of its alternative.
abbrev pub is_open : Option ℕ → Form → Bool
is_open None (form.Choice parts) = true
is_open _ _ = false

-- CONTENTS. TRUE has all bits set (clauses 8.2.2 and 11.1).
abbrev pub bool_octet : Bool → ℕ
bool_octet true = 0xFF
bool_octet false = 0x00

-- The number of the item with this place. Items of words, and those of an order, are numbered from 0 on (X.680, clause 20).
abbrev pub number_in : Option ℤ → ℤ
number_in None = pos 0
number_in (Some z) = z

abbrev pub item_number : Form → ℕ → ℤ
item_number (form.Numbers numbers) i = number_in (slice_get numbers i)
item_number _ i = pos i

-- The contents of a node of this form, with the octets of its children (clauses 8.2 to 8.4, 8.9, 8.10, 8.13 and 8.23).
abbrev pub contents : Form → ValueLabel → List ℕ → List ℕ
contents f (value.Bool b) kids = bool_octet b ∷ []
contents f (value.Int z) kids = signed_octets z
contents f (value.Enum i) kids = signed_octets (item_number f i)
contents f (value.Utf8 text) kids = text
contents f _ kids = kids

-- Identifier, length and contents (clause 8.1.1).
abbrev pub headed : List ℕ → List ℕ → List ℕ
headed head octets = head ++ (length_octets (length octets) ++ octets)

abbrev pub wrapped : Option ℕ → Form → List ℕ → List ℕ
wrapped tag f octets = if is_open tag f then octets else headed (identifier tag f) octets

-- Absent components have no octets. Nor have components with their default value, because no value has them (clauses 8.9.3 and
-- 11.5).
module _ (M : List Assignment) where
  unfoldable mutual
    pub der : Option ℕ → Rose TypeLabel → Rose ValueLabel → List ℕ
    der tag t (node v vs) =
        wrapped tag (label_of (resolve M t)).form (contents (label_of (resolve M t)).form v
        (elim (places (resolve M t) v (length_all vs)) [ None ↦ [] | Some ps ↦ each_der (tagged (tags_of v (length_all vs)) ps) vs ]))

    pub each_der : List TaggedPlace → Roses ValueLabel → List ℕ
    each_der ps none = []
    each_der ps (more v vs) = elim ps [ [] ↦ [] | p ∷ others ↦ der p.tag p.place.type v ++ each_der others vs ]

-- The octets of a value of the type of assignment t.
abbrev pub distinguished : List Assignment → ℕ → Rose ValueLabel → List ℕ
distinguished M t v = elim (slice_get M t) [ None ↦ [] | Some a ↦ der M None a.body v ]
