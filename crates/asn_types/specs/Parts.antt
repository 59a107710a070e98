-- The parts of a type.
use Rattle.std.specs.Prelude.{◌≡◌, ℕ, Bool, true, false, Some, List, [], ◌∷◌, length, slice_get}
use Rattle.base_trees.specs.Rose.{Rose, Roses, list_of}
use Rattle.asn_types.specs.declared.types.Component.{Component}
use Rattle.asn_types.specs.declared.types.Form.{Form}
use Rattle.asn_types.specs.declared.types.Form.TheVariants as form
use Rattle.asn_types.specs.declared.types.TypeLabel.{TypeLabel}

-- The components of a SEQUENCE, the alternatives of a CHOICE, or the item of a SEQUENCE OF.
abbrev pub parts_of : Form → List Component
parts_of (form.Sequence parts) = parts
parts_of (form.Choice parts) = parts
parts_of (form.SequenceOf part least most) = part ∷ []
parts_of _ = []

-- The type is neither a reference nor has components, so its values have no child nodes.
abbrev pub is_leaf : Form → Bool
is_leaf form.Bool = true
is_leaf (form.Int least greatest) = true
is_leaf (form.Numbers numbers) = true
is_leaf (form.Words identifiers words) = true
is_leaf (form.Order identifiers) = true
is_leaf (form.Utf8 least most class) = true
is_leaf _ = false

-- The type has this part with number i, of this type.
abbrev pub IsPart : TypeLabel → Roses TypeLabel → ℕ → Component → Rose TypeLabel → Type 0
IsPart l ts i part t = (slice_get (parts_of l.form) i ≡ Some part) × (slice_get (list_of ts) i ≡ Some t)

-- The number of children is the number of parts: each part has its type.
abbrev pub MayHave : TypeLabel → ℕ → Type 0
MayHave l kids = kids ≡ length (parts_of l.form)
