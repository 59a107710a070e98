-- The content that an element of a complex type may have (XML Schema Part 1, section 3.4.2).
use Rattle.std.specs.Prelude.{ℕ, ◌+◌, ◌==◌, Bool, true, false, ◌&&◌, List, [], ◌∷◌, ◌++◌, length, bytes_eq, codes, Option, Some, None, unwrap_or, if◌then◌else◌}
use Rattle.std.specs.Option.{option_or}
use Rattle.base_trees.specs.Rose.{Rose, node, none, label_of, kids_of}
use Rattle.xml_items.specs.declared.label.ItemLabel.{ItemLabel}
use Rattle.xml_items.specs.declared.label.ItemLabel.TheVariants.{Element, Text}
use Rattle.content_models.specs.declared.particles.ParticleKind.{ParticleKind}
use Rattle.content_models.specs.declared.particles.ParticleKind.TheVariants as particle
use Rattle.content_models.specs.declared.particles.ParticleLabel.{ParticleLabel}
use Rattle.schema_components.specs.declared.simple_definitions.RawRef.{RawRef}
use Rattle.schema_components.specs.declared.simple_definitions.RawRef.TheVariants.{Other}
use Rattle.schema_components.specs.declared.declarations.RawContent.{RawContent}
use Rattle.schema_components.specs.declared.declarations.RawContent.TheVariants as content
use Rattle.schema_components.specs.declared.declarations.RawUses.{RawUses}
use Rattle.schema_components.specs.Raw.{Use, Complex}
use Rattle.schema_components.specs.Seen.{uses_of}
use Rattle.base_texts.specs.Entries.{beside}
use Rattle.schema_syntax.specs.Elements.{is_schema_name}
use Rattle.schema_syntax.specs.Attributes.{own_attributes}
use Rattle.schema_syntax.specs.Children.{is_in}
use Rattle.schema_syntax.specs.declared.children.ChildSet.TheVariants.{Particles}
use Rattle.schema_read.specs.Names.{no_name, type_ref}
use Rattle.schema_read.specs.Attributes.{uses_among}
use Rattle.schema_read.specs.Settings.{Settings}

-- The item is an element of the schema namespace with this name.
abbrev pub is_named : List ℕ → ItemLabel → Bool
is_named local (Element name attributes declares at) = is_schema_name name && bytes_eq name.local local
is_named local (Text text at) = false

-- ---- simple content: a text of a simple type, and attributes

abbrev pub extension_base : List (List ℕ × List ℕ) → List (List ℕ × List ℕ) → RawRef
extension_base scope own = elim (beside (codes "base") own) [ None ↦ Other no_name | Some value ↦ type_ref scope value ]

-- The content and the attributes of an `extension`.
abbrev pub extended : Settings → List (List ℕ × List ℕ) → ItemLabel → List (Rose ItemLabel) → Option (RawContent × List Use)
extended said outer (Element name attributes declares at) kids =
    if is_named (codes "extension") (Element name attributes declares at)
    then Some (content.Simple (extension_base (declares ++ outer) (own_attributes attributes)) at, uses_among said.target said.attributes_qualified (declares ++ outer) kids)
    else None
extended said outer (Text text at) kids = None

abbrev pub extended_among : Settings → List (List ℕ × List ℕ) → List (Rose ItemLabel) → Option (RawContent × List Use)
extended_among said scope [] = None
extended_among said scope (t ∷ ts) = option_or (extended said scope (label_of t) (kids_of t)) (extended_among said scope ts)

-- The content and the attributes of a `simpleContent`.
abbrev pub simple_content_at : Settings → List (List ℕ × List ℕ) → ItemLabel → List (Rose ItemLabel) → Option (RawContent × List Use)
simple_content_at said outer (Element name attributes declares at) kids =
    if is_named (codes "simpleContent") (Element name attributes declares at) then extended_among said (declares ++ outer) kids else None
simple_content_at said outer (Text text at) kids = None

abbrev pub simple_content : Settings → List (List ℕ × List ℕ) → List (Rose ItemLabel) → Option (RawContent × List Use)
simple_content said scope [] = None
simple_content said scope (t ∷ ts) = option_or (simple_content_at said scope (label_of t) (kids_of t)) (simple_content said scope ts)

-- ---- content by a group: a content model, or nothing

-- An empty sequence that occurs once.
abbrev pub nothing : ℕ → ℕ → Rose ParticleLabel
nothing file at = node (record { kind = particle.Sequence; min = 1; max = Some 1; file = file; at = at }) none

-- The group contains each of its particles, in contrast to a choice.
abbrev pub takes_each : ParticleKind → Bool
takes_each particle.Sequence = true
takes_each particle.All = true
takes_each particle.Choice = false
takes_each (particle.Element decl name) = false

abbrev pub is_nothing : Rose ParticleLabel → Bool
is_nothing group = takes_each (label_of group).kind && length (kids_of group) == 0

-- Without a group, a mixed type has an empty sequence.
abbrev pub content_of_nothing : ℕ → Bool → ℕ → RawContent
content_of_nothing file mixed at = if mixed then content.Mixed (nothing file at) else content.Empty

abbrev pub model_of : Bool → Rose ParticleLabel → RawContent
model_of mixed group = if mixed then content.Mixed group else content.ElementOnly group

-- An empty sequence or an empty `all` counts as no group.
abbrev pub content_by : ℕ → Bool → ℕ → Rose ParticleLabel → RawContent
content_by file mixed empty_at group = if is_nothing group then content_of_nothing file mixed empty_at else model_of mixed group

abbrev pub content_of : ℕ → Bool → ℕ → Option (Rose ParticleLabel) → RawContent
content_of file mixed empty_at None = content_of_nothing file mixed empty_at
content_of file mixed empty_at (Some group) = content_by file mixed empty_at group

abbrev pub particle_place : ItemLabel → Option ℕ
particle_place (Element name attributes declares at) = if is_in Particles (Element name attributes declares at) then Some at else None
particle_place (Text text at) = None

-- The place of the first group among these, even if it may not occur.
abbrev pub group_place : List (Rose ItemLabel) → Option ℕ
group_place [] = None
group_place (t ∷ ts) = option_or (particle_place (label_of t)) (group_place ts)

-- The place of an empty content: that of the group, or else the byte after that of the type.
abbrev pub empty_place : ℕ → List (Rose ItemLabel) → ℕ
empty_place at kids = unwrap_or (group_place kids) (at + 1)

-- ---- complex type definitions

abbrev pub complex_with : ℕ → RawContent × List Use → Complex
complex_with at found = record { at = at; uses = found.1; content = found.0 }

-- A complex type whose content is given by the group, if there is one.
abbrev pub complex_by : Settings → ℕ → Bool → List (List ℕ × List ℕ) → List (Rose ItemLabel) → Option (Rose ParticleLabel) → Complex
complex_by said at mixed scope kids group =
    record {
      at = at;
      uses = uses_among said.target said.attributes_qualified scope kids;
      content = content_of said.file mixed (empty_place at kids) group;
    }

-- ---- values of the code

abbrev pub content_seen : RawContent × RawUses → RawContent × List Use
content_seen found = (found.0, uses_of found.1)
