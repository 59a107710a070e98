-- The references of schema documents to components by their names (XML Schema Part 1, section 3.15.3), each at the
-- place of the element that has it.
use Rattle.std.specs.Prelude.{List, [], ◌∷◌, if◌then◌else◌}
use Rattle.std.specs.List.{flat_map}
use Rattle.base_texts.specs.declared.texts.Name.{Name}
use Rattle.schema_components.specs.declared.simple_definitions.RawRef.{RawRef}
use Rattle.schema_components.specs.declared.simple_definitions.RawRef.TheVariants as reference
use Rattle.schema_components.specs.Raw.{Use, Document}
use Rattle.link_names.specs.Parts as part
use Rattle.link_names.specs.Parts.{What, Part, parts}
use Rattle.link_names.specs.declared.parts.TypeRole.{TypeRole}
use Rattle.link_names.specs.declared.parts.TypeRole.TheVariants as role
use Rattle.link_names.specs.declared.places.Place.{Place}
use Rattle.link_names.specs.declared.references.Need.{Need}
use Rattle.link_names.specs.declared.references.Need.TheVariants as need
use Rattle.link_names.specs.Order.{place}

-- A name, and the kind of component that it must name.
pub record Mention : Type 0 where
  pub place : Place
  pub need : Need
  pub name : Name

abbrev pub mention : Need → Place → Name → Mention
mention n p name = record { place = p; need = n; name = name }

-- The type of an element may be complex. The type of an attribute or of a text, a base, an item and a member are simple.
abbrev pub need_of : TypeRole → Need
need_of role.Element = need.Type
need_of role.Attribute = need.Simple
need_of role.Content = need.Simple
need_of role.SimpleType = need.Simple

-- A built-in type needs no definition.
abbrev pub of_type : Need → Place → RawRef → List Mention
of_type n p (reference.Builtin which) = []
of_type n p (reference.Other name) = mention n p name ∷ []

abbrev pub of_use : Place → Use → List Mention
of_use p u = if u.reference then mention need.Attribute p u.name ∷ [] else []

abbrev pub of_what : Place → What → List Mention
of_what p (part.ElementReference name) = mention need.Element p name ∷ []
of_what p (part.AttributeUse u) = of_use p u
of_what p (part.TypeReference r reference) = of_type (need_of r) p reference
of_what p other = []

abbrev pub of_part : Part → List Mention
of_part p = of_what (place p.file p.at) p.what

abbrev pub mentions : List Document → List Mention
mentions docs = flat_map of_part (parts docs)
