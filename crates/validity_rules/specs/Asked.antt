-- What a set of schemas requires of an element, by the number of its declaration (XML Schema Part 1, sections 3.3 and 3.4).
use Rattle.std.specs.Prelude.{ℕ, Bool, true, false, List, [], map, Option, Some, None, slice_get}
use Rattle.std.specs.Option.{option_map}
use Rattle.base_texts.specs.declared.texts.Name.{Name}
use Rattle.simple_types.specs.Space.{Space, Booleans}
use Rattle.simple_types.specs.declared.standards.Standard.{Standard}
use Rattle.content_models.specs.Particle.{Particle}
use Rattle.content_models.specs.Seen.{seen}
use Rattle.schema_components.specs.declared.components.ElementDecl.{ElementDecl}
use Rattle.schema_components.specs.declared.components.AttributeUse.{AttributeUse}
use Rattle.schema_components.specs.declared.components.TypeOf.{TypeOf}
use Rattle.schema_components.specs.declared.components.TypeOf.TheVariants as kind
use Rattle.schema_components.specs.declared.components.Content.{Content}
use Rattle.schema_components.specs.declared.components.Content.TheVariants as content
use Rattle.schema_components.specs.declared.components.ComplexDef.{ComplexDef}
use Rattle.schema_components.specs.SetParts.{SetParts}

-- An attribute that may appear, with the texts that it may have, and its value constraint.
pub record Attribute : Type 0 where
  pub name : Name
  pub space : Space
  pub required : Bool
  pub standard : Standard

-- The content that the element may have.
pub data Inside : Type 0 where
  nothing : Inside
  -- A text of the simple type, and no child element.
  simple : Space → Inside
  -- Child elements by a content model, and whether texts may appear between them.
  children : Bool → Particle → Inside

pub record Asked : Type 0 where
  pub nillable : Bool
  -- In the order of the declaration.
  pub attributes : List Attribute
  pub inside : Inside

abbrev pub asked : Bool → List Attribute → Inside → Asked
asked nillable attributes inside = record { nillable = nillable; attributes = attributes; inside = inside }

module _ (s : SetParts) where
  -- In a linked set each number names something. Otherwise a truth value would be required.
  abbrev pub space_at : ℕ → Space
  space_at n = elim (slice_get s.simples n) [ None ↦ Booleans | Some t ↦ t.space ]

  abbrev pub attribute_in : AttributeUse → Attribute
  attribute_in u = record { name = u.name; space = space_at u.simple; required = u.required; standard = u.standard }

  abbrev pub inside_of : Content → Inside
  inside_of content.Empty = nothing
  inside_of (content.Simple n) = simple (space_at n)
  inside_of (content.ElementOnly model) = children false (seen model)
  inside_of (content.Mixed model) = children true (seen model)

  abbrev pub asked_by_complex : Bool → Option ComplexDef → Asked
  asked_by_complex nillable None = asked nillable [] nothing
  asked_by_complex nillable (Some c) = asked nillable (map attribute_in c.uses) (inside_of c.content)

  -- An element of a simple type has no attributes.
  abbrev pub asked_by_type : Bool → TypeOf → Asked
  asked_by_type nillable (kind.Simple n) = asked nillable [] (simple (space_at n))
  asked_by_type nillable (kind.Complex n) = asked_by_complex nillable (slice_get s.complexes n)

  abbrev pub asked_by : Option ElementDecl → Asked
  asked_by None = asked false [] (simple Booleans)
  asked_by (Some e) = asked_by_type e.nillable e.kind

  -- What is required of an element with this declaration.
  abbrev pub asked_at : ℕ → Asked
  asked_at d = asked_by (slice_get s.elements d)

  abbrev pub name_at : ℕ → Option Name
  name_at d = option_map (λ (e : ElementDecl). e.name) (slice_get s.elements d)
