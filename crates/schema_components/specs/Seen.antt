-- The components of a document, as the code's values represent them.
use Rattle.std.specs.Prelude.{List, [], ◌∷◌, map}
use Rattle.std.specs.Option.{option_map}
use Rattle.schema_components.specs.Raw.{Base, Named, Inner, Bases, none, more, How, Restrict, ListOf, UnionOf, Simple, Use, Complex, Kind, NamedKind, SimpleKind, ComplexKind, Element, Local, Reference, Own, Attribute, TypeDefinition, SimpleType, ComplexType}
use Rattle.schema_components.specs.declared.simple_definitions.RawBase as base
use Rattle.schema_components.specs.declared.simple_definitions.RawBase.{RawBase}
use Rattle.schema_components.specs.declared.simple_definitions.RawBases.{RawBases}
use Rattle.schema_components.specs.declared.simple_definitions.RawHow as how
use Rattle.schema_components.specs.declared.simple_definitions.RawHow.{RawHow, Row_of-RawBase, end_of-RawBase, more_of-RawBase}
use Rattle.schema_components.specs.declared.simple_definitions.RawSimple.{RawSimple}
use Rattle.schema_components.specs.declared.attribute_uses.RawUse.{RawUse}
use Rattle.schema_components.specs.declared.declarations.RawUses.{RawUses}
use Rattle.schema_components.specs.declared.declarations.RawComplex.{RawComplex}
use Rattle.schema_components.specs.declared.declarations.RawKind.{RawKind}
use Rattle.schema_components.specs.declared.declarations.RawKind.TheVariants as kind
use Rattle.schema_components.specs.declared.declarations.RawElement.{RawElement}
use Rattle.schema_components.specs.declared.declarations.RawLocal.{RawLocal}
use Rattle.schema_components.specs.declared.declarations.RawLocal.TheVariants as local
use Rattle.schema_components.specs.declared.declarations.RawAttribute.{RawAttribute}
use Rattle.schema_components.specs.declared.declarations.RawType.{RawType}
use Rattle.schema_components.specs.declared.declarations.RawType.TheVariants as defined

unfoldable mutual
  pub base_of : RawBase → Base
  base_of (base.Named reference) = Named reference
  base_of (base.Inner' place at body_at how) = Inner at body_at (how_of how)

  pub how_of : RawHow → How
  how_of (how.Restrict base facets) = Restrict (base_of base) facets
  how_of (how.List item) = ListOf (base_of item)
  how_of (how.Union' shape row) = UnionOf (bases_of_row row)

  pub bases_of_row : {m : _} → Row_of-RawBase m → Bases
  bases_of_row end_of-RawBase = none
  bases_of_row (more_of-RawBase b rest) = more (base_of b) (bases_of_row rest)

abbrev pub bases_in : List RawBase → Bases
bases_in [] = none
bases_in (b ∷ bs) = more (base_of b) (bases_in bs)

abbrev pub bases_of : RawBases → Bases
bases_of list = bases_in list.entries.items

abbrev pub simple_of : RawSimple → Simple
simple_of s = record { at = s.at; body_at = s.body_at; how = how_of s.how }

abbrev pub use_of : RawUse → Use
use_of u = record { name = u.name; reference = u.reference; kind = option_map base_of u.kind; standard = u.standard; required = u.required; at = u.at }

abbrev pub uses_in : List RawUse → List Use
uses_in us = map use_of us

abbrev pub uses_of : RawUses → List Use
uses_of list = uses_in list.entries.items

abbrev pub complex_of : RawComplex → Complex
complex_of c = record { at = c.at; uses = uses_of c.uses; content = c.content }

abbrev pub kind_of : RawKind → Kind
kind_of (kind.Named reference) = NamedKind reference
kind_of (kind.Simple body) = SimpleKind (simple_of body)
kind_of (kind.Complex body) = ComplexKind (complex_of body)

abbrev pub element_of : RawElement → Element
element_of e = record { name = e.name; nillable = e.nillable; kind = kind_of e.kind; at = e.at }

abbrev pub local_of : RawLocal → Local
local_of (local.Reference name at) = Reference name at
local_of (local.Own element) = Own (element_of element)

abbrev pub attribute_of : RawAttribute → Attribute
attribute_of a = record { name = a.name; kind = base_of a.kind; standard = a.standard; at = a.at }

abbrev pub type_of : RawType → TypeDefinition
type_of (defined.Simple name body) = SimpleType name (simple_of body)
type_of (defined.Complex name body) = ComplexType name (complex_of body)
