-- The restrictions and the unions of one schema document (XML Schema Part 1, section 3.14.2).
use Rattle.std.specs.Prelude.{Bool, true, false, ◌&&◌, nat_le, List, [], ◌∷◌, Some, None, count_by}
use Rattle.simple_types.specs.declared.facets.Facet.{Facet}
use Rattle.simple_types.specs.declared.facets.Facet.TheVariants as facet
use Rattle.schema_components.specs.Raw.{Base, Named, Inner, Bases, none, more, How, Restrict, ListOf, UnionOf, Use, Kind, NamedKind, SimpleKind, ComplexKind, Element, Local, Reference, Own, Attribute, TypeDefinition, SimpleType, ComplexType}

abbrev pub is_enumeration : Facet → Bool
is_enumeration f = elim f [
  | facet.Length value ↦ false
  | facet.MinLength value ↦ false
  | facet.MaxLength value ↦ false
  | facet.MinInclusive value ↦ false
  | facet.MaxInclusive value ↦ false
  | facet.MinExclusive value ↦ false
  | facet.MaxExclusive value ↦ false
  | facet.Enumeration value ↦ true
  | facet.WhiteSpace value ↦ false
]

abbrev pub has_few_enumerations : List Facet → Bool
has_few_enumerations facets = nat_le (count_by is_enumeration facets) 10000

abbrev pub has_member : Bases → Bool
has_member none = false
has_member (more b bs) = true

-- A restriction has at most 10,000 enumerations, a union has a member, and so have all types that these are made from.
abbrev mutual
  pub base_varied : Base → Bool
  base_varied (Named reference) = true
  base_varied (Inner at body_at how) = how_varied how

  pub how_varied : How → Bool
  how_varied (Restrict base facets) = has_few_enumerations facets && base_varied base
  how_varied (ListOf item) = base_varied item
  how_varied (UnionOf members) = has_member members && bases_varied members

  pub bases_varied : Bases → Bool
  bases_varied none = true
  bases_varied (more b bs) = base_varied b && bases_varied bs

abbrev pub use_varied : Use → Bool
use_varied u = elim u.kind [ None ↦ true | Some base ↦ base_varied base ]

abbrev pub uses_varied : List Use → Bool
uses_varied [] = true
uses_varied (u ∷ us) = use_varied u && uses_varied us

abbrev pub kind_varied : Kind → Bool
kind_varied (NamedKind reference) = true
kind_varied (SimpleKind body) = how_varied body.how
kind_varied (ComplexKind body) = uses_varied body.uses

abbrev pub local_varied : Local → Bool
local_varied (Reference name at) = true
local_varied (Own element) = kind_varied element.kind

abbrev pub type_varied : TypeDefinition → Bool
type_varied (SimpleType name body) = how_varied body.how
type_varied (ComplexType name body) = uses_varied body.uses

abbrev pub elements_varied : List Element → Bool
elements_varied [] = true
elements_varied (e ∷ es) = kind_varied e.kind && elements_varied es

abbrev pub attributes_varied : List Attribute → Bool
attributes_varied [] = true
attributes_varied (a ∷ others) = base_varied a.kind && attributes_varied others

abbrev pub types_varied : List TypeDefinition → Bool
types_varied [] = true
types_varied (t ∷ ts) = type_varied t && types_varied ts

abbrev pub locals_varied : List Local → Bool
locals_varied [] = true
locals_varied (l ∷ ls) = local_varied l && locals_varied ls

-- It holds of each simple type of a document.
abbrev pub all_varied : List Element → List Attribute → List TypeDefinition → List Local → Bool
all_varied elements attributes types locals =
    elements_varied elements && (attributes_varied attributes && (types_varied types && locals_varied locals))
