-- The global components of several documents by their names (XML Schema Part 1, section 2.2).
use Rattle.std.specs.Prelude.{Bool, ◌&&◌, List, [], ◌∷◌, ◌++◌, map, Option, Some, None}
use Rattle.std.specs.List.{flat_map, filter, list_any}
use Rattle.base_texts.specs.declared.texts.Name.{Name}
use Rattle.base_texts.specs.Names.{name_eq}
use Rattle.schema_components.specs.Raw.{Document}
use Rattle.link_names.specs.Parts as part
use Rattle.link_names.specs.Parts.{What, Part, parts}
use Rattle.link_names.specs.declared.places.Place.{Place}
use Rattle.link_names.specs.declared.global_names.NameKind.{NameKind}
use Rattle.link_names.specs.declared.global_names.NameKind.TheVariants as kind
use Rattle.link_names.specs.declared.faults.LinkingFault.{LinkingFault}
use Rattle.link_names.specs.declared.faults.LinkWhy.{LinkWhy}
use Rattle.link_names.specs.declared.faults.LinkWhy.TheVariants.{Duplicate}
use Rattle.link_names.specs.Order.{place, fault, is_before}

-- A component, and its place.
pub record GlobalComponent : Type 0 where
  pub name : Name
  pub place : Place

abbrev pub global : Name → Place → GlobalComponent
global name p = record { name = name; place = p }

-- ---- the name of a part, if it is a global component of the kind; simple and complex types are one kind (section 2.5)

abbrev pub element_name : What → Option Name
element_name (part.GlobalElement e) = Some e.name
element_name other = None

abbrev pub attribute_name : What → Option Name
attribute_name (part.GlobalAttribute a) = Some a.name
attribute_name other = None

abbrev pub type_name : What → Option Name
type_name (part.SimpleDefinition name s) = name
type_name (part.ComplexDefinition name c) = name
type_name other = None

abbrev pub complex_name : What → Option Name
complex_name (part.ComplexDefinition name c) = name
complex_name other = None

abbrev pub name_in : NameKind → What → Option Name
name_in kind.Element what = element_name what
name_in kind.Attribute what = attribute_name what
name_in kind.Type what = type_name what
name_in kind.ComplexType what = complex_name what

abbrev pub named_at : Option Name → Place → List GlobalComponent
named_at None p = []
named_at (Some a) p = global a p ∷ []

abbrev pub of_part : NameKind → Part → List GlobalComponent
of_part k p = named_at (name_in k p.what) (place p.file p.at)

-- The global components of a kind among these parts.
abbrev pub globals_among : NameKind → List Part → List GlobalComponent
globals_among k ps = flat_map (of_part k) ps

-- ---- the global components of documents

abbrev pub elements : List Document → List GlobalComponent
elements docs = globals_among kind.Element (parts docs)

abbrev pub attributes : List Document → List GlobalComponent
attributes docs = globals_among kind.Attribute (parts docs)

abbrev pub types : List Document → List GlobalComponent
types docs = globals_among kind.Type (parts docs)

-- The complex types with a name.
abbrev pub complexes : List Document → List GlobalComponent
complexes docs = globals_among kind.ComplexType (parts docs)

-- One of the same name precedes it.
abbrev pub is_repeated : List GlobalComponent → GlobalComponent → Bool
is_repeated gs g = list_any (λ h. name_eq h.name g.name && is_before h.place g.place) gs

-- The faults, for this reason, of the components that one of the same name precedes.
abbrev pub repeated : LinkWhy → List GlobalComponent → List LinkingFault
repeated why gs = map (λ g. fault why g.place) (filter (is_repeated gs) gs)

-- The faults of the components whose name an earlier one of their kind has.
abbrev pub duplicates : List Document → List LinkingFault
duplicates docs = repeated Duplicate (elements docs) ++ repeated Duplicate (attributes docs) ++ repeated Duplicate (types docs)

-- One of them has the name.
abbrev pub is_there : List GlobalComponent → Name → Bool
is_there gs a = list_any (λ g. name_eq a g.name) gs
