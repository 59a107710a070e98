-- The names that one schema document declares.
use Rattle.std.specs.Prelude.{Bool, true, ◌&&◌, List, [], ◌∷◌, if◌then◌else◌}
use Rattle.schema_components.specs.Raw.{Use, Kind, NamedKind, SimpleKind, ComplexKind, Element, Local, Reference, Own, Attribute, TypeDefinition, SimpleType, ComplexType}
use Rattle.schema_components.specs.Declarable.{is_declarable, is_declarable_attribute}

-- The name of an attribute use may be declared; a reference declares no name.
abbrev pub use_named : Use → Bool
use_named u = if u.reference then true else is_declarable_attribute u.name

abbrev pub uses_named : List Use → Bool
uses_named [] = true
uses_named (u ∷ us) = use_named u && uses_named us

abbrev pub kind_named : Kind → Bool
kind_named (NamedKind reference) = true
kind_named (SimpleKind body) = true
kind_named (ComplexKind body) = uses_named body.uses

abbrev pub element_named : Element → Bool
element_named e = is_declarable e.name && kind_named e.kind

abbrev pub local_named : Local → Bool
local_named (Reference name at) = true
local_named (Own element) = element_named element

abbrev pub attribute_named : Attribute → Bool
attribute_named a = is_declarable_attribute a.name

abbrev pub type_named : TypeDefinition → Bool
type_named (SimpleType name body) = is_declarable name
type_named (ComplexType name body) = is_declarable name && uses_named body.uses

abbrev pub elements_named : List Element → Bool
elements_named [] = true
elements_named (e ∷ es) = element_named e && elements_named es

abbrev pub attributes_named : List Attribute → Bool
attributes_named [] = true
attributes_named (a ∷ others) = attribute_named a && attributes_named others

abbrev pub types_named : List TypeDefinition → Bool
types_named [] = true
types_named (t ∷ ts) = type_named t && types_named ts

abbrev pub locals_named : List Local → Bool
locals_named [] = true
locals_named (l ∷ ls) = local_named l && locals_named ls

-- Each name that a document declares may be declared.
abbrev pub all_named : List Element → List Attribute → List TypeDefinition → List Local → Bool
all_named elements attributes types locals =
    elements_named elements && (attributes_named attributes && (types_named types && locals_named locals))
