-- For private contracts only: the components of a document that the values of the code can represent.
use Rattle.std.specs.Prelude.{◌+◌, ◌<◌, ◌≤◌, ◌^◌, List, [], ◌∷◌, ◌++◌, length, map, Option, Some, None}
use Rattle.base_trees.specs.Rose.{Allowed}
use Rattle.content_models.specs.Kids.{MayHave}
use Rattle.schema_components.specs.declared.declarations.RawContent.{RawContent}
use Rattle.schema_components.specs.declared.declarations.RawContent.TheVariants as content
use Rattle.schema_components.specs.declared.declarations.RawLocal.{RawLocal}
use Rattle.schema_components.specs.Raw.{Complex, Kind, NamedKind, SimpleKind, ComplexKind, Element, Local, Reference, Own, TypeDefinition, SimpleType, ComplexType}
use Rattle.schema_components.specs.Seen.{local_of}
use Rattle.schema_read.specs.Particles.{Made}
use Rattle.schema_read.specs.Raw.{Parts}

-- A content model in which each particle may have its children.
abbrev pub ContentHeld : RawContent → Type 0
ContentHeld content.Empty = Unit {0}
ContentHeld (content.Simple base at) = Unit {0}
ContentHeld (content.ElementOnly model) = Allowed MayHave model
ContentHeld (content.Mixed model) = Allowed MayHave model

-- The content can be represented, and the byte after the place of the complex type has a place of 64 bits.
pub record BodyHeld (body : Complex) : Type 0 where
  pub place : body.at + 1 < 2 ^ 64
  pub content : ContentHeld body.content

abbrev pub FoundHeld : Option Complex → Type 0
FoundHeld None = Unit {0}
FoundHeld (Some body) = BodyHeld body

abbrev pub KindHeld : Kind → Type 0
KindHeld (NamedKind reference) = Unit {0}
KindHeld (SimpleKind body) = Unit {0}
KindHeld (ComplexKind body) = BodyHeld body

abbrev pub ElementHeld : Element → Type 0
ElementHeld e = KindHeld e.kind

abbrev pub LocalHeld : Local → Type 0
LocalHeld (Reference name at) = Unit {0}
LocalHeld (Own element) = ElementHeld element

abbrev pub TypeHeld : TypeDefinition → Type 0
TypeHeld (SimpleType name body) = Unit {0}
TypeHeld (ComplexType name body) = BodyHeld body

abbrev pub ElementsHeld : List Element → Type 0
ElementsHeld [] = Unit {0}
ElementsHeld (e ∷ es) = ElementHeld e × ElementsHeld es

abbrev pub TypesHeld : List TypeDefinition → Type 0
TypesHeld [] = Unit {0}
TypesHeld (t ∷ ts) = TypeHeld t × TypesHeld ts

abbrev pub LocalsHeld : List Local → Type 0
LocalsHeld [] = Unit {0}
LocalsHeld (l ∷ ls) = LocalHeld l × LocalsHeld ls

-- Local declarations whose numbers have 32 bits.
pub record Numbered (locals : List Local) : Type 0 where
  pub few : length locals ≤ 2 ^ 32
  pub held : LocalsHeld locals

-- The local declarations present and those that are added have numbers of 32 bits.
abbrev pub HasRoom : {A : Type 0} → List RawLocal → Made A → Type 0
HasRoom before m = Numbered (map local_of before ++ m.locals)

-- The same holds, and the value can be represented.
pub record IsHeld {A : Type 0} (Held : A → Type 0) (before : List RawLocal) (m : Made A) : Type 0 where
  pub value : Held m.value
  pub room : HasRoom before m

pub record PartsHeld (before : List RawLocal) (p : Parts) : Type 0 where
  pub elements : ElementsHeld p.elements
  pub types : TypesHeld p.types
  pub room : Numbered (map local_of before ++ p.locals)
