-- Chains of nested complex types in one schema document.
use Rattle.std.specs.Prelude.{◌≡◌, ◌≤◌, ℕ, List, [], ◌∷◌, length, Option, Some, None, IfSome, IsSomeAnd, slice_get}
use Rattle.std.specs.List.{All, Any}
use Rattle.base_texts.specs.declared.texts.Name.{Name}
use Rattle.schema_components.specs.declared.declarations.RawContent.{RawContent}
use Rattle.schema_components.specs.declared.declarations.RawContent.TheVariants as content
use Rattle.schema_components.specs.Raw.{Complex, Kind, NamedKind, SimpleKind, ComplexKind, Element, Local, Reference, Own, TypeDefinition, SimpleType, ComplexType}
use Rattle.schema_components.specs.Linked.{leaves_of_model}

-- The element particles of the content; none if it has no content model.
abbrev pub leaves_of_content : RawContent → List (ℕ × Name)
leaves_of_content content.Empty = []
leaves_of_content (content.Simple base at) = []
leaves_of_content (content.ElementOnly model) = leaves_of_model model
leaves_of_content (content.Mixed model) = leaves_of_model model

-- ---- the complex type that a component has or is

abbrev pub complex_in_kind : Kind → Option Complex
complex_in_kind (NamedKind reference) = None
complex_in_kind (SimpleKind body) = None
complex_in_kind (ComplexKind body) = Some body

abbrev pub complex_in_element : Element → Option Complex
complex_in_element e = complex_in_kind e.kind

abbrev pub complex_in_local : Local → Option Complex
complex_in_local (Reference name at) = None
complex_in_local (Own element) = complex_in_element element

abbrev pub complex_in_type : TypeDefinition → Option Complex
complex_in_type (SimpleType name body) = None
complex_in_type (ComplexType name body) = Some body

-- ---- chains

-- The local declaration with this number has the complex type.
abbrev pub HasComplex : List Local → Complex → ℕ → Type 0
HasComplex locals d n = IsSomeAnd (slice_get locals n) (λ l. complex_in_local l ≡ Some d)

-- A declaration in the content model of the first complex type has the second.
abbrev pub IsJustIn : List Local → Complex → Complex → Type 0
IsJustIn locals c d = Any (λ leaf. HasComplex locals d leaf.0) (leaves_of_content c.content)

-- Each complex type is directly in the one before.
abbrev pub IsChain : List Local → List Complex → Type 0
IsChain locals [] = Unit {0}
IsChain locals (c ∷ []) = Unit {0}
IsChain locals (c ∷ d ∷ ds) = IsJustIn locals c d × IsChain locals (d ∷ ds)

-- Each chain that begins with this type has at most 21 types: more can't be written in 64 levels of elements.
abbrev pub BeginsShort : List Local → Complex → Type 0
BeginsShort locals c = (ds : List Complex) → IsChain locals (c ∷ ds) → length (c ∷ ds) ≤ 21

pub record AreShort (es : List Element) (ts : List TypeDefinition) (ls : List Local) : Type 0 where
  pub elements : All (λ e. IfSome (complex_in_element e) (BeginsShort ls)) es
  pub types : All (λ t. IfSome (complex_in_type t) (BeginsShort ls)) ts
  pub locals : All (λ l. IfSome (complex_in_local l) (BeginsShort ls)) ls
