-- The components of one schema document, with names instead of the components that they name (XML Schema Part 1, section 3).
use Rattle.std.specs.Prelude.{ℕ, Bool, List, Option}
use Rattle.base_texts.specs.declared.texts.Name.{Name}
use Rattle.simple_types.specs.declared.facets.Facet.{Facet}
use Rattle.simple_types.specs.declared.standards.Standard.{Standard}
use Rattle.schema_components.specs.declared.simple_definitions.RawRef.{RawRef}
use Rattle.schema_components.specs.declared.declarations.RawContent.{RawContent}

mutual
  -- A simple type that another component is made from.
  pub data Base : Type 0 where
    Named : RawRef → Base
    -- A definition in place: the place of its `simpleType`, and that of the `restriction`, `list` or `union` in it.
    Inner : ℕ → ℕ → How → Base

  pub data Bases : Type 0 where
    none : Bases
    more : Base → Bases → Bases

  pub data How : Type 0 where
    Restrict : Base → List Facet → How
    ListOf : Base → How
    UnionOf : Bases → How

-- A simple type definition (section 3.14).
pub record Simple : Type 0 where
  pub at : ℕ
  pub body_at : ℕ
  pub how : How

-- An attribute use (section 3.5); without a type if it refers to a global declaration. Its value constraint is its own, with the
-- text as written.
pub record Use : Type 0 where
  pub name : Name
  pub reference : Bool
  pub kind : Option Base
  pub standard : Standard
  pub required : Bool
  pub at : ℕ

-- A complex type definition (section 3.4).
pub record Complex : Type 0 where
  pub at : ℕ
  pub uses : List Use
  pub content : RawContent

-- The type of an element.
pub data Kind : Type 0 where
  NamedKind : RawRef → Kind
  SimpleKind : Simple → Kind
  ComplexKind : Complex → Kind

-- An element declaration (section 3.3).
pub record Element : Type 0 where
  pub name : Name
  pub nillable : Bool
  pub kind : Kind
  pub at : ℕ

-- An element in a content model.
pub data Local : Type 0 where
  Reference : Name → ℕ → Local
  Own : Element → Local

-- A global attribute declaration (section 3.2).
pub record Attribute : Type 0 where
  pub name : Name
  pub kind : Base
  pub standard : Standard
  pub at : ℕ

-- A type definition with a name.
pub data TypeDefinition : Type 0 where
  SimpleType : Name → Simple → TypeDefinition
  ComplexType : Name → Complex → TypeDefinition

pub record Document : Type 0 where
  pub file : ℕ
  pub target : List ℕ
  pub elements : List Element
  pub attributes : List Attribute
  pub types : List TypeDefinition
  pub locals : List Local
  pub counted : List ℕ
