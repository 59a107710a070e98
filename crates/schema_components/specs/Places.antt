-- The places of the parts of one schema document.
use Rattle.std.specs.Prelude.{ℕ, ◌≤◌, Bool, ◌&&◌, List, [], ◌∷◌, ◌++◌, map, Option, Some, None, count_by}
use Rattle.std.specs.List.{flat_map}
use Rattle.base_trees.specs.Rose.{Rose, node, Roses}
use Rattle.base_trees.specs.Rose as rose
use Rattle.content_models.specs.declared.particles.ParticleKind.TheVariants as particle
use Rattle.content_models.specs.declared.particles.ParticleLabel.{ParticleLabel}
use Rattle.schema_components.specs.declared.declarations.RawContent.{RawContent}
use Rattle.schema_components.specs.declared.declarations.RawContent.TheVariants as content
use Rattle.schema_components.specs.Bounds.{ascend}
use Rattle.schema_components.specs.Raw.{Base, Named, Inner, Bases, none, more, How, Restrict, ListOf, UnionOf, Simple, Use, Complex, Kind, NamedKind, SimpleKind, ComplexKind, Element, Local, Reference, Own, Attribute, TypeDefinition, SimpleType, ComplexType}

-- ---- the order of the parts in the file

abbrev pub element_place : Element → ℕ
element_place e = e.at

abbrev pub attribute_place : Attribute → ℕ
attribute_place a = a.at

abbrev pub type_place : TypeDefinition → ℕ
type_place (SimpleType name body) = body.at
type_place (ComplexType name body) = body.at

abbrev pub local_place : Local → ℕ
local_place (Reference name at) = at
local_place (Own element) = element.at

-- The components of each kind are in the order written.
abbrev pub all_ascend : List Element → List Attribute → List TypeDefinition → List Local → Bool
all_ascend elements attributes types locals =
    ascend (map element_place elements)
    && (ascend (map attribute_place attributes) && (ascend (map type_place types) && ascend (map local_place locals)))

-- ---- all that the limit of components counts: elements, attributes, types and groups

abbrev mutual
  pub places_in_base : Base → List ℕ
  places_in_base (Named reference) = []
  places_in_base (Inner at body_at how) = at ∷ places_in_how how

  pub places_in_how : How → List ℕ
  places_in_how (Restrict base facets) = places_in_base base
  places_in_how (ListOf item) = places_in_base item
  places_in_how (UnionOf members) = places_in_bases members

  pub places_in_bases : Bases → List ℕ
  places_in_bases none = []
  places_in_bases (more b bs) = places_in_base b ++ places_in_bases bs

abbrev pub places_in_simple : Simple → List ℕ
places_in_simple s = s.at ∷ places_in_how s.how

abbrev pub places_in_type : Option Base → List ℕ
places_in_type None = []
places_in_type (Some base) = places_in_base base

abbrev pub places_in_use : Use → List ℕ
places_in_use u = u.at ∷ places_in_type u.kind

-- The place of a group. An element of a content model has its place by its declaration.
abbrev pub group_place : ParticleLabel → List ℕ
group_place label = elim label.kind [ particle.Element decl name ↦ [] | particle.Sequence ↦ label.at ∷ [] | particle.Choice ↦ label.at ∷ [] | particle.All ↦ label.at ∷ [] ]

abbrev mutual
  pub places_in_model : Rose ParticleLabel → List ℕ
  places_in_model (node label kids) = group_place label ++ places_among kids

  pub places_among : Roses ParticleLabel → List ℕ
  places_among rose.none = []
  places_among (rose.more t ts) = places_in_model t ++ places_among ts

-- The places in mixed content. Mixed content without elements may have been written without a group.
abbrev pub places_in_mixed : Rose ParticleLabel → List ℕ
places_in_mixed (node label rose.none) = []
places_in_mixed (node label (rose.more t ts)) = places_in_model (node label (rose.more t ts))

abbrev pub places_in_content : RawContent → List ℕ
places_in_content content.Empty = []
places_in_content (content.Simple base at) = []
places_in_content (content.ElementOnly model) = places_in_model model
places_in_content (content.Mixed model) = places_in_mixed model

abbrev pub places_in_complex : Complex → List ℕ
places_in_complex c = c.at ∷ (places_in_content c.content ++ flat_map places_in_use c.uses)

abbrev pub places_in_kind : Kind → List ℕ
places_in_kind (NamedKind reference) = []
places_in_kind (SimpleKind body) = places_in_simple body
places_in_kind (ComplexKind body) = places_in_complex body

abbrev pub places_in_element : Element → List ℕ
places_in_element e = e.at ∷ places_in_kind e.kind

abbrev pub places_in_local : Local → List ℕ
places_in_local (Reference name at) = at ∷ []
places_in_local (Own element) = places_in_element element

abbrev pub places_in_attribute : Attribute → List ℕ
places_in_attribute a = a.at ∷ places_in_base a.kind

abbrev pub places_in_definition : TypeDefinition → List ℕ
places_in_definition (SimpleType name body) = places_in_simple body
places_in_definition (ComplexType name body) = places_in_complex body

abbrev pub places_in : List Element → List Attribute → List TypeDefinition → List Local → List ℕ
places_in elements attributes types locals =
    flat_map places_in_element elements
    ++ (flat_map places_in_attribute attributes ++ (flat_map places_in_definition types ++ flat_map places_in_local locals))

-- Each place is among those counted, at least as often as here.
abbrev pub StandAmong : List ℕ → List ℕ → Type 0
StandAmong places counted = (test : ℕ → Bool) → count_by test places ≤ count_by test counted
