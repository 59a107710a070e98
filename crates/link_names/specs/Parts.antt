-- The parts of schema documents (XML Schema Part 1, sections 3.2 to 3.14), each after the part that contains it: for each
-- document those of its global elements, its global attributes, its types with a name and its local elements.
use Rattle.std.specs.Prelude.{ℕ, List, [], ◌∷◌, ◌++◌, Option, Some, None}
use Rattle.std.specs.List.{flat_map}
use Rattle.base_texts.specs.declared.texts.Name.{Name}
use Rattle.base_trees.specs.Rose.{Rose, node, Roses}
use Rattle.base_trees.specs.Rose as rose
use Rattle.content_models.specs.declared.particles.ParticleLabel.{ParticleLabel}
use Rattle.schema_components.specs.declared.simple_definitions.RawRef.{RawRef}
use Rattle.schema_components.specs.declared.declarations.RawContent.{RawContent}
use Rattle.schema_components.specs.declared.declarations.RawContent.TheVariants as content
use Rattle.schema_components.specs.Raw.{Base, Named, Inner, Bases, none, more, How, Restrict, ListOf, UnionOf, Simple, Use, Complex, Kind, NamedKind, SimpleKind, ComplexKind, Element, Local, Reference, Own, Attribute, TypeDefinition, SimpleType, ComplexType, Document}
use Rattle.link_names.specs.declared.parts.TypeRole.{TypeRole}
use Rattle.link_names.specs.declared.parts.TypeRole.TheVariants as role

pub data What : Type 0 where
  GlobalElement : Element → What
  LocalElement : Element → What
  ElementReference : Name → What
  GlobalAttribute : Attribute → What
  AttributeUse : Use → What
  -- A definition in place has no name.
  SimpleDefinition : Option Name → Simple → What
  ComplexDefinition : Option Name → Complex → What
  -- A group, or an element particle.
  Particle : ParticleLabel → What
  -- The group of mixed content without elements.
  MixedGroup : ParticleLabel → What
  -- The name of a type, at the place of the element that has it.
  TypeReference : TypeRole → RawRef → What

-- A part with its place, and the place of the part that contains it.
pub record Part : Type 0 where
  pub file : ℕ
  pub within : Option ℕ
  pub at : ℕ
  pub what : What

abbrev pub part : ℕ → Option ℕ → ℕ → What → Part
part file within at what = record { file = file; within = within; at = at; what = what }

-- ---- simple types (section 3.14)

abbrev pub simple : ℕ → ℕ → How → Simple
simple at body_at how = record { at = at; body_at = body_at; how = how }

-- A type that is named, or defined in place. A base, an item or a member is in the `restriction`, `list` or `union`.
abbrev mutual
  pub in_base : ℕ → ℕ → TypeRole → Base → List Part
  in_base file at r (Named reference) = part file (Some at) at (TypeReference r reference) ∷ []
  in_base file at r (Inner own body_at how) = part file (Some at) own (SimpleDefinition None (simple own body_at how)) ∷ in_how file body_at how

  pub in_how : ℕ → ℕ → How → List Part
  in_how file at (Restrict base facets) = in_base file at role.SimpleType base
  in_how file at (ListOf item) = in_base file at role.SimpleType item
  in_how file at (UnionOf members) = in_bases file at members

  pub in_bases : ℕ → ℕ → Bases → List Part
  in_bases file at none = []
  in_bases file at (more b bs) = in_base file at role.SimpleType b ++ in_bases file at bs

abbrev pub in_simple : ℕ → Option ℕ → Option Name → Simple → List Part
in_simple file within name s = part file within s.at (SimpleDefinition name s) ∷ in_how file s.body_at s.how

-- ---- complex types (section 3.4)

abbrev mutual
  pub in_model : ℕ → ℕ → Rose ParticleLabel → List Part
  in_model file within (node label kids) = part file (Some within) label.at (Particle label) ∷ in_models file label.at kids

  pub in_models : ℕ → ℕ → Roses ParticleLabel → List Part
  in_models file within rose.none = []
  in_models file within (rose.more t ts) = in_model file within t ++ in_models file within ts

abbrev pub in_mixed : ℕ → ℕ → Rose ParticleLabel → List Part
in_mixed file within (node label rose.none) = part file (Some within) label.at (MixedGroup label) ∷ []
in_mixed file within (node label (rose.more t ts)) = in_model file within (node label (rose.more t ts))

abbrev pub in_content : ℕ → ℕ → RawContent → List Part
in_content file within content.Empty = []
in_content file within (content.Simple base at) = part file (Some within) at (TypeReference role.Content base) ∷ []
in_content file within (content.ElementOnly model) = in_model file within model
in_content file within (content.Mixed model) = in_mixed file within model

-- A reference has no type of its own.
abbrev pub in_use_type : ℕ → ℕ → Option Base → List Part
in_use_type file at None = []
in_use_type file at (Some base) = in_base file at role.Attribute base

abbrev pub in_use : ℕ → ℕ → Use → List Part
in_use file within u = part file (Some within) u.at (AttributeUse u) ∷ in_use_type file u.at u.kind

abbrev pub in_complex : ℕ → Option ℕ → Option Name → Complex → List Part
in_complex file within name c =
    part file within c.at (ComplexDefinition name c) ∷ (in_content file c.at c.content ++ flat_map (in_use file c.at) c.uses)

-- ---- declarations (sections 3.2 and 3.3)

abbrev pub in_kind : ℕ → ℕ → Kind → List Part
in_kind file at (NamedKind reference) = part file (Some at) at (TypeReference role.Element reference) ∷ []
in_kind file at (SimpleKind s) = in_simple file (Some at) None s
in_kind file at (ComplexKind c) = in_complex file (Some at) None c

abbrev pub in_element : ℕ → Element → List Part
in_element file e = part file None e.at (GlobalElement e) ∷ in_kind file e.at e.kind

abbrev pub in_attribute : ℕ → Attribute → List Part
in_attribute file a = part file None a.at (GlobalAttribute a) ∷ in_base file a.at role.Attribute a.kind

abbrev pub in_definition : ℕ → TypeDefinition → List Part
in_definition file (SimpleType name body) = in_simple file None (Some name) body
in_definition file (ComplexType name body) = in_complex file None (Some name) body

abbrev pub in_local : ℕ → Local → List Part
in_local file (Reference name at) = part file None at (ElementReference name) ∷ []
in_local file (Own e) = part file None e.at (LocalElement e) ∷ in_kind file e.at e.kind

-- ---- documents

abbrev pub in_globals : ℕ → List Element → List Attribute → List TypeDefinition → List Part
in_globals file elements attributes types =
    flat_map (in_element file) elements ++ (flat_map (in_attribute file) attributes ++ flat_map (in_definition file) types)

abbrev pub in_components : ℕ → List Element → List Attribute → List TypeDefinition → List Local → List Part
in_components file elements attributes types locals = in_globals file elements attributes types ++ flat_map (in_local file) locals

abbrev pub in_document : Document → List Part
in_document d = in_components d.file d.elements d.attributes d.types d.locals

abbrev pub parts : List Document → List Part
parts docs = flat_map in_document docs
