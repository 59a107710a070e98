-- How the content models of one schema document and its local declarations fit together.
use Rattle.std.specs.Prelude.{◌≡◌, ℕ, ◌+◌, ◌≤◌, Bool, List, [], ◌∷◌, ◌++◌, count_by}
use Rattle.base_texts.specs.declared.texts.Name.{Name}
use Rattle.base_trees.specs.Rose.{Rose, node, Roses}
use Rattle.base_trees.specs.Rose as rose
use Rattle.content_models.specs.declared.particles.ParticleKind.{ParticleKind}
use Rattle.content_models.specs.declared.particles.ParticleKind.TheVariants as particle
use Rattle.content_models.specs.declared.particles.ParticleLabel.{ParticleLabel}
use Rattle.schema_components.specs.declared.declarations.RawContent.{RawContent}
use Rattle.schema_components.specs.declared.declarations.RawContent.TheVariants as content
use Rattle.schema_components.specs.Raw.{Kind, NamedKind, SimpleKind, ComplexKind, Element, Local, Reference, Own, TypeDefinition, SimpleType, ComplexType, Document}
use Rattle.schema_components.specs.Linked.{leaves_of_model}

-- ---- content models

abbrev pub model_in_content : RawContent → List (Rose ParticleLabel)
model_in_content content.Empty = []
model_in_content (content.Simple base at) = []
model_in_content (content.ElementOnly model) = model ∷ []
model_in_content (content.Mixed model) = model ∷ []

abbrev pub model_in_kind : Kind → List (Rose ParticleLabel)
model_in_kind (NamedKind reference) = []
model_in_kind (SimpleKind body) = []
model_in_kind (ComplexKind body) = model_in_content body.content

abbrev pub model_in_local : Local → List (Rose ParticleLabel)
model_in_local (Reference name at) = []
model_in_local (Own element) = model_in_kind element.kind

abbrev pub model_in_type : TypeDefinition → List (Rose ParticleLabel)
model_in_type (SimpleType name body) = []
model_in_type (ComplexType name body) = model_in_content body.content

abbrev pub models_in_elements : List Element → List (Rose ParticleLabel)
models_in_elements [] = []
models_in_elements (e ∷ es) = model_in_kind e.kind ++ models_in_elements es

abbrev pub models_in_types : List TypeDefinition → List (Rose ParticleLabel)
models_in_types [] = []
models_in_types (t ∷ ts) = model_in_type t ++ models_in_types ts

abbrev pub models_in_locals : List Local → List (Rose ParticleLabel)
models_in_locals [] = []
models_in_locals (l ∷ ls) = model_in_local l ++ models_in_locals ls

abbrev pub leaves_of_models : List (Rose ParticleLabel) → List (ℕ × Name)
leaves_of_models [] = []
leaves_of_models (m ∷ ms) = leaves_of_model m ++ leaves_of_models ms

-- ---- local declarations by their numbers and names

abbrev pub name_of : Local → Name
name_of (Reference name at) = name
name_of (Own element) = element.name

abbrev pub numbered : ℕ → List Local → List (ℕ × Name)
numbered n [] = []
numbered n (l ∷ ls) = (n, name_of l) ∷ numbered (n + 1) ls

-- ---- particles

-- If the particle is an element, the number of its declaration is n or greater.
abbrev pub IsFrom : ℕ → ParticleKind → Type 0
IsFrom n (particle.Element decl name) = n ≤ decl
IsFrom n particle.Sequence = Unit {0}
IsFrom n particle.Choice = Unit {0}
IsFrom n particle.All = Unit {0}

-- The particle was written in this file, and if it is an element, the number of its declaration is n or greater.
abbrev pub Stands : ℕ → ℕ → ParticleLabel → Type 0
Stands file n label = (label.file ≡ file) × IsFrom n label.kind

abbrev mutual
  pub EachStands : ℕ → ℕ → Rose ParticleLabel → Type 0
  EachStands file n (node label kids) = Stands file n label × AllStand file n kids

  pub AllStand : ℕ → ℕ → Roses ParticleLabel → Type 0
  AllStand file n rose.none = Unit {0}
  AllStand file n (rose.more t ts) = EachStands file n t × AllStand file n ts

abbrev pub ModelsStand : ℕ → ℕ → List (Rose ParticleLabel) → Type 0
ModelsStand file n [] = Unit {0}
ModelsStand file n (m ∷ ms) = EachStands file n m × ModelsStand file n ms

-- The declarations nested in a local declaration have greater numbers.
abbrev pub Nested : ℕ → ℕ → List Local → Type 0
Nested file n [] = Unit {0}
Nested file n (l ∷ ls) = ModelsStand file (n + 1) (model_in_local l) × Nested file (n + 1) ls

-- ---- the whole document

abbrev pub leaves_in : Document → List (ℕ × Name)
leaves_in d = leaves_of_models (models_in_elements d.elements) ++ (leaves_of_models (models_in_types d.types) ++ leaves_of_models (models_in_locals d.locals))

pub record IsCoherent (d : Document) : Type 0 where
  -- The element particles of all content models are the local declarations, each by its number and its name, in some order.
  pub once : (test : ℕ × Name → Bool) → count_by test (leaves_in d) ≡ count_by test (numbered 0 d.locals)
  pub elements : ModelsStand d.file 0 (models_in_elements d.elements)
  pub types : ModelsStand d.file 0 (models_in_types d.types)
  pub locals : Nested d.file 0 d.locals
