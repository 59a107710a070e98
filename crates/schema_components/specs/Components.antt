-- The components of a linked set of schemas.
use Rattle.std.specs.Prelude.{◌≡◌, ℕ, List, ◌++◌, Option, Some, None, slice_get, take}
use Rattle.std.specs.Option.{option_map}
use Rattle.std.specs.List.{filter_map}
use Rattle.base_texts.specs.declared.texts.Name.{Name}
use Rattle.base_trees.specs.Rose.{Rose}
use Rattle.content_models.specs.declared.particles.ParticleLabel.{ParticleLabel}
use Rattle.schema_components.specs.declared.components.ElementDecl.{ElementDecl}
use Rattle.schema_components.specs.declared.components.TypeOf.{TypeOf}
use Rattle.schema_components.specs.declared.components.SimpleDef.{SimpleDef}
use Rattle.schema_components.specs.declared.components.ComplexDef.{ComplexDef}
use Rattle.schema_components.specs.declared.components.Content.{Content}
use Rattle.schema_components.specs.declared.components.Content.TheVariants as content
use Rattle.schema_components.specs.declared.components.GlobalAttribute.{GlobalAttribute}

-- The components, each kind in the order of its numbers. The first `globals` elements are the global ones.
pub record Set : Type 0 where
  pub elements : List ElementDecl
  pub globals : ℕ
  pub simples : List SimpleDef
  pub complexes : List ComplexDef
  pub attributes : List GlobalAttribute

abbrev pub components : List ElementDecl → ℕ → List SimpleDef → List ComplexDef → List GlobalAttribute → Set
components elements globals simples complexes attributes =
    record { elements = elements; globals = globals; simples = simples; complexes = complexes; attributes = attributes }

abbrev pub global_elements : Set → List ElementDecl
global_elements s = take s.globals s.elements

-- The content model, if there is one.
abbrev pub model_of : Content → Option (Rose ParticleLabel)
model_of content.Empty = None
model_of (content.Simple simple) = None
model_of (content.ElementOnly particle) = Some particle
model_of (content.Mixed particle) = Some particle

abbrev pub models_of : Set → List (Rose ParticleLabel)
models_of s = filter_map (λ c. model_of c.content) s.complexes

abbrev pub names_of_types : Set → List Name
names_of_types s = filter_map (λ t. t.name) s.simples ++ filter_map (λ c. c.name) s.complexes

abbrev pub element_type : Set → ℕ → Option TypeOf
element_type s n = option_map (λ e. e.kind) (slice_get s.elements n)

abbrev pub complex_name : Set → ℕ → Option (Option Name)
complex_name s n = option_map (λ c. c.name) (slice_get s.complexes n)

-- The complex type has no name.
abbrev pub IsUnnamed : Set → ℕ → Type 0
IsUnnamed s n = complex_name s n ≡ Some None
