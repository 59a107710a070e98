-- What holds of each linked set of schemas.
use Rattle.std.specs.Prelude.{◌≡◌, ℕ, ◌≤◌, ◌<◌, Bool, true, false, List, [], ◌∷◌, ◌++◌, map, length, Option, Some, None, IfSome, IsSomeAnd, slice_get, nat_eq}
use Rattle.std.specs.List.{All, Any, IsDistinct, flat_map, count_by}
use Rattle.std.specs.List.Sorted.{IsStrictlySortedBy}
use Rattle.base_texts.specs.declared.texts.Name.{Name}
use Rattle.base_texts.specs.Names.{name_eq, name_cmp}
use Rattle.base_trees.specs.Rose.{Rose, node_count, height}
use Rattle.simple_types.specs.declared.labels.ValueLabel.{ValueLabel}
use Rattle.simple_types.specs.declared.standards.Standard.{Standard}
use Rattle.simple_types.specs.declared.standards.Standard.TheVariants.{Free, Default, Fixed}
use Rattle.simple_types.specs.Seen.{space_of}
use Rattle.simple_types.specs.Sound.{Sound}
use Rattle.simple_types.specs.Reading.{Holds, spelled}
use Rattle.content_models.specs.declared.particles.ParticleLabel.{ParticleLabel}
use Rattle.content_models.specs.Particle.{Particle, occurs, Term, element, sequence, choice, all, Particles, none, more}
use Rattle.content_models.specs.Clear.{Clear}
use Rattle.content_models.specs.Occurring.{MayOccur}
use Rattle.content_models.specs.Seen.{seen}
use Rattle.schema_components.specs.declared.components.ElementDecl.{ElementDecl}
use Rattle.schema_components.specs.declared.components.TypeOf.{TypeOf}
use Rattle.schema_components.specs.declared.components.TypeOf.TheVariants as kind
use Rattle.schema_components.specs.declared.components.AttributeUse.{AttributeUse}
use Rattle.schema_components.specs.declared.components.SimpleDef.{SimpleDef}
use Rattle.schema_components.specs.declared.components.ComplexDef.{ComplexDef}
use Rattle.schema_components.specs.declared.components.Content.{Content}
use Rattle.schema_components.specs.declared.components.Content.TheVariants as content
use Rattle.schema_components.specs.declared.components.GlobalAttribute.{GlobalAttribute}
use Rattle.schema_components.specs.Declarable.{is_declarable, is_declarable_attribute}
use Rattle.schema_components.specs.Components.{Set, global_elements, model_of, models_of, names_of_types, element_type, IsUnnamed}

-- The element particles of a particle in preorder, each by the number of its declaration and its name.
abbrev mutual
  pub leaves : Particle → List (ℕ × Name)
  leaves (occurs t least most) = leaves_of_term t

  pub leaves_of_term : Term → List (ℕ × Name)
  leaves_of_term (element d a) = (d, a) ∷ []
  leaves_of_term (sequence ps) = all_leaves ps
  leaves_of_term (choice ps) = all_leaves ps
  leaves_of_term (all ps) = all_leaves ps

  pub all_leaves : Particles → List (ℕ × Name)
  all_leaves none = []
  all_leaves (more p ps) = leaves p ++ all_leaves ps

abbrev pub leaves_of_model : Rose ParticleLabel → List (ℕ × Name)
leaves_of_model particle = leaves (seen particle)

-- The leaves of the content model; none if there is no model.
abbrev pub leaves_in : Option (Rose ParticleLabel) → List (ℕ × Name)
leaves_in None = []
leaves_in (Some particle) = leaves_of_model particle

abbrev pub leaves_of : Content → List (ℕ × Name)
leaves_of c = leaves_in (model_of c)

abbrev pub IsTyped : Set → TypeOf → Type 0
IsTyped s (kind.Simple n) = n < length s.simples
IsTyped s (kind.Complex n) = n < length s.complexes

abbrev pub IsElement : Set → ElementDecl → Type 0
IsElement s e = (is_declarable e.name ≡ true) × IsTyped s e.kind

abbrev pub IsUse : Set → AttributeUse → Type 0
IsUse s u = (is_declarable_attribute u.name ≡ true) × (u.simple < length s.simples)

abbrev pub IsAttribute : Set → GlobalAttribute → Type 0
IsAttribute s a = (is_declarable_attribute a.name ≡ true) × (a.simple < length s.simples)

abbrev pub IsSimpleType : SimpleDef → Type 0
IsSimpleType t = IfSome t.name (λ name. is_declarable name ≡ true) × Sound (space_of t.space)

-- ---- value constraints

-- The text is the canonical spelling of a value of the simple type with this number (section 3.2.6, clause 2).
abbrev pub IsSpellingAt : Set → ℕ → List ℕ → Type 0
IsSpellingAt s n text = IsSomeAnd (slice_get s.simples n) (λ t. (v : Rose ValueLabel) × Holds (space_of t.space) v × (spelled (space_of t.space) v ≡ text))

abbrev pub IsStandardAt : Set → ℕ → Standard → Type 0
IsStandardAt s n Free = Unit {0}
IsStandardAt s n (Default text) = IsSpellingAt s n text
IsStandardAt s n (Fixed text) = IsSpellingAt s n text

-- A required use is never absent, so it has no default value.
abbrev pub MayBeFor : Bool → Standard → Type 0
MayBeFor required Free = Unit {0}
MayBeFor required (Default text) = required ≡ false
MayBeFor required (Fixed text) = Unit {0}

abbrev pub HasStandard : Set → AttributeUse → Type 0
HasStandard s u = IsStandardAt s u.simple u.standard × MayBeFor u.required u.standard

-- ---- content models

-- There is an element declaration with this number and this name.
abbrev pub IsNamed : Set → ℕ × Name → Type 0
IsNamed s leaf = IsSomeAnd (slice_get s.elements leaf.0) (λ e. e.name ≡ leaf.1)

-- Element particles of one name have one type (XML Schema Part 1, section 3.8.6, 'Element Declarations Consistent').
abbrev pub AreConsistent : Set → List (ℕ × Name) → Type 0
AreConsistent s ls = All (λ a. All (λ b. a.1 ≡ b.1 → element_type s a.0 ≡ element_type s b.0) ls) ls

pub record IsModel (s : Set) (particle : Rose ParticleLabel) : Type 0 where
  pub few : node_count particle ≤ 65536
  pub shallow : height particle ≤ 17
  pub occurring : MayOccur (seen particle)
  pub clear : Clear (seen particle) []
  pub named : All (IsNamed s) (leaves_of_model particle)
  pub consistent : AreConsistent s (leaves_of_model particle)

abbrev pub IsContent : Set → Content → Type 0
IsContent s content.Empty = Unit {0}
IsContent s (content.Simple n) = n < length s.simples
IsContent s (content.ElementOnly particle) = IsModel s particle
IsContent s (content.Mixed particle) = IsModel s particle

-- The uses ascend by name, so their names are distinct.
pub record IsComplexType (s : Set) (c : ComplexDef) : Type 0 where
  pub named : IfSome c.name (λ name. is_declarable name ≡ true)
  pub few : length c.uses ≤ 65536
  pub uses : All (IsUse s) c.uses
  pub standards : All (HasStandard s) c.uses
  pub ascending : IsStrictlySortedBy name_cmp (map (λ (u : AttributeUse). u.name) c.uses)
  pub content : IsContent s c.content

-- The element declarations that the content models name, once for each particle.
abbrev pub named_declarations : Set → List ℕ
named_declarations s = flat_map (λ p. map (λ (leaf : ℕ × Name). leaf.0) (leaves_of_model p)) (models_of s)

abbrev pub has_complex_type : ℕ → ElementDecl → Bool
has_complex_type n e = elim e.kind [ kind.Simple m ↦ false | kind.Complex m ↦ nat_eq m n ]

-- A declaration in the content model of the first complex type has the second, which has no name.
abbrev pub IsJustBelow : Set → ℕ → ℕ → Type 0
IsJustBelow s n m =
    IsUnnamed s m
    × IsSomeAnd (slice_get s.complexes n) (λ c. Any (λ leaf. (s.globals ≤ leaf.0) × (element_type s leaf.0 ≡ Some (kind.Complex m))) (leaves_of c.content))

-- Each complex type is directly below the one before.
abbrev pub IsChain : Set → List ℕ → Type 0
IsChain s [] = Unit {0}
IsChain s (n ∷ []) = n < length s.complexes
IsChain s (n ∷ m ∷ ns) = IsJustBelow s n m × IsChain s (m ∷ ns)

pub record IsLinked (s : Set) : Type 0 where
  pub few_elements : length s.elements ≤ 65536
  pub few_simples : length s.simples ≤ 65536
  pub few_complexes : length s.complexes ≤ 65536
  pub few_attributes : length s.attributes ≤ 65536
  pub globals : s.globals ≤ length s.elements
  pub elements : All (IsElement s) s.elements
  pub simples : All IsSimpleType s.simples
  pub complexes : All (IsComplexType s) s.complexes
  pub attributes : All (IsAttribute s) s.attributes
  pub standards : All (λ (a : GlobalAttribute). IsStandardAt s a.simple a.standard) s.attributes
  -- The names of one kind are distinct; simple and complex types are one kind.
  pub elements_apart : IsDistinct name_eq (map (λ (e : ElementDecl). e.name) (global_elements s))
  pub types_apart : IsDistinct name_eq (names_of_types s)
  pub attributes_apart : IsDistinct name_eq (map (λ (a : GlobalAttribute). a.name) s.attributes)
  -- One particle names each local declaration, and one declaration has each complex type without a name.
  pub one_particle : (n : ℕ) → s.globals ≤ n → n < length s.elements → count_by (nat_eq n) (named_declarations s) ≡ 1
  pub one_declaration : (n : ℕ) → IsUnnamed s n → count_by (has_complex_type n) s.elements ≡ 1
  -- The numbers of nested types ascend, and at most 21 are nested: more can't be written in 64 levels of elements.
  pub descending : (n m : ℕ) → IsJustBelow s n m → n < m
  pub short : (ns : List ℕ) → IsChain s ns → length ns ≤ 21
