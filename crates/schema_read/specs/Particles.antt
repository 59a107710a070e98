-- Elements, complex types and content models (XML Schema Part 1, sections 3.3.2, 3.4.2, 3.8.2 and 3.9.2).
--
-- The local declarations of a document have numbers from 0 in the order written. The following definitions give the component
-- that a part of a document makes, and the local declarations in it, given the number of those that precede it.
use Rattle.std.specs.Prelude.{◌≡◌, ℕ, ◌+◌, Bool, List, [], ◌∷◌, ◌++◌, map, length, bytes_eq, codes, Option, Some, None, if◌then◌else◌}
use Rattle.base_texts.specs.declared.texts.Name.{Name}
use Rattle.base_trees.specs.Rose.{Rose, node, Roses, roses_of, list_of}
use Rattle.base_trees.specs.Rose as rose
use Rattle.xml_items.specs.declared.label.ItemLabel.{ItemLabel}
use Rattle.xml_items.specs.declared.label.ItemLabel.TheVariants.{Element, Text}
use Rattle.content_models.specs.declared.particles.ParticleKind.{ParticleKind}
use Rattle.content_models.specs.declared.particles.ParticleKind.TheVariants as particle
use Rattle.content_models.specs.declared.particles.ParticleLabel.{ParticleLabel}
use Rattle.schema_components.specs.declared.simple_definitions.RawRef.TheVariants.{Other}
use Rattle.schema_components.specs.declared.declarations.RawLocal.{RawLocal}
use Rattle.schema_components.specs.Raw as raw
use Rattle.schema_components.specs.Raw.{Simple, Complex, Kind, NamedKind, SimpleKind, ComplexKind, Local, Reference, Own}
use Rattle.schema_components.specs.Seen.{local_of}
use Rattle.base_texts.specs.Entries.{beside}
use Rattle.schema_syntax.specs.Attributes.{own_attributes}
use Rattle.schema_syntax.specs.Values.{least_of, most_of}
use Rattle.schema_faults.specs.Reasons.{is_true, occurs}
use Rattle.schema_read.specs.Names.{no_name, type_ref, referred}
use Rattle.schema_read.specs.Attributes.{local_name}
use Rattle.schema_read.specs.SimpleTypes.{simple_type}
use Rattle.schema_read.specs.Settings.{Settings}
use Rattle.schema_read.specs.Contents.{is_named, simple_content, complex_with, complex_by}

pub record Made (A : Type 0) : Type 0 where
  pub value : A
  pub locals : List Local

abbrev pub made : {A : Type 0} → A → List Local → Made A
made value locals = record { value = value; locals = locals }

abbrev pub made_some : {A : Type 0} → Made A → Made (Option A)
made_some m = made (Some m.value) m.locals

-- ---- elements

-- The name of the element that a local declaration declares or refers to.
abbrev pub element_name : Settings → List (List ℕ × List ℕ) → List (List ℕ × List ℕ) → Name
element_name said scope own = elim (beside (codes "ref") own) [ None ↦ local_name said.target said.elements_qualified own | Some text ↦ referred scope text ]

-- The type that the element names, or else the one in it.
abbrev pub kind_by : List (List ℕ × List ℕ) → List (List ℕ × List ℕ) → Made Kind → Made Kind
kind_by scope own inner = elim (beside (codes "type") own) [ None ↦ inner | Some value ↦ made (NamedKind (type_ref scope value)) [] ]

abbrev pub element_with : Name → List (List ℕ × List ℕ) → ℕ → Kind → raw.Element
element_with name own at kind = record { name = name; nillable = is_true (codes "nillable") own; kind = kind; at = at }

abbrev pub element_by : Name → List (List ℕ × List ℕ) → ℕ → Made Kind → Made raw.Element
element_by name own at kind = made (element_with name own at kind.value) kind.locals

abbrev pub reference_to : Name → ℕ → List Local
reference_to name at = Reference name at ∷ []

-- A local declaration, followed by those nested in it.
abbrev pub declared_with : Made raw.Element → List Local
declared_with element = Own element.value ∷ element.locals

abbrev pub declared : Settings → ℕ → List (List ℕ × List ℕ) → List (List ℕ × List ℕ) → Made Kind → List Local
declared said at scope own inner = elim (beside (codes "ref") own) [
  | None ↦ declared_with (element_by (local_name said.target said.elements_qualified own) own at (kind_by scope own inner))
  | Some text ↦ reference_to (referred scope text) at
]

-- ---- particles

abbrev pub leaf_of : ℕ → ℕ → ℕ → Name → List (List ℕ × List ℕ) → Rose ParticleLabel
leaf_of file at decl name own =
    node (record { kind = particle.Element decl name; min = least_of own; max = most_of own; file = file; at = at }) rose.none

abbrev pub compositor : List ℕ → ParticleKind
compositor name = if bytes_eq name (codes "choice") then particle.Choice else if bytes_eq name (codes "all") then particle.All else particle.Sequence

abbrev pub group_of : ℕ → ℕ → List ℕ → List (List ℕ × List ℕ) → List (Rose ParticleLabel) → Rose ParticleLabel
group_of file at name own particles =
    node (record { kind = compositor name; min = least_of own; max = most_of own; file = file; at = at }) (roses_of particles)

-- The particle of an element with the type in it, or of a group with its particles.
abbrev pub particle_by : Settings → ℕ → List ℕ → ℕ → List (List ℕ × List ℕ) → List (List ℕ × List ℕ) → Made Kind → Made (List (Rose ParticleLabel)) → Made (Rose ParticleLabel)
particle_by said n name at scope own inner particles =
    if bytes_eq name (codes "element")
    then made (leaf_of said.file at n (element_name said scope own) own) (declared said at scope own inner)
    else made (group_of said.file at name own particles.value) particles.locals

abbrev pub and_some : {A : Type 0} → Option A → List A → List A
and_some None rest = rest
and_some (Some first) rest = first ∷ rest

abbrev pub and_particle : Made (Option (Rose ParticleLabel)) → Made (List (Rose ParticleLabel)) → Made (List (Rose ParticleLabel))
and_particle first rest = made (and_some first.value rest.value) (first.locals ++ rest.locals)

-- ---- types

-- The first type among children.
abbrev pub first_kind : Option Simple → Made (Option Complex) → Made Kind → Made Kind
first_kind (Some body) complex rest = made (SimpleKind body) []
first_kind None complex rest = elim complex.value [ None ↦ made rest.value (complex.locals ++ rest.locals) | Some body ↦ made (ComplexKind body) complex.locals ]

-- The first group among children.
abbrev pub first_group : Made (Option (Rose ParticleLabel)) → Made (Option (Rose ParticleLabel)) → Made (Option (Rose ParticleLabel))
first_group first rest = elim first.value [ None ↦ made rest.value (first.locals ++ rest.locals) | Some group ↦ made (Some group) first.locals ]

abbrev pub complex_of : Settings → ℕ → Bool → List (List ℕ × List ℕ) → List (Rose ItemLabel) → Made (Option (Rose ParticleLabel)) → Made Complex
complex_of said at mixed scope kids group = elim (simple_content said scope kids) [
  | None ↦ made (complex_by said at mixed scope kids group.value) group.locals
  | Some found ↦ made (complex_with at found) []
]

abbrev mutual
  -- The particle that the element makes, unless it may not occur.
  pub particle_at : Settings → List (List ℕ × List ℕ) → ℕ → Rose ItemLabel → Made (Option (Rose ParticleLabel))
  particle_at said outer n (node (Text text at) kids) = made None []
  particle_at said outer n (node (Element name attributes declares at) kids) =
      if occurs (Element name attributes declares at)
      then made_some (particle_by said n name.local at (declares ++ outer) (own_attributes attributes)
      (inner_kind said (declares ++ outer) (n + 1) kids) (particles_among said (declares ++ outer) n kids))
      else made None []

  -- The particles among these, in their order.
  pub particles_among : Settings → List (List ℕ × List ℕ) → ℕ → Roses ItemLabel → Made (List (Rose ParticleLabel))
  particles_among said scope n rose.none = made [] []
  particles_among said scope n (rose.more t ts) =
      and_particle (particle_at said scope n t) (particles_among said scope (n + length (particle_at said scope n t).locals) ts)

  -- The first particle among these that may occur.
  pub group_among : Settings → List (List ℕ × List ℕ) → ℕ → Roses ItemLabel → Made (Option (Rose ParticleLabel))
  group_among said scope n rose.none = made None []
  group_among said scope n (rose.more t ts) =
      first_group (particle_at said scope n t) (group_among said scope (n + length (particle_at said scope n t).locals) ts)

  -- The first type among these.
  pub inner_kind : Settings → List (List ℕ × List ℕ) → ℕ → Roses ItemLabel → Made Kind
  inner_kind said scope n rose.none = made (NamedKind (Other no_name)) []
  inner_kind said scope n (rose.more t ts) =
      first_kind (simple_type scope t) (complex_type said scope n t) (inner_kind said scope (n + length (complex_type said scope n t).locals) ts)

  -- The complex type that the element defines.
  pub complex_type : Settings → List (List ℕ × List ℕ) → ℕ → Rose ItemLabel → Made (Option Complex)
  complex_type said outer n (node (Text text at) kids) = made None []
  complex_type said outer n (node (Element name attributes declares at) kids) =
      if is_named (codes "complexType") (Element name attributes declares at)
      then made_some (complex_of said at (is_true (codes "mixed") (own_attributes attributes)) (declares ++ outer) (list_of kids)
      (group_among said (declares ++ outer) n kids))
      else made None []

-- ---- values of the code

-- The value is that of the part, and its local declarations follow those before.
pub record Makes {A : Type 0} (before after : List RawLocal) (value : A) (m : Made A) : Type 0 where
  pub value_is : value ≡ m.value
  pub locals_are : map local_of after ≡ map local_of before ++ m.locals
