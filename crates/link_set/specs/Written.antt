-- The components of several documents, each kind in the order of its numbers (XML Schema Part 1, section 2.2): by files
-- and places. A document lists its elements, its attributes and its local declarations in the order of places.
use Rattle.std.specs.Prelude.{ℕ, Bool, List, [], ◌∷◌, map}
use Rattle.std.specs.List.{flat_map}
use Rattle.simple_types.specs.declared.simples.Builtin.{Builtin}
use Rattle.schema_components.specs.Raw.{Element, Local, Reference, Own, Attribute, Document}
use Rattle.link_names.specs.Order.{is_before}
use Rattle.link_names.specs.SimpleTypes.{SimpleDefinition, simple_types}
use Rattle.link_complex.specs.ComplexTypes.{ComplexDefinition, complex_types}
use Rattle.link_set.specs.NamedBuiltins.{named_builtins}
use Rattle.link_set.specs.Ordered.{in_order}

-- An element declaration, and the number of the file in which it was written.
pub record WrittenElement : Type 0 where
  pub file : ℕ
  pub element : Element

pub record WrittenAttribute : Type 0 where
  pub file : ℕ
  pub attribute : Attribute

abbrev pub written_element : ℕ → Element → WrittenElement
written_element file e = record { file = file; element = e }

abbrev pub written_attribute : ℕ → Attribute → WrittenAttribute
written_attribute file a = record { file = file; attribute = a }

-- The element that a local declaration declares. A reference declares none.
abbrev pub declared_by : ℕ → Local → List WrittenElement
declared_by file (Reference name at) = []
declared_by file (Own e) = written_element file e ∷ []

abbrev pub global_elements : List Document → List WrittenElement
global_elements docs = flat_map (λ d. map (written_element d.file) d.elements) docs

abbrev pub local_elements : List Document → List WrittenElement
local_elements docs = flat_map (λ d. flat_map (declared_by d.file) d.locals) docs

abbrev pub global_attributes : List Document → List WrittenAttribute
global_attributes docs = flat_map (λ d. map (written_attribute d.file) d.attributes) docs

abbrev pub simple_before : SimpleDefinition → SimpleDefinition → Bool
simple_before a b = is_before a.place b.place

abbrev pub complex_before : ComplexDefinition → ComplexDefinition → Bool
complex_before a b = is_before a.place b.place

abbrev pub simples_in_order : List Document → List SimpleDefinition
simples_in_order docs = in_order simple_before (simple_types docs)

abbrev pub complexes_in_order : List Document → List ComplexDefinition
complexes_in_order docs = in_order complex_before (complex_types docs)

-- The components of each kind, in the order of their numbers, and the built-in types that they name.
pub record Lists : Type 0 where
  pub globals : List WrittenElement
  pub locals : List WrittenElement
  pub attributes : List WrittenAttribute
  pub simples : List SimpleDefinition
  pub complexes : List ComplexDefinition
  pub named : List Builtin

abbrev pub lists_of : List Document → Lists
lists_of docs =
    record {
      globals = global_elements docs;
      locals = local_elements docs;
      attributes = global_attributes docs;
      simples = simples_in_order docs;
      complexes = complexes_in_order docs;
      named = named_builtins docs;
    }
