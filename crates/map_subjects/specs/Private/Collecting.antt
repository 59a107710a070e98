-- How the components that have assignments are collected, kind by kind; for private contracts.
use Rattle.std.specs.Prelude.{ℕ, zero, suc, ◌<◌, Bool, false, List, [], ◌∷◌, ◌++◌, Option, Some, None, length, slice_get, unwrap_or}
use Rattle.std.specs.List.{count_by}
use Rattle.std.specs.Ordering.{is_lt}
use Rattle.base_texts.specs.declared.texts.Name.{Name}
use Rattle.schema_components.specs.declared.components.TypeOf.{TypeOf}
use Rattle.schema_components.specs.declared.components.TypeOf.TheVariants as kind
use Rattle.schema_components.specs.Components.{Set}
use Rattle.map_subjects.specs.declared.subjects.Subject.{Subject}
use Rattle.map_subjects.specs.declared.subjects.Subject.TheVariants.{Element, Attribute, Simple, Complex, Nillable}
use Rattle.map_subjects.specs.declared.subjects.NamedSubject.{NamedSubject}
use Rattle.map_subjects.specs.Subjects.{name_of, rank, order_of}

abbrev pub entry_with : Subject → Name → NamedSubject
entry_with w name = record { subject = w; name = name }

-- The entry of a component, if it has a name.
abbrev pub entries_with : Subject → Option Name → List NamedSubject
entries_with w None = []
entries_with w (Some name) = entry_with w name ∷ []

abbrev pub entries_of : Set → Subject → List NamedSubject
entries_of s w = entries_with w (name_of s w)

-- The entries of the first n components of a kind.
abbrev pub firsts : Set → (ℕ → Subject) → ℕ → List NamedSubject
firsts s of_kind zero = []
firsts s of_kind (suc n) = firsts s of_kind n ++ entries_of s (of_kind n)

abbrev pub element_entries : Set → List NamedSubject
element_entries s = firsts s Element s.globals

abbrev pub attribute_entries : Set → List NamedSubject
attribute_entries s = firsts s Attribute (length s.attributes)

abbrev pub simple_entries : Set → List NamedSubject
simple_entries s = firsts s Simple (length s.simples)

abbrev pub complex_entries : Set → List NamedSubject
complex_entries s = firsts s Complex (length s.complexes)

abbrev pub nillable_entries : Set → List NamedSubject
nillable_entries s = firsts s Nillable (length s.complexes)

abbrev pub declaration_entries : Set → List NamedSubject
declaration_entries s = element_entries s ++ attribute_entries s

abbrev pub type_entries : Set → List NamedSubject
type_entries s = (simple_entries s ++ complex_entries s) ++ nillable_entries s

-- The entries of all components, in the order of their kinds and numbers.
abbrev pub collected : Set → List NamedSubject
collected s = declaration_entries s ++ type_entries s

-- ---- marks of complex types by their numbers

abbrev pub is_marked : List Bool → ℕ → Bool
is_marked marks n = unwrap_or (slice_get marks n) false

-- If the type is complex, there is a mark for it.
abbrev pub HasMark : ℕ → TypeOf → Type 0
HasMark count (kind.Simple n) = Unit {0}
HasMark count (kind.Complex n) = n < count

-- ---- the entries that precede a global element of this name

abbrev pub is_before : Name → NamedSubject → Bool
is_before name e = is_lt (order_of (rank e.subject) e.name 0 name)

abbrev pub count_before : Name → List NamedSubject → ℕ
count_before name es = count_by (is_before name) es
