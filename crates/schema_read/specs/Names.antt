-- Names and references of components (XML Schema Part 1, sections 2.5 and 3.15.3).
use Rattle.std.specs.Prelude.{ℕ, List, [], codes, Option, Some, None}
use Rattle.base_texts.specs.declared.texts.Name.{Name}
use Rattle.schema_components.specs.declared.simple_definitions.RawRef.{RawRef}
use Rattle.schema_components.specs.declared.simple_definitions.RawRef.TheVariants.{Builtin, Other}
use Rattle.base_texts.specs.Entries.{beside}
use Rattle.schema_syntax.specs.References.{TypeName, Known, LeftOut, Elsewhere, type_name, resolved}

-- The value instead of a name that every schema has. It occurs only in a document with a fault.
abbrev pub no_name : Name
no_name = record { space = []; local = [] }

abbrev pub ref_to : Option TypeName → RawRef
ref_to (Some (Known datatype)) = Builtin datatype
ref_to (Some (Elsewhere name)) = Other name
ref_to (Some (LeftOut reason)) = Other no_name
ref_to None = Other no_name

-- The type that the text names.
abbrev pub type_ref : List (List ℕ × List ℕ) → List ℕ → RawRef
type_ref scope text = ref_to (type_name scope text)

abbrev pub or_no_name : Option Name → Name
or_no_name (Some name) = name
or_no_name None = no_name

-- The component that the text refers to.
abbrev pub referred : List (List ℕ × List ℕ) → List ℕ → Name
referred scope text = or_no_name (resolved scope text)

abbrev pub value_or_empty : List ℕ → List (List ℕ × List ℕ) → List ℕ
value_or_empty name own = elim (beside name own) [ None ↦ [] | Some value ↦ value ]

-- The name that a declaration has in this namespace.
abbrev pub declared_name : List ℕ → List (List ℕ × List ℕ) → Name
declared_name space own = record { space = space; local = value_or_empty (codes "name") own }
