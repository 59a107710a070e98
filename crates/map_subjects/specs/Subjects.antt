-- The components that have assignments in the module, and the order of the assignments.
use Rattle.std.specs.Prelude.{◌≡◌, ◌↔◌, ◌&&◌, ◌<◌, ℕ, suc, Bool, true, false, List, [], ◌∷◌, Option, Some, None, option_and_then, length, slice_get, take, cond, nat_eq}
use Rattle.std.specs.List.{list_any, Contains}
use Rattle.std.specs.List.Sorted.{IsStrictlySortedBy}
use Rattle.std.specs.Option.{option_map}
use Rattle.std.specs.Ordering.{nat_cmp, ordering_then}
use Rattle.std.specs.Cmp.Lexicographic.{slice_cmp}
use Rattle.std.specs.declared.cmp.Ordering.{Ordering}
use Rattle.base_texts.specs.declared.texts.Name.{Name}
use Rattle.schema_components.specs.declared.components.ElementDecl.{ElementDecl}
use Rattle.schema_components.specs.declared.components.TypeOf.TheVariants as kind
use Rattle.schema_components.specs.Components.{Set}
use Rattle.map_subjects.specs.declared.subjects.Subject.{Subject}
use Rattle.map_subjects.specs.declared.subjects.NamedSubject.{NamedSubject}
use Rattle.map_subjects.specs.declared.subjects.Subject.TheVariants.{Element, Attribute, Simple, Complex, Nillable}

-- Some nillable element, global or local, has the complex type.
abbrev pub is_nillable_of : ℕ → ElementDecl → Bool
is_nillable_of n e = e.nillable && elim e.kind [ kind.Simple m ↦ false | kind.Complex m ↦ nat_eq m n ]

abbrev pub has_nillable : Set → ℕ → Bool
has_nillable s n = list_any (is_nillable_of n) s.elements

abbrev pub simple_name : Set → ℕ → Option Name
simple_name s n = option_and_then (λ t. t.name) (slice_get s.simples n)

abbrev pub complex_name : Set → ℕ → Option Name
complex_name s n = option_and_then (λ c. c.name) (slice_get s.complexes n)

-- The name of a component that has an assignment; none if there is no such component, or if it has no assignment.
abbrev pub name_of : Set → Subject → Option Name
name_of s (Element d) = option_map (λ e. e.name) (slice_get (take s.globals s.elements) d)
name_of s (Attribute n) = option_map (λ a. a.name) (slice_get s.attributes n)
name_of s (Simple n) = simple_name s n
name_of s (Complex n) = complex_name s n
name_of s (Nillable n) = cond (has_nillable s n) (complex_name s n) None

-- There is such a component.
abbrev pub IsSubject : Set → Subject → Type 0
IsSubject s (Element n) = n < s.globals
IsSubject s (Attribute n) = n < length s.attributes
IsSubject s (Simple n) = n < length s.simples
IsSubject s (Complex n) = n < length s.complexes
IsSubject s (Nillable n) = n < length s.complexes

-- In one namespace elements are first, then attributes, types, and types of nillable elements.
abbrev pub rank : Subject → ℕ
rank (Element d) = 0
rank (Attribute n) = 1
rank (Simple n) = 2
rank (Complex n) = 2
rank (Nillable n) = 3

-- The order is by namespace, in one namespace by rank, and in one rank by local name.
abbrev pub order_of : ℕ → Name → ℕ → Name → Ordering
order_of i a j b =
    ordering_then (slice_cmp nat_cmp a.space b.space) (ordering_then (nat_cmp i j) (slice_cmp nat_cmp a.local b.local))

abbrev pub entry_cmp : NamedSubject → NamedSubject → Ordering
entry_cmp a b = order_of (rank a.subject) a.name (rank b.subject) b.name

-- These are the assignments of the module in their order: each component that has a name of its own appears once.
pub record AreEntries (s : Set) (es : List NamedSubject) : Type 0 where
  pub ascending : IsStrictlySortedBy entry_cmp es
  pub whole : (w : Subject) (name : Name) → Contains es (record { subject = w; name = name }) ↔ (name_of s w ≡ Some name)

abbrev pub same_subject : Subject → Subject → Bool
same_subject (Element m) (Element n) = nat_eq m n
same_subject (Attribute m) (Attribute n) = nat_eq m n
same_subject (Simple m) (Simple n) = nat_eq m n
same_subject (Complex m) (Complex n) = nat_eq m n
same_subject (Nillable m) (Nillable n) = nat_eq m n
same_subject _ _ = false

-- The number of the assignment: how many precede it.
abbrev pub place_in : List NamedSubject → Subject → ℕ
place_in [] w = 0
place_in (e ∷ es) w = elim (same_subject e.subject w) [ true ↦ 0 | false ↦ suc (place_in es w) ]
