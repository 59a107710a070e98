-- The map of a linked set is a module.
use Rattle.std.proofs.Common.{◌≡◌, ℕ, ◌<◌, ◌^◌, true, List, [], ◌∷◌, ◌++◌, length, All, sym, subst}
use Rattle.std.proofs.lemmas.List.Elements.{All-nil, All-cons}
use Rattle.asn_types.specs.Marks.{has_attribute}
use Rattle.asn_types.specs.declared.modules.Assignment.{Assignment}
use Rattle.asn_types.specs.Modules.{IsAssignment, IsModule}
use Rattle.asn_types.specs.Refs.{resolve}
use Rattle.asn_types.specs.Simples.{IsSimple}
use Rattle.schema_components.specs.Components.{Set}
use Rattle.schema_components.specs.Linked.{IsLinked}
use Rattle.map_subjects.specs.declared.subjects.Subject.{Subject}
use Rattle.map_subjects.specs.declared.subjects.Subject.TheVariants as subject
use Rattle.map_subjects.specs.declared.subjects.NamedSubject.{NamedSubject}
use Rattle.map_subjects.specs.Subjects.{place_in, AreEntries}
use Rattle.map_assignments.specs.Planning.{body}
use Rattle.map_assignments.specs.Naming.{IsNamed}
use Rattle.map_assignments.specs.Mapped.{IsMapped, AreMapped, IsMapOf}
use Rattle.map_assignments.proofs.Allowed.{named-allowed}
use Rattle.map_assignments.proofs.Shapes.{HasName}
use Rattle.map_assignments.proofs.Marked.{assignment-attribute}
use Rattle.map_assignments.proofs.ModulePlaces.{mapped-length, references-differ, located-within}
use Rattle.map_assignments.proofs.Formed.{simple-part, named-formed}
use Rattle.map_assignments.proofs.Unnamed.{body-unnamed}
use Rattle.map_assignments.proofs.Bodies.{body-refers, body-plan, attribute-plan, body-simple}

module _ (s : Set) (es : List NamedSubject) (M : List Assignment) (linked : IsLinked s) (entries : AreEntries s es) (mapped : AreMapped (place_in es) s [] es M) where
  attribute-simple : (before : List (List ℕ)) (e : NamedSubject) (a : Assignment) → IsMapped (place_in es) s before e a → has_attribute a.marks ≡ true → IsSimple (resolve M a.body)
  attribute-simple before e a h marked =
      let is = assignment-attribute e.subject e.name a.reference (subst (λ ms. has_attribute ms ≡ true) h.marks marked) in
      let named : IsNamed (place_in es) (body s (subject.Attribute is.0)) a.body = subst (λ w. IsNamed (place_in es) (body s w) a.body) is.1 h.body in
      simple-part s es M entries mapped (body-plan s linked) (body-refers s) (body-simple s linked (place_in es)) (body s (subject.Attribute is.0)) a.body (attribute-plan s linked is.0) named

  is-assignment : (before : List (List ℕ)) (e : NamedSubject) (a : Assignment) → IsMapped (place_in es) s before e a → IsAssignment M a
  is-assignment before e a h = record {
    allowed = named-allowed (place_in es) (body s e.subject) a.body h.body;
    types = named-formed s es M entries mapped (body-plan s linked) (body-refers s) (body-simple s linked (place_in es)) (body s e.subject) a.body (body-plan s linked e.subject) h.body;
    attribute = attribute-simple before e a h;
    items = body-unnamed s (place_in es) e.subject a.body h.body;
  }

  all-assignments : (before : List (List ℕ)) (rest : List NamedSubject) (made : List Assignment) → AreMapped (place_in es) s before rest made → All (IsAssignment M) made
  all-assignments before [] [] h = All-nil (IsAssignment M)
  all-assignments before [] (a ∷ made) h = absurd h
  all-assignments before (e ∷ rest) [] h = absurd h
  all-assignments before (e ∷ rest) (a ∷ made) h =
      All-cons (IsAssignment M) a made (is-assignment before e a h.0) (all-assignments (before ++ a.reference ∷ []) rest made h.1)

  pub is-module : length es < 2 ^ 32 → IsModule M
  is-module few = record {
    counted = subst (λ n. n < 2 ^ 32) (sym (mapped-length (place_in es) s [] es M mapped)) few;
    distinct = references-differ (place_in es) s es M mapped;
    assignments = all-assignments [] es M mapped;
  }

-- a component with a name has its assignment in the map
pub root-within : (s : Set) (M : List Assignment) (map : IsMapOf s M) (w : Subject) → HasName s w → place_in map.entries w < length M
root-within s M map w named = located-within s map.entries M map.are_entries map.assignments w named
