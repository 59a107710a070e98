-- Assignments that are made one after another.
use Rattle.std.proofs.Common.{◌≡◌, ℕ, ◌+◌, ◌<◌, ◌≤◌, List, [], ◌∷◌, ◌++◌, length, drop, get_or, sym, ap, subst, ◌∙◌, append_assoc}
use Rattle.std.proofs.lemmas.List.{append-nil, drop_all, map-append}
use Rattle.asn_types.specs.declared.modules.Assignment.{Assignment}
use Rattle.schema_components.specs.Components.{Set}
use Rattle.map_subjects.specs.declared.subjects.Subject.{Subject}
use Rattle.map_subjects.specs.declared.subjects.NamedSubject.{NamedSubject}
use Rattle.map_assignments.specs.Mapped.{IsMapped, AreMapped}
use Rattle.map_assignments.specs.Private.Placing.{references_of}
use Rattle.map_subjects.proofs.Finding.{drop-next}

pub references-push : (made : List Assignment) (a : Assignment) → references_of (made ++ a ∷ []) ≡ references_of made ++ a.reference ∷ []
references-push made a = map-append (λ (x : Assignment). x.reference) made (a ∷ [])

module _ (place : Subject → ℕ) (s : Set) where
  -- Whatever assignments follow, with those made so far they are those of all.
  abbrev pub LeadsToMapped : List Assignment → List NamedSubject → List NamedSubject → Type 0
  LeadsToMapped made rest whole = (others : List Assignment) → AreMapped place s (references_of made) rest others → AreMapped place s [] whole (made ++ others)

  pub mapped-next : (made after : List Assignment) (entries : List NamedSubject) (i : ℕ) (e : NamedSubject) (a : Assignment) → i < length entries → e ≡ get_or entries i e
      → IsMapped place s (references_of made) e a → after ≡ made ++ a ∷ []
      → LeadsToMapped made (drop i entries) entries → LeadsToMapped after (drop (i + 1) entries) entries
  mapped-next made after entries i e a at here mapped is so_far others rest =
      let next = subst (λ rs. AreMapped place s rs (drop (i + 1) entries) others) (ap references_of is ∙ references-push made a) rest in
      let all = so_far (a ∷ others) (subst (λ es. AreMapped place s (references_of made) es (a ∷ others)) (sym (drop-next entries i e at here)) (mapped, next)) in
      subst (AreMapped place s [] entries) (sym (append_assoc made (a ∷ []) others) ∙ ap (λ m. m ++ others) (sym is)) all

  pub mapped-end : (made : List Assignment) (entries : List NamedSubject) (i : ℕ) → length entries ≤ i → LeadsToMapped made (drop i entries) entries
      → AreMapped place s [] entries made
  mapped-end made entries i past so_far =
      subst (AreMapped place s [] entries) (append-nil made)
      (so_far [] (subst (λ es. AreMapped place s (references_of made) es []) (sym (drop_all i entries past)) tt))
