-- Where assignments stand, and that their references differ.
use Rattle.std.proofs.Common.{◌≡◌, ℕ, zero, suc, ◌<◌, Bool, true, false, Some, List, [], ◌∷◌, ◌++◌, length, map, All, Contains, inl, inr, true≢false, refl, sym, ap, subst, ◌∙◌, arith}
use Rattle.std.specs.Prelude.{slice_get, bytes_eq}
use Rattle.std.specs.Option.{option_map}
use Rattle.std.specs.List.{IsDistinct}
use Rattle.std.proofs.lemmas.Option.{slice_get_within}
use Rattle.std.proofs.lemmas.Slice.Eq.{bytes_eq-Decides}
use Rattle.std.proofs.lemmas.List.Elements.{All-nil, All-cons, All-weaker, recursion_from_All, Contains-append_cases, Contains-append_left, Contains-push}
use Rattle.std.proofs.lemmas.Map.Keys.{IsDistinct-cons}
use Rattle.base_texts.specs.declared.texts.Name.{Name}
use Rattle.base_trees.specs.Rose.{Rose}
use Rattle.asn_names.specs.declared.conversion.NameKind.TheVariants.{Reference}
use Rattle.asn_names.specs.Taking.{IsTaken}
use Rattle.asn_types.specs.declared.types.TypeLabel.{TypeLabel}
use Rattle.asn_types.specs.declared.modules.Assignment.{Assignment}
use Rattle.asn_types.specs.Refs.{body_at}
use Rattle.schema_components.specs.Components.{Set}
use Rattle.map_subjects.specs.declared.subjects.Subject.{Subject}
use Rattle.map_subjects.specs.declared.subjects.NamedSubject.{NamedSubject}
use Rattle.map_subjects.specs.Subjects.{same_subject, place_in, AreEntries}
use Rattle.map_subjects.specs.Private.Collecting.{entry_with}
use Rattle.map_subjects.proofs.Earlier.{same-subject, self-same}
use Rattle.map_assignments.specs.Planning.{body}
use Rattle.map_assignments.specs.Naming.{IsNamed}
use Rattle.map_assignments.specs.Mapped.{wanted_reference, AreMapped}
use Rattle.map_assignments.proofs.Shapes.{HasName}

-- what is taken wasn't taken before
taken-apart : (before : List (List ℕ)) (name given : List ℕ) → IsTaken Reference before name given → Contains before given → ⊥
taken-apart before name given (inl (free, is)) has = free.0 (subst (Contains before) is has)
taken-apart before name given (inr (_, n, least, is)) has = least.free.0 (subst (Contains before) is has)

abbrev references : List Assignment → List (List ℕ)
references M = map (λ (a : Assignment). a.reference) M

module _ (place : Subject → ℕ) (s : Set) where
  pub mapped-length : (before : List (List ℕ)) (es : List NamedSubject) (made : List Assignment) → AreMapped place s before es made → length made ≡ length es
  mapped-length before [] [] h = refl
  mapped-length before [] (a ∷ made) h = absurd h
  mapped-length before (e ∷ es) [] h = absurd h
  mapped-length before (e ∷ es) (a ∷ made) h = ap suc (mapped-length (before ++ a.reference ∷ []) es made h.1)

  further : (before : List (List ℕ)) (r : List ℕ) (x : List ℕ) → (Contains (before ++ r ∷ []) x → ⊥) → bytes_eq r x ≡ false
  further before r x lacks = by (bytes_eq r x) refl
    where
      by : (b : Bool) → bytes_eq r x ≡ b → bytes_eq r x ≡ false
      by true e = absurd (lacks (subst (Contains (before ++ r ∷ [])) ((bytes_eq-Decides r x).0 e) (Contains-push before r)))
      by false e = e

  mapped-apart : (before : List (List ℕ)) (es : List NamedSubject) (made : List Assignment) → AreMapped place s before es made
      → IsDistinct bytes_eq (references made) × All (λ r. Contains before r → ⊥) (references made)
  unfolding IsDistinct
  mapped-apart before [] [] h = (tt, All-nil (λ r. Contains before r → ⊥))
  mapped-apart before [] (a ∷ made) h = absurd h
  mapped-apart before (e ∷ es) [] h = absurd h
  mapped-apart before (e ∷ es) (a ∷ made) h =
      let rest = mapped-apart (before ++ a.reference ∷ []) es made h.1 in
      let others = references made in (
        IsDistinct-cons bytes_eq a.reference others
            (recursion_from_All (λ x. bytes_eq a.reference x ≡ false) others
            (All-weaker (λ r. Contains (before ++ a.reference ∷ []) r → ⊥) (λ x. bytes_eq a.reference x ≡ false) (λ x lacks. further before a.reference x lacks) others rest.1))
            rest.0,
        All-cons (λ r. Contains before r → ⊥) a.reference others (taken-apart before (wanted_reference place before e.subject e.name) a.reference h.0.reference)
            (All-weaker (λ r. Contains (before ++ a.reference ∷ []) r → ⊥) (λ r. Contains before r → ⊥) (λ r lacks has. lacks (Contains-append_left before (a.reference ∷ []) r has)) others rest.1),
      )

  pub references-differ : (es : List NamedSubject) (made : List Assignment) → AreMapped place s [] es made → IsDistinct bytes_eq (references made)
  references-differ es made h = (mapped-apart [] es made h).0

  -- the assignment of a component
  abbrev pub IsAt : List NamedSubject → List Assignment → Subject → Type 0
  IsAt es made w = (a : Assignment) × (slice_get made (place_in es w) ≡ Some a) × IsNamed place (body s w) a.body

  only : (x z : NamedSubject) → Contains (x ∷ []) z → x ≡ z
  only x z (zero, below, is) = is
  only x z (suc k, below, is) = absurd (omega (arith, below))

  pub mapped-at : (before : List (List ℕ)) (es : List NamedSubject) (made : List Assignment) (w : Subject) (name : Name) → AreMapped place s before es made → Contains es (entry_with w name)
      → IsAt es made w
  mapped-at before [] [] w name h has = absurd (omega (arith, has.1))
  mapped-at before [] (a ∷ made) w name h has = absurd h
  mapped-at before (e ∷ es) [] w name h has = absurd h
  mapped-at before (e ∷ es) (a ∷ made) w name h has = by (same_subject e.subject w) refl (λ inside. mapped-at (before ++ a.reference ∷ []) es made w name h.1 inside)
    where
      by : (b : Bool) → same_subject e.subject w ≡ b → (Contains es (entry_with w name) → IsAt es made w) → IsAt (e ∷ es) (a ∷ made) w
      by true f rest = (
        a,
        ap (λ b. slice_get (a ∷ made) (elim b [ true ↦ 0 | false ↦ suc (place_in es w) ])) f,
        subst (λ v. IsNamed place (body s v) a.body) (same-subject e.subject w f) h.0.body,
      )
      by false f rest = elim (Contains-append_cases (e ∷ []) es (entry_with w name) has) [
        | inl first ↦ absurd (true≢false (sym (subst (λ (x : NamedSubject). same_subject x.subject w ≡ true) (sym (only e (entry_with w name) first)) (self-same w)) ∙ f))
        | inr inside ↦
            let found = rest inside in
            (found.0, ap (λ b. slice_get (a ∷ made) (elim b [ true ↦ 0 | false ↦ suc (place_in es w) ])) f ∙ found.1, found.2)
      ]

-- where each component has its assignment, in a whole map
module _ (s : Set) (es : List NamedSubject) (M : List Assignment) (entries : AreEntries s es) (mapped : AreMapped (place_in es) s [] es M) where
  pub located : (w : Subject) → HasName s w → (u : Rose TypeLabel) × (body_at M (place_in es w) ≡ Some u) × IsNamed (place_in es) (body s w) u
  located w named =
      let found = mapped-at (place_in es) s [] es M w named.0 mapped ((entries.whole w named.0).1 named.1) in
      (found.0.body, ap (option_map (λ (a : Assignment). a.body)) found.1, found.2)

  pub located-within : (w : Subject) → HasName s w → place_in es w < length M
  located-within w named =
      let found = mapped-at (place_in es) s [] es M w named.0 mapped ((entries.whole w named.0).1 named.1) in
      slice_get_within M (place_in es w) found.0 found.1
