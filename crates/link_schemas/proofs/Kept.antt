-- What documents without a fault keep, each and together.
use Rattle.std.proofs.Common.{◌≡◌, ℕ, ◌+◌, ◌<◌, ◌≤◌, arith, true, inl, inr, List, [], ◌∷◌, length, map, refl, subst}
use Rattle.std.specs.List.{sum_by}
use Rattle.std.proofs.lemmas.Bool.{cases_eq}
use Rattle.std.proofs.lemmas.List.Sums.{sum_by-cons}
use Rattle.base_texts.specs.Lists.{HasItem}
use Rattle.schema_components.specs.Bounds.{all_fit, ascend}
use Rattle.schema_components.specs.Chains.{AreShort}
use Rattle.schema_components.specs.Coherent.{IsCoherent}
use Rattle.schema_components.specs.DeclaredNames.{all_named}
use Rattle.schema_components.specs.Documents.{doc_of}
use Rattle.schema_components.specs.Inward.{all_inward}
use Rattle.schema_components.specs.Places.{all_ascend, places_in, StandAmong}
use Rattle.schema_components.specs.Raw.{Document}
use Rattle.schema_components.specs.TypedUses.{AreTyped}
use Rattle.schema_components.specs.declared.documents.RawDoc.{RawDoc}
use Rattle.schema_components.proofs.TypedUses.{typed}
use Rattle.link_names.specs.declared.faults.LinkingFault.{LinkingFault}
use Rattle.link_names.specs.Globals.{duplicates}
use Rattle.link_names.specs.Limits.{counted_places}
use Rattle.link_names.specs.Resolution.{unresolved}
use Rattle.link_complex.specs.Content.{IsUnclear}
use Rattle.link_complex.specs.ElementTypes.{Differs}
use Rattle.link_complex.specs.Uses.{double_uses}

pub record Keeps (d : Document) : Type 0 where
  pub fitting : all_fit d.elements d.types d.locals ≡ true
  pub ascending : ascend d.counted ≡ true
  pub named : all_named d.elements d.attributes d.types d.locals ≡ true
  pub ordered : all_ascend d.elements d.attributes d.types d.locals ≡ true
  pub all_counted : StandAmong (places_in d.elements d.attributes d.types d.locals) d.counted
  pub inward : all_inward d.elements d.attributes d.types d.locals ≡ true
  pub typed_uses : AreTyped d
  pub short : ∥ AreShort d.elements d.types d.locals ∥₁
  pub coherent : ∥ IsCoherent d ∥₁

keeps : (d : RawDoc) → Keeps (doc_of d)
keeps d = record {
  fitting = d.fitting;
  ascending = d.ascending;
  named = d.named;
  ordered = d.ordered;
  all_counted = d.all_counted;
  inward = d.inward;
  typed_uses = typed d;
  short = d.short;
  coherent = d.coherent;
}

pub each_keeps : (docs : List RawDoc) (d : Document) → HasItem (map doc_of docs) d → Keeps d
each_keeps [] d h = absurd h
each_keeps (r ∷ docs) d (inl same) = subst Keeps same (keeps r)
each_keeps (r ∷ docs) d (inr h) = each_keeps docs d h

-- the files behind this number have the next ones
abbrev pub NumberedFrom : ℕ → List Document → Type 0
NumberedFrom n [] = Unit {0}
NumberedFrom n (d ∷ docs) = (d.file ≡ n + 1) × NumberedFrom (n + 1) docs

pub record AreFaultless (docs : List Document) : Type 0 where
  pub few : length (counted_places docs) ≤ 10000
  pub apart : (f : LinkingFault) → HasItem (duplicates docs) f → ⊥
  pub resolved : (f : LinkingFault) → HasItem (unresolved docs) f → ⊥
  pub uses : (f : LinkingFault) → HasItem (double_uses docs) f → ⊥
  pub typed : (f : LinkingFault) → Differs docs f → ⊥
  pub clear : (f : LinkingFault) → IsUnclear docs f → ⊥
  pub numbered : NumberedFrom 0 docs
  pub kept : (d : Document) → HasItem docs d → Keeps d

pub file_behind : (n : ℕ) (docs : List Document) → NumberedFrom n docs → (d : Document) → HasItem docs d → n < d.file
file_behind n [] h d i = absurd i
file_behind n (x ∷ docs) h d (inl same) = let e = h.0 in subst (λ (y : Document). n < y.file) same (omega (arith, e))
file_behind n (x ∷ docs) h d (inr i) = let lt = file_behind (n + 1) docs h.1 d i in omega (arith, lt)

-- what only the document with one number has, and at most once, is there at most once
module _ (f : Document → ℕ) (k : ℕ) where
  none_behind : (n : ℕ) (docs : List Document) → NumberedFrom n docs → k ≤ n → ((d : Document) → HasItem docs d → (d.file ≡ k → ⊥) → f d ≡ 0) → sum_by f docs ≡ 0
  none_behind n [] h le none = refl
  none_behind n (d ∷ docs) h le none =
      let a = sum_by-cons f d docs in
      let e = h.0 in
      let here = none d (inl refl) (λ same. omega (arith, same, e, le)) in
      let rest = none_behind (n + 1) docs h.1 (omega (arith, le)) (λ x i. none x (inr i)) in
      omega (arith, a, here, rest)

  pub sum_once : (n : ℕ) (docs : List Document) → NumberedFrom n docs → ((d : Document) → HasItem docs d → f d ≤ 1)
      → ((d : Document) → HasItem docs d → (d.file ≡ k → ⊥) → f d ≡ 0) → sum_by f docs ≤ 1
  sum_once n [] h most none = omega arith
  sum_once n (d ∷ docs) h most none = elim (cases_eq d.file k) [
    | inl same ↦
        let a = sum_by-cons f d docs in
        let e = h.0 in
        let here = most d (inl refl) in
        let rest = none_behind (n + 1) docs h.1 (omega (arith, same, e)) (λ x i. none x (inr i)) in
        omega (arith, a, here, rest)
    | inr apart ↦
        let a = sum_by-cons f d docs in
        let here = none d (inl refl) apart in
        let rest = sum_once (n + 1) docs h.1 (λ x i. most x (inr i)) (λ x i. none x (inr i)) in
        omega (arith, a, here, rest)
  ]
