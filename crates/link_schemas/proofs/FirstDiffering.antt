-- It can be told of each element particle whether one before it has another type, and of each particle whether it breaks
-- a rule of clear content models.
use Rattle.std.proofs.Common.{◌≡◌, ℕ, true, false, inl, inr, List, [], ◌∷◌, refl, sym, ◌∙◌, subst, Option, Some, None}
use Rattle.std.specs.Prelude.{MatchOption}
use Rattle.std.proofs.lemmas.Bool.{cases_Bool, true≢false}
use Rattle.base_texts.specs.declared.texts.Name.{Name}
use Rattle.base_trees.specs.Rose.{Rose}
use Rattle.content_models.specs.Breaches.{all_placed, IsFirstBreach}
use Rattle.content_models.specs.Clear.{Clear}
use Rattle.content_models.specs.Private.Deciding.{breach_of}
use Rattle.content_models.specs.Seen.{seen}
use Rattle.content_models.specs.declared.breaches.Breach.{Breach}
use Rattle.content_models.specs.declared.particles.ParticleLabel.{ParticleLabel}
use Rattle.content_models.proofs.Telling.{decides_clear}
use Rattle.schema_components.specs.Raw.{Document}
use Rattle.link_names.specs.declared.faults.LinkWhy.TheVariants.{NotClear, TypesDiffer}
use Rattle.link_names.specs.Order.{place, fault, is_before}
use Rattle.link_complex.specs.ComplexTypes.{ComplexDefinition, complex_types, of_document, model_of}
use Rattle.link_complex.specs.Content.{BreaksIn, IsUnclearType, IsUnclear}
use Rattle.link_complex.specs.ElementTypes.{TypeIdentity, TypedParticle, typed_particles, typed_elements, type_named, type_at, IsOtherAt, HasOtherOf, DiffersIn, Differs}
use Rattle.base_texts.specs.Lists.{HasItem}
use Rattle.link_complex.proofs.Clearing.{some_answered, none_answered}
use Rattle.link_schemas.proofs.SameTypes.{Told, same_name, same_kind}
use Rattle.link_schemas.proofs.Firsts.{SomeFirst, some_of_none, some_of_one, some_of_all}

-- whether one of another type stands before a particle

abbrev IsOtherOf : List TypedParticle → TypedParticle → Type 0
IsOtherOf qs p = (q : TypedParticle) × HasItem qs q × (q.name ≡ p.name) × (is_before q.place p.place ≡ true) × (q.kind ≡ p.kind → ⊥)

abbrev OtherOne : TypedParticle → TypedParticle → Type 0
OtherOne q p = (q.name ≡ p.name) × (is_before q.place p.place ≡ true) × (q.kind ≡ p.kind → ⊥)

other_one : (q p : TypedParticle) → Told (OtherOne q p)
other_one q p = elim (same_name q.name p.name) [
  | inr apart ↦ inr (λ h. apart h.0)
  | inl name ↦ elim (cases_Bool (is_before q.place p.place)) [
    | inr behind ↦ inr (λ h. true≢false (sym h.1 ∙ behind))
    | inl before ↦ elim (same_kind q.kind p.kind) [
      | inl same ↦ inr (λ h. h.2 same)
      | inr apart ↦ inl (name, before, apart)
    ]
  ]
]

other_of : (qs : List TypedParticle) (p : TypedParticle) → Told (IsOtherOf qs p)
other_of [] p = inr (λ h. h.1)
other_of (q ∷ qs) p = elim (other_of qs p) [
  | inl h ↦ inl (h.0, inr h.1, h.2, h.3, h.4)
  | inr none ↦ elim (other_one q p) [
    | inl h ↦ inl (q, inl refl, h.0, h.1, h.2)
    | inr alike ↦ inr (λ h. elim h.1 [
      | inl e ↦ alike (subst (λ x. OtherOne x p) (sym e) (h.2, h.3, h.4))
      | inr k ↦ none (h.0, k, h.2, h.3, h.4)
    ])
  ]
]

other_at : (ps : List TypedParticle) (p : TypedParticle) → SomeFirst (IsOtherAt ps p)
other_at ps p = elim (other_of ps p) [
  | inl other ↦ some_of_one (IsOtherAt ps p) (fault TypesDiffer p.place) (refl, other) (λ f h. sym h.0)
  | inr none ↦ some_of_none (IsOtherAt ps p) (λ f h. none h.1)
]

other_in : (types : ℕ → Option TypeIdentity) (c : ComplexDefinition) → SomeFirst (HasOtherOf types c)
other_in types c = let ps = typed_particles types c in some_of_all (IsOtherAt ps) (other_at ps) ps

pub some_differing : (docs : List Document) → SomeFirst (Differs docs)
some_differing docs =
    let types = type_named (typed_elements docs) in
    some_of_all (DiffersIn types) (λ d. some_of_all (HasOtherOf (type_at types d)) (other_in (type_at types d)) (of_document d)) docs

-- whether a content model is clear

breach_in : (model : Rose ParticleLabel) (o : Option Breach) → MatchOption o (Clear (seen model) []) (λ b. (Clear (seen model) [] → ⊥) × IsFirstBreach (all_placed model []) b)
    → SomeFirst (BreaksIn (Some model))
breach_in model None h = (None, none_answered model None h refl)
breach_in model (Some b) h = (Some (fault NotClear (place b.file b.at)), some_answered model (Some b) b h refl)

unclear_in : (model : Option (Rose ParticleLabel)) → SomeFirst (BreaksIn model)
unclear_in None = some_of_none (BreaksIn None) (λ f h. h)
unclear_in (Some model) =
    let o = breach_of false model (λ (a : Name). false) in
    breach_in model o (decides_clear model (λ (a : Name). false) (λ a. refl) o refl)

pub some_unclear : (docs : List Document) → SomeFirst (IsUnclear docs)
some_unclear docs = some_of_all IsUnclearType (λ c. unclear_in (model_of c.body.content)) (complex_types docs)
