-- The first breach of a content model as a fault.
use Rattle.std.proofs.Common.{◌≡◌, arith, inl, inr, List, [], Option, Some, None, refl, ap, ap₂, subst, ◌∷◌}
use Rattle.std.specs.Prelude.{MatchOption}
use Rattle.std.specs.List.{All}
use Rattle.std.proofs.lemmas.List.Elements.{All-nil, All-cons, All-contains}
use Rattle.base_trees.specs.Rose.{Rose}
use Rattle.content_models.specs.Breaches.{Placed, all_placed, KeepsRules, Breaks, StandsFrom, IsFirstBreach}
use Rattle.content_models.specs.Clear.{Clear}
use Rattle.content_models.specs.Seen.{seen}
use Rattle.content_models.specs.declared.breaches.Breach.{Breach}
use Rattle.content_models.specs.declared.particles.ParticleLabel.{ParticleLabel}
use Rattle.content_models.proofs.Telling.{kept_clear, KeepAll}
use Rattle.link_names.specs.declared.places.Place.{Place}
use Rattle.link_names.specs.declared.faults.LinkingFault.{LinkingFault}
use Rattle.link_names.specs.declared.faults.LinkWhy.TheVariants.{NotClear}
use Rattle.link_names.specs.Order.{place, fault, rank_of, IsFirstSuch}
use Rattle.link_names.proofs.Firsts.{Earlier, not_earlier}
use Rattle.link_complex.specs.Content.{BreaksIn}

kept_all : (ps : List Placed) → KeepAll ps → All KeepsRules ps
kept_all [] k = All-nil KeepsRules
kept_all (p ∷ ps) k = All-cons KeepsRules p ps k.0 (kept_all ps k.1)

-- a content model that is clear has no such fault
none_breaks : (m : Rose ParticleLabel) → Clear (seen m) [] → (f : LinkingFault) → BreaksIn (Some m) f → ⊥
none_breaks m clear f b =
    let a = b.1 in
    a.4.0 (All-contains KeepsRules (all_placed m []) a.1 (kept_all (all_placed m []) (kept_clear m [] clear)) (a.0, a.2, a.3))

-- what stands from a place on doesn't stand before it
not_before : (g : LinkingFault) (l : ParticleLabel) (b : Breach) → g.place.file ≡ l.file → g.place.at ≡ l.at → rank_of g.why ≡ 16 → StandsFrom l b
    → Earlier g (fault NotClear (place b.file b.at)) → ⊥
not_before g l b file at rank (inl s) (inl e) = omega (arith, file, s, e)
not_before g l b file at rank (inl s) (inr (inl e)) = let d = e.0 in omega (arith, file, s, d)
not_before g l b file at rank (inl s) (inr (inr e)) = let d = e.0 in omega (arith, file, s, d)
not_before g l b file at rank (inr s) (inl e) = let d = s.0 in omega (arith, file, d, e)
not_before g l b file at rank (inr s) (inr (inl e)) = let d = s.1 in let t = e.1 in omega (arith, at, d, t)
not_before g l b file at rank (inr s) (inr (inr e)) = let t = e.2 in omega (arith, rank, t)

one_breaks : (m : Rose ParticleLabel) (b : Breach) → IsFirstBreach (all_placed m []) b
    → IsFirstSuch (BreaksIn (Some m)) (Some (fault NotClear (place b.file b.at)))
one_breaks m b h =
    let a = h.breaks in (
      (refl, (a.0, a.1, a.2, a.3, (a.4.0, ap₂ place a.4.1.0 a.4.1.1))),
      λ g r.
          let c = r.1 in
          let from : StandsFrom c.1.label b = All-contains (λ (p : Placed). Breaks p → StandsFrom p.label b) (all_placed m []) c.1 h.least (c.0, c.2, c.3) c.4.0 in
          not_earlier g (fault NotClear (place b.file b.at))
          (not_before g c.1.label b (ap (λ (p : Place). p.file) c.4.1) (ap (λ (p : Place). p.at) c.4.1) (ap rank_of r.0) from),
    )

-- what the search for the first breach tells

abbrev pub Answered : Rose ParticleLabel → Option Breach → Type 0
Answered m o = MatchOption o (Clear (seen m) []) (λ b. (Clear (seen m) [] → ⊥) × IsFirstBreach (all_placed m []) b)

pub some_answered : (m : Rose ParticleLabel) (o : Option Breach) (b : Breach) → Answered m o → o ≡ Some b
    → IsFirstSuch (BreaksIn (Some m)) (Some (fault NotClear (place b.file b.at)))
some_answered m o b h is = let at : Answered m (Some b) = subst (Answered m) is h in one_breaks m b at.1

pub none_answered : (m : Rose ParticleLabel) (o : Option Breach) → Answered m o → o ≡ None → IsFirstSuch (BreaksIn (Some m)) None
none_answered m o h is = none_breaks m (subst (Answered m) is h)
