-- Whether child elements come in any order, and which particle took the last name.
use Rattle.std.proofs.Common.{◌≡◌, ◌≤◌, ℕ, Bool, true, false, List, [], ◌∷◌, Some, refl, sym, ap, subst, ◌∙◌, arith}
use Rattle.base_trees.specs.Rose.{Rose, node, Roses, label_of, length_all, Allowed}
use Rattle.base_trees.specs.Rose as rose
use Rattle.content_models.specs.Clear.{IsNoAll}
use Rattle.content_models.specs.Kids.{KindMayHave, MayHave}
use Rattle.content_models.specs.Particle.{Particles, occurs, all}
use Rattle.content_models.specs.Seen.{seen, all_seen, term_seen}
use Rattle.content_models.specs.declared.particles.ParticleKind.{ParticleKind}
use Rattle.content_models.specs.declared.particles.ParticleKind.TheVariants.{Element, Sequence, Choice, All}
use Rattle.content_models.specs.declared.particles.ParticleLabel.{ParticleLabel}
use Rattle.content_models.specs.Spots.{at, among}
use Rattle.content_match.specs.Private.Standing.{spot_in}
use Rattle.content_match.specs.Taking.{Matched, spot_of}
use Rattle.content_match.specs.declared.places.Turn.{Turn}
use Rattle.map_assignments.specs.Planning.{is_all}

-- an all has particles
pub all-order : (t : Rose ParticleLabel) (l : ParticleLabel) → label_of t ≡ l → Allowed MayHave t → l.kind ≡ All → is_all (seen t) ≡ true
all-order (node m ts) l is allowed e = by ts allowed.0 (ap (λ (x : ParticleLabel). x.kind) is ∙ e)
  where
    by : (us : Roses ParticleLabel) → KindMayHave m.kind (length_all us) → m.kind ≡ All → is_all (occurs (term_seen m.kind (all_seen us)) m.min m.max) ≡ true
    by rose.none h f = let no : 1 ≤ 0 = subst (λ k. KindMayHave k 0) f h in absurd (omega (arith, no))
    by (rose.more u us) h f = ap (λ k. is_all (occurs (term_seen k (all_seen (rose.more u us))) m.min m.max)) f

-- and nothing else is one
pub no-any-order : (t : Rose ParticleLabel) (l : ParticleLabel) → label_of t ≡ l → (l.kind ≡ All → ⊥) → (is_all (seen t) ≡ false) × IsNoAll (seen t)
no-any-order (node m ts) l is f = by m.kind (λ e. f (ap (λ (x : ParticleLabel). x.kind) (sym is) ∙ e))
  where
    by : (k : ParticleKind) → (k ≡ All → ⊥) → (is_all (occurs (term_seen k (all_seen ts)) m.min m.max) ≡ false) × IsNoAll (occurs (term_seen k (all_seen ts)) m.min m.max)
    by (Element d name) g = (refl, tt)
    by Sequence g = (refl, tt)
    by Choice g = (refl, tt)
    by All g = absurd (g refl)

-- it is the first number that the matcher has
last-of : (ps : Particles) (us : List Turn) (ks : List ℕ) (ms : List Bool) (k : ℕ) (marks : List Bool) → spot_in (occurs (all ps) 1 (Some 1)) us ks ms ≡ Some (at 0 (among k marks)) → (rest : List ℕ) × (ks ≡ k ∷ rest)
last-of ps us [] ms k marks f = absurd (cc (f))
last-of ps us (j ∷ ks) ms k marks f = let same : j ≡ k = cc in (ks, ap (λ i. i ∷ ks) same)

pub last-kid : (m : Matched) (ps : Particles) (k : ℕ) (marks : List Bool) → m.particle ≡ occurs (all ps) 1 (Some 1) → spot_of m ≡ Some (at 0 (among k marks)) → (rest : List ℕ) × (m.kids ≡ k ∷ rest)
last-kid m ps k marks e f = last-of ps m.turns m.kids m.marks k marks (ap (λ p. spot_in p m.turns m.kids m.marks) (sym e) ∙ f)
