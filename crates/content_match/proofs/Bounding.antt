-- A particle whose bounds allow an occurrence may occur, since each choice in a tree of particles has an alternative.
use Rattle.std.proofs.Common.{◌≤◌, arith}
use Rattle.base_trees.specs.Rose.{Rose, node, Roses, Allowed, AllowedAll, length_all}
use Rattle.base_trees.specs.Rose as rose
use Rattle.content_models.specs.Kids.{KindMayHave, MayHave}
use Rattle.content_models.specs.Particle.{Particle, occurs, Term, element, sequence, choice, all, Particles, none, more}
use Rattle.content_models.specs.Occurring.{IsMore, MayOccur, TermMayOccur, AllMayOccur}
use Rattle.content_models.specs.Seen.{term_seen, seen, all_seen}
use Rattle.content_models.specs.declared.particles.ParticleKind.{ParticleKind}
use Rattle.content_models.specs.declared.particles.ParticleKind.TheVariants.{Element, Sequence, Choice, All}
use Rattle.content_models.specs.declared.particles.ParticleLabel.{ParticleLabel}
use Rattle.content_match.specs.Bounds.{BoundsAllow, TermBoundsAllow, AllBoundsAllow}

some_kid : (ts : Roses ParticleLabel) → 1 ≤ length_all ts → IsMore (all_seen ts)
some_kid rose.none h = absurd (omega (arith, h))
some_kid (rose.more t ts) h = tt

term_occurs : (kind : ParticleKind) (ts : Roses ParticleLabel) → KindMayHave kind (length_all ts) → TermBoundsAllow (term_seen kind (all_seen ts)) → (AllBoundsAllow (all_seen ts) → AllMayOccur (all_seen ts))
    → TermMayOccur (term_seen kind (all_seen ts))
term_occurs (Element decl name) ts may bounds each = tt
term_occurs Sequence ts may bounds each = each bounds
term_occurs Choice ts may bounds each = (some_kid ts may, each bounds)
term_occurs All ts may bounds each = each bounds

mutual
  pub occurs_within : (t : Rose ParticleLabel) → Allowed MayHave t → BoundsAllow (seen t) → MayOccur (seen t)
  occurs_within (node l ts) (may, below) (own, bounds) = (own, term_occurs l.kind ts may bounds (occur_within ts below))

  pub occur_within : (ts : Roses ParticleLabel) → AllowedAll MayHave ts → AllBoundsAllow (all_seen ts) → AllMayOccur (all_seen ts)
  occur_within rose.none may bounds = tt
  occur_within (rose.more t ts) (may, others) (bounds, rest) = (occurs_within t may bounds, occur_within ts others rest)

-- what may occur has bounds that allow it
mutual
  pub bounds_allow : (p : Particle) → MayOccur p → BoundsAllow p
  bounds_allow (occurs t least most) (own, below) = (own, term_bounds t below)

  term_bounds : (t : Term) → TermMayOccur t → TermBoundsAllow t
  term_bounds (element d a) may = tt
  term_bounds (sequence ps) may = all_bounds ps may
  term_bounds (choice ps) (some, may) = all_bounds ps may
  term_bounds (all ps) may = all_bounds ps may

  all_bounds : (ps : Particles) → AllMayOccur ps → AllBoundsAllow ps
  all_bounds none may = tt
  all_bounds (more p ps) (may, others) = (bounds_allow p may, all_bounds ps others)
