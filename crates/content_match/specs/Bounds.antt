-- The bounds of particles (XML Schema Part 1, section 3.9.6).
use Rattle.content_models.specs.Particle.{Particle, occurs, Term, element, sequence, choice, all, Particles, none, more}
use Rattle.content_models.specs.Occurring.{AllowOne}

abbrev mutual
  -- The bounds of the particle and of all below it allow an occurrence: the least is at most the greatest, and the greatest at
  -- least 1.
  pub BoundsAllow : Particle → Type 0
  BoundsAllow (occurs t least most) = AllowOne least most × TermBoundsAllow t

  pub TermBoundsAllow : Term → Type 0
  TermBoundsAllow (element d a) = Unit {0}
  TermBoundsAllow (sequence ps) = AllBoundsAllow ps
  TermBoundsAllow (choice ps) = AllBoundsAllow ps
  TermBoundsAllow (all ps) = AllBoundsAllow ps

  pub AllBoundsAllow : Particles → Type 0
  AllBoundsAllow none = Unit {0}
  AllBoundsAllow (more p ps) = BoundsAllow p × AllBoundsAllow ps
