use Rattle.std.proofs.Common.{take}
use Rattle.base_texts.specs.declared.texts.Name.{Name}
use Rattle.link_names.specs.Order.{OneHas, IsFirstSuch}
use Rattle.link_complex.specs.ElementTypes.{IsOtherAt}
use Rattle.link_complex.specs.Private.Identities.{particles_of, leader_in}
use Rattle.link_complex.proofs.Leading.{Told}
use Rattle.link_complex.proofs.leaders.first_other.Given as goal

-- the leaders of the particles before this one
abbrev pub invariant-leaders : goal.invariant-leaders
invariant-leaders l = (a : Name) → Told (particles_of (take l.particle-index l.particles)) a (leader_in l.leaders a)

-- the first of the particles before this one, and the leaders of all
abbrev pub invariant-particles : goal.invariant-particles
invariant-particles l =
    IsFirstSuch (OneHas (IsOtherAt (particles_of l.particles)) (particles_of (take l.particle-index l.particles))) l.found
