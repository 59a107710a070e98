use Rattle.std.proofs.Common.{◌≡◌, ◌++◌, take}
use Rattle.std.specs.List.{flat_map}
use Rattle.link_names.specs.WalkSeen.{parts_of}
use Rattle.link_complex.specs.ElementTypes.{of_part}
use Rattle.link_complex.specs.Private.Identities.{types_in, particles_of}
use Rattle.link_complex.proofs.particles.push_parts.Given as goal

-- those of the parts before this one were put behind
abbrev pub invariant-parts : goal.invariant-parts
invariant-parts l =
    particles_of l.out.items ≡ particles_of l.fn.out.items ++ flat_map (λ p. of_part (types_in l.types l.doc) p.what) (parts_of (take l.part-index l.parts))
