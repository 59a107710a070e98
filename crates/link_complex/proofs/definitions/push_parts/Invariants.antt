use Rattle.std.proofs.Common.{◌≡◌, ◌++◌, take}
use Rattle.std.specs.List.{flat_map}
use Rattle.link_names.specs.WalkSeen.{parts_of}
use Rattle.link_complex.specs.ComplexTypes.{of_part}
use Rattle.link_complex.specs.Seen.{definitions_of}
use Rattle.link_complex.proofs.definitions.push_parts.Given as goal

-- those of the parts before this one were put behind
abbrev pub invariant-parts : goal.invariant-parts
invariant-parts l =
    definitions_of l.out.items ≡ definitions_of l.fn.out.items ++ flat_map of_part (parts_of (take l.part-index l.parts))
