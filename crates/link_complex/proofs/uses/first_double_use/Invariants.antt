use Rattle.std.proofs.Common.{take}
use Rattle.std.specs.List.{flat_map}
use Rattle.link_names.specs.Order.{IsFirstOf}
use Rattle.link_complex.specs.Uses.{double_uses_of}
use Rattle.link_complex.specs.Seen.{definitions_of}
use Rattle.link_complex.proofs.uses.first_double_use.Given as goal

-- the first of those of the complex types before this one
abbrev pub invariant-complexes : goal.invariant-complexes
invariant-complexes l = IsFirstOf (flat_map double_uses_of (definitions_of (take l.complex-index l.complex-items))) l.found
