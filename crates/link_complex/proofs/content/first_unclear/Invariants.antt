use Rattle.std.proofs.Common.{take}
use Rattle.link_names.specs.Order.{OneHas, IsFirstSuch}
use Rattle.link_complex.specs.Content.{IsUnclearType}
use Rattle.link_complex.specs.Seen.{definitions_of}
use Rattle.link_complex.proofs.content.first_unclear.Given as goal

-- the first of the complex types before this one
abbrev pub invariant-complexes : goal.invariant-complexes
invariant-complexes l = IsFirstSuch (OneHas IsUnclearType (definitions_of (take l.complex-index l.complex-items))) l.found
