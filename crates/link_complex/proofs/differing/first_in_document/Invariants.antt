use Rattle.std.proofs.Common.{take}
use Rattle.link_names.specs.Order.{OneHas, IsFirstSuch}
use Rattle.link_complex.specs.ElementTypes.{HasOtherOf}
use Rattle.link_complex.specs.Private.Identities.{types_in}
use Rattle.link_complex.specs.Seen.{definitions_of}
use Rattle.link_complex.proofs.differing.first_in_document.Given as goal

-- the first of the complex types before this one
abbrev pub invariant-complexes : goal.invariant-complexes
invariant-complexes l = IsFirstSuch (OneHas (HasOtherOf (types_in l.types l.doc)) (definitions_of (take l.complex-index l.complex-items))) l.found
