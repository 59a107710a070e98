use Rattle.std.proofs.Common.{◌≡◌, take}
use Rattle.asn_types.specs.Simples.{counting}
use Rattle.asn_types.specs.Private.Telling.{told}
use Rattle.asn_types.proofs.marks.Marks.told.Given as goal

abbrev pub invariant-marks : goal.invariant-marks
invariant-marks l = l.seen ≡ told (counting (take l.mark-index l.mark-items))
