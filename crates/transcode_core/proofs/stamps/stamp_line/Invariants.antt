use Rattle.std.proofs.Common.{◌≡◌, ◌++◌, length}
use Rattle.std.specs.List.{flat_map}
use Rattle.transcode_core.specs.Digits.{both_digits}
use Rattle.transcode_core.proofs.stamps.stamp_line.Given as goal

-- the digits so far, and those of the octets that come
abbrev pub invariant-octets : goal.invariant-octets
invariant-octets l = l.line.items ++ flat_map both_digits l.rest ≡ flat_map both_digits l.fn.stamp

abbrev pub decreases-octets : goal.decreases-octets
decreases-octets l = length l.rest
