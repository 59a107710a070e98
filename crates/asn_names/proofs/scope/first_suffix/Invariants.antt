use Rattle.std.proofs.Common.{◌<◌, ◌-◌, ◌^◌}
use Rattle.asn_names.specs.Taking.{AreTakenBelow}
use Rattle.asn_names.proofs.scope.first_suffix.Given as goal

abbrev pub invariant-suffixes : goal.invariant-suffixes
invariant-suffixes l = (0 < l.n) × AreTakenBelow l.names.keys l.name l.n

abbrev pub decreases-suffixes : goal.decreases-suffixes
decreases-suffixes l = 2 ^ 64 - l.n
