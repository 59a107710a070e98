use Rattle.std.proofs.Common.{◌≡◌, ◌-◌}
use Rattle.asn_types.specs.Refs.{follow}
use Rattle.asn_types.proofs.resolving.resolve.Given as goal

abbrev pub invariant-refs : goal.invariant-refs
invariant-refs l = follow l.module (4 - l.counter) l.found ≡ follow l.module 4 l.node
