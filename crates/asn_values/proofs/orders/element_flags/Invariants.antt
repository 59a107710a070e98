use Rattle.std.proofs.Common.{◌≡◌, ◌++◌, ◌≤◌, length}
use Rattle.asn_values.specs.Values.{flags_from}
use Rattle.asn_values.proofs.Ordering.{flags_left}
use Rattle.asn_values.proofs.orders.element_flags.Given as goal

abbrev pub invariant-parts : goal.invariant-parts
invariant-parts l = record {
  so_far : flags_from l.label 0 l.parts l.present ≡ l.flags.items ++ flags_left l.label l.parts l.present l.i;
  inside : l.i ≤ length l.present;
}
