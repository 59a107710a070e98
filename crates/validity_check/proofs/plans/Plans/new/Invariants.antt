use Rattle.std.proofs.Common.{◌≤◌, ◌-◌, vec_len}
use Rattle.validity_check.proofs.Keeping.{AreNone}
use Rattle.validity_check.proofs.plans.Plans.new.Given as goal

abbrev pub invariant-complexes : goal.invariant-complexes
invariant-complexes l = record {
  within : vec_len l.kept ≤ l.count;
  none : AreNone l.kept.items;
}

abbrev pub decreases-complexes : goal.decreases-complexes
decreases-complexes l = l.count - vec_len l.kept
