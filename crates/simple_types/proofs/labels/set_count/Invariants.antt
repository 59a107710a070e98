use Rattle.std.proofs.Common.{◌≡◌, ◌≤◌, take}
use Rattle.simple_types.specs.Labels.{count_set}
use Rattle.simple_types.proofs.labels.set_count.Given as goal

abbrev pub invariant-flags : goal.invariant-flags
invariant-flags l = record {
  so_far : l.count ≡ count_set (take l.flag-index l.flags);
  within : l.count ≤ l.flag-index;
}
