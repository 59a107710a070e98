use Rattle.std.proofs.Common.{◌≡◌, ◌≤◌, take}
use Rattle.simple_types.specs.Labels.{count_set}
use Rattle.xer_write.proofs.ordering.set_count.Given as goal

abbrev pub invariant-flags : goal.invariant-flags
invariant-flags l = record { counted : l.count ≡ count_set (take l.flag-index l.flags); few : l.count ≤ l.flag-index }
