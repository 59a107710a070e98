use Rattle.std.proofs.Common.{◌≡◌, ◌+◌, ◌≤◌, length, drop}
use Rattle.simple_types.specs.declared.simples.Builtin.{Builtin}
use Rattle.link_set.specs.Numbering.{builtin_numbers}
use Rattle.link_set.specs.Private.Told.{ranked_in}
use Rattle.link_set.proofs.numbers.by_rank.Given as goal

-- the table has those from this one on
abbrev pub invariant-last_first : goal.invariant-last_first
invariant-last_first l = (l.i ≤ length l.used) × ((w : Builtin) → ranked_in l.table w ≡ builtin_numbers (l.first + l.i) (drop l.i l.used) w)

abbrev pub decreases-last_first : goal.decreases-last_first
decreases-last_first l = l.i
