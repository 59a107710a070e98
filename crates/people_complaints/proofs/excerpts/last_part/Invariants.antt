use Rattle.std.proofs.Common.{◌<◌, drop, IsUtf8}
use Rattle.people_complaints.proofs.excerpts.last_part.Given as goal

-- a longer end isn't UTF-8
abbrev pub invariant-loop-cut : goal.invariant-loop-cut
invariant-loop-cut l = 0 < l.cut → IsUtf8 (drop l.from l.text) → ⊥
