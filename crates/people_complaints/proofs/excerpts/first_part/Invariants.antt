use Rattle.std.proofs.Common.{◌<◌, take, IsUtf8}
use Rattle.people_complaints.proofs.excerpts.first_part.Given as goal

-- a longer front isn't UTF-8
abbrev pub invariant-loop-cut : goal.invariant-loop-cut
invariant-loop-cut l = 0 < l.cut → IsUtf8 (take l.to l.text) → ⊥
