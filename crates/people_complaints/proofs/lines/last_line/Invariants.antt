use Rattle.std.proofs.Common.{ℕ, ◌+◌, ◌≤◌, List, length}
use Rattle.people_complaints.specs.Lines.{EndsInLine}
use Rattle.people_complaints.proofs.lines.last_line.Given as goal

-- what the rest ends in, the front ends in, so many lines later
abbrev pub invariant-lines : goal.invariant-lines
invariant-lines l =
    record {
      few : l.ended + length l.here ≤ length l.front;
      ends : (n : ℕ) (h : List ℕ) → EndsInLine l.here n h → EndsInLine l.front (n + l.ended) h;
    }

abbrev pub decreases-lines : goal.decreases-lines
decreases-lines l = length l.here
