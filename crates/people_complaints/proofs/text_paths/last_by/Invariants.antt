use Rattle.std.proofs.Common.{length}
use Rattle.people_complaints.proofs.Ways.{Reached}
use Rattle.people_complaints.proofs.text_paths.last_by.Given as goal

abbrev pub invariant-kids : goal.invariant-kids
invariant-kids l = Reached l.at l.fn.kids l.kids l.found

abbrev pub decreases-kids : goal.decreases-kids
decreases-kids l = length l.kids
