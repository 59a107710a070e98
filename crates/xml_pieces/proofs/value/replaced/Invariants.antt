use Rattle.std.proofs.Common.{◌≡◌, length}
use Rattle.xml_pieces.specs.Reading.{many, mention_at, all_read, replaced}
use Rattle.xml_pieces.proofs.value.replaced.Given as goal

abbrev pub invariant-mentions : goal.invariant-mentions
invariant-mentions l = all_read l.value.items (many mention_at (length l.rest) l.rest) ≡ replaced l.written

abbrev pub decreases-mentions : goal.decreases-mentions
decreases-mentions l = length l.rest
