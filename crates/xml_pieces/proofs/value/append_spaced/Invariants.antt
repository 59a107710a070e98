use Rattle.std.proofs.Common.{◌≡◌, ◌++◌, length}
use Rattle.xml_pieces.specs.Pieces.{spaced_ends}
use Rattle.xml_pieces.proofs.value.append_spaced.Given as goal

abbrev pub invariant-lines : goal.invariant-lines
invariant-lines l = l.value.items ++ spaced_ends l.rest ≡ l.fn.value.items ++ spaced_ends l.bytes

abbrev pub decreases-lines : goal.decreases-lines
decreases-lines l = length l.rest
