use Rattle.std.proofs.Common.{◌≡◌, ◌++◌, length}
use Rattle.xml_pieces.specs.Pieces.{line_ends}
use Rattle.xml_pieces.proofs.value.append_line_ends.Given as goal

abbrev pub invariant-lines : goal.invariant-lines
invariant-lines l = l.text.items ++ line_ends l.rest ≡ l.fn.text.items ++ line_ends l.bytes

abbrev pub decreases-lines : goal.decreases-lines
decreases-lines l = length l.rest
