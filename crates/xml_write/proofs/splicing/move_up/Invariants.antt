use Rattle.xml_write.proofs.Moving.{Moved}
use Rattle.xml_write.proofs.splicing.move_up.Given as goal

abbrev pub invariant-loop-left : goal.invariant-loop-left
invariant-loop-left l = Moved l.gap l.left l.initial.bytes l.bytes

abbrev pub decreases-loop-left : goal.decreases-loop-left
decreases-loop-left l = l.left
