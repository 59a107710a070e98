use Rattle.std.proofs.Common.{take}
use Rattle.module_pieces.specs.Indexed.{AreIndexes}
use Rattle.module_pieces.proofs.indexes.indexes_of.Given as goal

abbrev pub invariant-assignments : goal.invariant-assignments
invariant-assignments l = AreIndexes l.indexes.items (take l.assignment-index l.assignments)
