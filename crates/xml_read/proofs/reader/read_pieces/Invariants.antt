use Rattle.std.proofs.Common.{length}
use Rattle.xml_read.specs.Private.Building.{state, Scoped}
use Rattle.xml_read.proofs.Going.{Stands}
use Rattle.xml_read.proofs.reader.read_pieces.Given as goal

abbrev pub invariant-pieces : goal.invariant-pieces
invariant-pieces l = record {
  stands : Stands l.bytes l.rest (state l.builder);
  scoped : Scoped l.builder;
}

abbrev pub decreases-pieces : goal.decreases-pieces
decreases-pieces l = length l.rest
