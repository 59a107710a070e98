use Rattle.std.proofs.Common.{length, ◌-◌}
use Rattle.module_grammar.specs.NameReading.{piece_at, piece_text}
use Rattle.module_parse.proofs.Looping.{Written}
use Rattle.module_parse.proofs.names.behind_pieces.Given as goal

abbrev pub invariant-pieces : goal.invariant-pieces
invariant-pieces l = Written piece_at piece_text l.bytes l.fn.from l.next

abbrev pub decreases-pieces : goal.decreases-pieces
decreases-pieces l = length l.bytes - l.next.at
