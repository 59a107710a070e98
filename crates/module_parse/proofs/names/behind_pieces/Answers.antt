use Rattle.std.proofs.Common.{length}
use Rattle.module_grammar.specs.NameReading.{piece_at, piece_text, begun}
use Rattle.module_parse.proofs.Looping.{written_none, written_next, written_again, stays_again}
use Rattle.module_parse.proofs.names.behind_pieces.Goals as goal

pub pieces-init : goal.pieces-init
pieces-init c = written_none piece_at piece_text c.args.bytes.now c.args.from c.requires

pub pieces-preserved : goal.pieces-preserved
pieces-preserved c = written_next c.pieces.invariant c.in-Ok.ensures.value c.in-Ok.ensures.within

pub returns-in-Err-clause-value : goal.returns-in-Err-clause-value
returns-in-Err-clause-value c = written_again c.again.result c.pieces.invariant c.in-Err.ensures.value c.again.ensures

pub returns-in-Err-clause-within : goal.returns-in-Err-clause-within
returns-in-Err-clause-within c = stays_again (length c.args.bytes.now) c.args.from c.pieces.next c.in-Err.stop c.again.result c.again.ensures c.pieces.invariant.going.begun c.pieces.invariant.going.left
