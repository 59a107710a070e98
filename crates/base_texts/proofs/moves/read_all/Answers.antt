use Rattle.std.proofs.KnownBytes.{Consumes-trans}
use Rattle.base_texts.proofs.moves.read_all.Goals as goal

-- what was read before and in this turn
pub returns-then-is_err-clause-prefix : goal.returns-then-is_err-clause-prefix
returns-then-is_err-clause-prefix g c =
    (_, Consumes-trans _ _ _ _ _ c.reads.invariant.read c.in-Ok.ensures.bytes.0)
