use Rattle.std.proofs.Common.{arith}
use Rattle.std.proofs.lemmas.Grind.{common_steps}
use Rattle.base_texts.proofs.Moving.{appended, left_more}
use Rattle.base_texts.proofs.moves.write_all.Goals as goal

pub loop-done-preserved : goal.loop-done-preserved
loop-done-preserved g c =
    record {
      within = grind (arith, common_steps, c.in_ok-done.ensures.most);
      written = appended _ _ _ _ _ _ c.loop-done.invariant.written c.in_ok-done.ensures.bytes;
      leaves = left_more _ _ _ _ _ c.loop-done.invariant.leaves c.in_ok-done.ensures.leaves;
      later = omega arith;
    }
