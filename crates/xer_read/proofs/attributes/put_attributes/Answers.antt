use Rattle.validity_check.specs.Texts.{AreTexts}
use Rattle.validity_check.proofs.Counting.{on-ok}
use Rattle.value_builder.specs.Built.{with_parts}
use Rattle.value_builder.proofs.Putting.{puts-off}
use Rattle.xer_read.proofs.Attributed.{uses-made}
use Rattle.xer_read.proofs.attributes.put_attributes.Goals as goal

pub returns-then-keeps_nothing : goal.returns-then-keeps_nothing
returns-then-keeps_nothing c =
    let all = uses-made c.args.set.now c.args.attributes.now c.args.uses.now.list.now c.requires.taken in
    record {
      flags = all.0;
      values = all.1;
      holds = all.2;
      puts = puts-off (with_parts all.0 all.1) c.args.values.now (c.keeps_nothing.ensures.0 c.if-keeps_nothing.true);
    }

pub put_each-requires-clause-taken : goal.put_each-requires-clause-taken
put_each-requires-clause-taken c = (c.args.attributes.now, c.requires.taken, rw c.deref.ensures.value c.in_ok-texts.ensures)

pub returns : goal.returns
returns c =
    let texts : AreTexts c.args.attributes.now c.args.uses.now.list.now c.deref.result.now = rw c.deref.ensures.value c.in_ok-texts.ensures in
    on-ok c.put_each.result _ _ (λ put. put c.args.attributes.now c.requires.taken texts) c.put_each.ensures
