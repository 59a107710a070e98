use Rattle.std.proofs.Common.{arith}
use Rattle.link_names.proofs.Numbering.{one_named}
use Rattle.link_names.proofs.numbers.named.Goals as goal

pub last_first-preserved : goal.last_first-preserved
last_first-preserved c =
    let within = c.last_first.invariant.0 in
    let above = c.last_first-test.true in (
      omega (arith, within, above),
      one_named c.args.definitions.now c.last_first.i c.index-definitions-i.result above within c.index-definitions-i.is
          c.last_first.table c.put_name.new.table c.last_first.invariant.1 c.in_ok-put_name.ensures,
    )
