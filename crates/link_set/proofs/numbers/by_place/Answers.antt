use Rattle.std.proofs.Common.{arith}
use Rattle.link_set.proofs.Numbering.{one_placed}
use Rattle.link_set.proofs.numbers.by_place.Goals as goal

pub last_first-preserved : goal.last_first-preserved
last_first-preserved c =
    let within = c.last_first.invariant.0 in
    let above = c.last_first-test.true in (
      omega (arith, within, above),
      one_placed c.args.entries.now c.args.first c.last_first.i c.index-entries-i.result above within c.index-entries-i.is
          c.last_first.table c.insert.new.self c.last_first.invariant.1 c.in_ok-insert.ensures.updates,
    )
