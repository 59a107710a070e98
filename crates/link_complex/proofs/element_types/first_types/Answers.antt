use Rattle.std.proofs.Common.{arith}
use Rattle.link_complex.proofs.Tables.{one_type}
use Rattle.link_complex.proofs.element_types.first_types.Goals as goal

pub last_first-preserved : goal.last_first-preserved
last_first-preserved c =
    let within = c.last_first.invariant.0 in
    let above = c.last_first-test.true in (
      omega (arith, within, above),
      one_type c.args.elements.now c.last_first.i c.index-elements-i.result c.last_first.types c.insert.new.self above within
          c.index-elements-i.is c.last_first.invariant.1 c.in_ok-insert.ensures.updates,
    )
