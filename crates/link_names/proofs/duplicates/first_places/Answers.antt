use Rattle.std.proofs.Common.{arith}
use Rattle.link_names.proofs.Placing.{one_place}
use Rattle.link_names.proofs.duplicates.first_places.Goals as goal

pub last_first-preserved : goal.last_first-preserved
last_first-preserved c =
    let within = c.last_first.invariant.0 in
    let above = c.last_first-test.true in (
      omega (arith, within, above),
      one_place c.args.globals.now c.last_first.i c.index-globals-i.result c.last_first.places c.insert.new.self c.lesser-place.result above within
          c.index-globals-i.is c.lesser-place.ensures c.last_first.invariant.1 c.in_ok-insert.ensures.updates,
    )
