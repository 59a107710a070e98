use Rattle.std.proofs.Common.{true, false}
use Rattle.map_assignments.specs.Plans.{part, content, finish}
use Rattle.map_assignments.specs.Planning.{simple_type}
use Rattle.map_assignments.specs.Private.Placing.{place_of}
use Rattle.map_assignments.proofs.Building.{leads-init, named-sequence}
use Rattle.map_assignments.proofs.mapper.Mapper.nillable_simple_type.Goals as goal

pub returns : goal.returns
returns c =
    let place = place_of c.args.self.places.now in
    let type = simple_type c.args.self.set.now c.args.n in
    let whole = part content true type finish in
    let new = c.new-parts in
    named-sequence place c.push_nillable.new.parts c.into_sequence.result c.in_ok-marks.marks true false false whole c.into_sequence.ensures c.in_ok-marks.ensures
    (c.in_ok-push_nillable.ensures place type whole c.in_ok-kid.ensures (leads-init place new.result whole new.ensures.scope new.ensures.components new.ensures.kids))
