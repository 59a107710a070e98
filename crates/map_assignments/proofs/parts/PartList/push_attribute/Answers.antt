use Rattle.std.proofs.Common.{not}
use Rattle.map_assignments.specs.Plans.{attribute}
use Rattle.map_assignments.specs.Naming.{wanted, part_standard, part_marks}
use Rattle.map_assignments.proofs.Building.{on_ok_three, adds-of}
use Rattle.map_assignments.proofs.parts.PartList.push_attribute.Goals as goal

pub returns : goal.returns
returns c =
    let u = c.args.attribute.now in
    let l = attribute u.name u.standard in
    on_ok_three c.add.result _ _ _ _
    (adds-of c.args.self.now c.attribute_part.new.self c.add.new.self (wanted l) (part_standard l) (part_marks l) (not u.required) c.in_ok-part.part c.args.kid c.in_ok-part.ensures)
    c.add.ensures.scope c.add.ensures.component c.add.ensures.kid
