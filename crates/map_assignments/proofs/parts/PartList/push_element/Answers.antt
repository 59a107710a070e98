use Rattle.map_assignments.specs.Plans.{element}
use Rattle.map_assignments.specs.Naming.{wanted, part_standard, part_marks}
use Rattle.map_assignments.proofs.Building.{on_ok_three, adds-of}
use Rattle.map_assignments.proofs.parts.PartList.push_element.Goals as goal

pub returns : goal.returns
returns c =
    let l = element c.args.name.now in
    on_ok_three c.add.result _ _ _ _
    (adds-of c.args.self.now c.element_part.new.self c.add.new.self (wanted l) (part_standard l) (part_marks l) c.args.optional c.in_ok-part.part c.args.kid c.in_ok-part.ensures)
    c.add.ensures.scope c.add.ensures.component c.add.ensures.kid
