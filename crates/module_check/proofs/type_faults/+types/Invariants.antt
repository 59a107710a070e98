use Rattle.std.proofs.Common.{[], ◌+◌, ◌-◌, ◌*◌, drop}
use Rattle.base_trees.specs.Rose.{roses_of, node_count, count_all}
use Rattle.module_text.specs.Texts.{parts_of}
use Rattle.module_text.specs.Listed.{first}
use Rattle.module_text.specs.Faults.{part_faults, nameless_parts}
use Rattle.module_check.proofs.Listing.{PartsLeft}
use Rattle.module_check.proofs.type_faults.+types.Given as goal

abbrev pub decreases-type_fault : goal.decreases-type_fault
decreases-type_fault l = 5 * node_count l.node.now

abbrev pub decreases-parts_fault : goal.decreases-parts_fault
decreases-parts_fault l = 5 * count_all (roses_of l.kids.now) + 4

abbrev pub decreases-part_fault : goal.decreases-part_fault
decreases-part_fault l = 5 * node_count l.kid.now + 3

abbrev pub decreases-judged_fault : goal.decreases-judged_fault
decreases-judged_fault l = 5 * node_count l.kid.now + 2

abbrev pub decreases-behind_fault : goal.decreases-behind_fault
decreases-behind_fault l = 5 * node_count l.kid.now + 1

abbrev pub invariant-parts_fault-parts : goal.invariant-parts_fault-parts
invariant-parts_fault-parts l =
    PartsLeft l.context.assignments.now l.spot l.nameless l.label l.seen l.i (nameless_parts l.label.marks - l.i) (drop l.i l.parts) (roses_of (drop l.i l.kids))
    (first (part_faults l.context.assignments.now l.spot l.nameless l.label 0 [] (nameless_parts l.label.marks) (parts_of l.label.form) (roses_of l.kids)))
