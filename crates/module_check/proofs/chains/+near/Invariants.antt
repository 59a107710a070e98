use Rattle.std.proofs.Common.{◌≡◌, ◌+◌, ◌*◌, drop}
use Rattle.std.specs.Option.{option_map}
use Rattle.base_trees.specs.Rose.{roses_of, node_count}
use Rattle.module_text.specs.Resolving.{near_references, near_references_of}
use Rattle.module_check.specs.Known.{leads_in}
use Rattle.module_check.proofs.chains.+near.Given as goal

abbrev pub decreases-is_near : goal.decreases-is_near
decreases-is_near l = 2 * node_count l.kid.now + 1

abbrev pub decreases-near : goal.decreases-near
decreases-near l = 2 * node_count l.node.now

abbrev pub invariant-near-parts : goal.invariant-near-parts
invariant-near-parts l =
    near_references_of (leads_in (option_map (λ w. w.now) l.followed.within) l.followed.assignments.now) l.label l.i (drop l.i l.parts) (roses_of (drop l.i l.kids))
    ≡ near_references (leads_in (option_map (λ w. w.now) l.followed.within) l.followed.assignments.now) l.node
