use Rattle.std.proofs.Common.{◌≡◌, drop}
use Rattle.std.specs.Option.{option_map}
use Rattle.base_trees.specs.Rose.{roses_of, node_count}
use Rattle.module_text.specs.Resolving.{all_references, all_references_in}
use Rattle.module_check.specs.Known.{leads_in}
use Rattle.module_check.proofs.chains.+all_lead.Given as goal

abbrev pub decreases-all_lead : goal.decreases-all_lead
decreases-all_lead l = node_count l.node.now

abbrev pub invariant-kids : goal.invariant-kids
invariant-kids l =
    all_references_in (leads_in (option_map (λ w. w.now) l.followed.within) l.followed.assignments.now) (roses_of (drop l.kid-index l.kids))
    ≡ all_references (leads_in (option_map (λ w. w.now) l.followed.within) l.followed.assignments.now) l.node
