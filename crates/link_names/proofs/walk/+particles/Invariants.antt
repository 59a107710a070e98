use Rattle.std.proofs.Common.{◌≡◌, ◌+◌, ◌*◌, ◌++◌, drop}
use Rattle.base_trees.specs.Rose.{node_count, count_all, roses_of}
use Rattle.link_names.specs.Parts.{in_models}
use Rattle.link_names.specs.WalkSeen.{parts_of}
use Rattle.link_names.proofs.walk.+particles.Given as goal

abbrev pub decreases-push_model : goal.decreases-push_model
decreases-push_model l = 2 * node_count l.tree.now

abbrev pub decreases-push_models : goal.decreases-push_models
decreases-push_models l = 2 * count_all (roses_of l.kids.now) + 1

-- those so far and those of the rest are all
abbrev pub invariant-push_models-loop-kid : goal.invariant-push_models-loop-kid
invariant-push_models-loop-kid l =
    parts_of l.out.items ++ in_models l.file l.within (roses_of (drop l.kid-index l.kids)) ≡ parts_of l.fn.out.items ++ in_models l.file l.within (roses_of l.kids)
