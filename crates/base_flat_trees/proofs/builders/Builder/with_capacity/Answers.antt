use Rattle.base_flat_trees.specs.Zips.{nothing}
use Rattle.base_flat_trees.proofs.Zipped.{stands_nothing, stands_for, is_zip}
use Rattle.base_flat_trees.proofs.builders.Builder.with_capacity.Goals as goal

pub invariant_of-result : goal.invariant_of-result
invariant_of-result g c = is_zip c.in_ok-entries.entries.items 0 0 nothing (stands_nothing c.in_ok-entries.entries.items c.in_ok-entries.ensures.items)

pub returns : goal.returns
returns g c = stands_for c.in_ok-entries.entries.items 0 0 nothing (stands_nothing c.in_ok-entries.entries.items c.in_ok-entries.ensures.items)
