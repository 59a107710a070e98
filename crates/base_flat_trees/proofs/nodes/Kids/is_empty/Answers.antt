use Rattle.std.proofs.Common.{length, sym, ◌∙◌}
use Rattle.base_flat_trees.proofs.Forests.{forest_empty, empty_forest, empty_test, test_empty}
use Rattle.base_flat_trees.proofs.nodes.Kids.is_empty.Goals as goal

pub returns : goal.returns
returns g c = (
  λ t. sym c.self.view_is ∙ forest_empty c.self.inside.left.now (empty_test (length c.self.inside.left.now) c.is_empty.result c.is_empty.ensures t),
  λ h. test_empty (length c.self.inside.left.now) c.is_empty.result c.is_empty.ensures (empty_forest c.self.inside.left.now c.self.invariant (c.self.view_is ∙ h)),
)
