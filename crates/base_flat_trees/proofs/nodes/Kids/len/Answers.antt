use Rattle.std.proofs.Common.{◌<◌, ◌^◌, length, ap, arith}
use Rattle.base_trees.proofs.Roses.{length-le-count_all}
use Rattle.base_flat_trees.specs.Entries.{forest}
use Rattle.base_flat_trees.proofs.Forests.{count_below}
use Rattle.base_flat_trees.proofs.nodes.Kids.len.Goals as goal

pub overflow_add-count : goal.overflow_add-count
overflow_add-count g c =
    let fits : length c.args.self.now < 2 ^ 64 = omega (arith, c.self.told, ap length c.self.view_is, length-le-count_all (forest c.self.inside.left.now), count_below c.self.inside.left.now c.self.invariant) in
    omega (arith, fits, c.sizes.invariant, ap length c.in-Some.ensures.steps)

pub overflow_add-count-in-Some : goal.overflow_add-count-in-Some
overflow_add-count-in-Some g c =
    let fits : length c.args.self.now < 2 ^ 64 = omega (arith, c.self.told, ap length c.self.view_is, length-le-count_all (forest c.self.inside.left.now), count_below c.self.inside.left.now c.self.invariant) in
    omega (arith, fits, c.sizes.invariant, ap length c.in-Some.ensures.steps, c.pass_same-count.ensures)
