use Rattle.std.proofs.Common.{◌≡◌, [], sym, ◌∙◌}
use Rattle.base_flat_trees.proofs.Forests.{parts, forest_empty, next_is, goes}
use Rattle.base_flat_trees.proofs.nodes.KidsIterator.next.Goals as goal

pub split_at-requires : goal.split_at-requires
split_at-requires g c = (parts c.self.inside.left.now c.in-Some.first.now c.in-Some.later.now c.in-Some.ensures.cases.0 c.self.invariant).within

pub invariant_of-result : goal.invariant_of-result
invariant_of-result g c = rw c.split_at.ensures.front ((parts c.self.inside.left.now c.in-Some.first.now c.in-Some.later.now c.in-Some.ensures.cases.0 c.self.invariant).below)

pub invariant_of-self : goal.invariant_of-self
invariant_of-self g c = rw c.split_at.ensures.back ((parts c.self.inside.left.now c.in-Some.first.now c.in-Some.later.now c.in-Some.ensures.cases.0 c.self.invariant).left)

pub returns-in-None-clause-steps : goal.returns-in-None-clause-steps
returns-in-None-clause-steps g c =
    let none : c.args.self.now ≡ [] = sym c.self.view_is ∙ forest_empty c.self.inside.left.now c.in-None.ensures.cases in
    (none, none)

pub returns-in-Some-clause-steps : goal.returns-in-Some-clause-steps
returns-in-Some-clause-steps g c =
    next_is c.args.self.now c.self.inside.left.now c.in-Some.first.now c.in-Some.later.now c.split_at.result.0.now c.split_at.result.1.now c.self.view_is c.in-Some.ensures.cases.0 c.self.invariant c.split_at.ensures.front c.split_at.ensures.back

pub returns-in-Some-clause-goes : goal.returns-in-Some-clause-goes
returns-in-Some-clause-goes g c =
    goes c.args.self.now _ _ (next_is c.args.self.now c.self.inside.left.now c.in-Some.first.now c.in-Some.later.now c.split_at.result.0.now c.split_at.result.1.now c.self.view_is c.in-Some.ensures.cases.0 c.self.invariant c.split_at.ensures.front c.split_at.ensures.back)
