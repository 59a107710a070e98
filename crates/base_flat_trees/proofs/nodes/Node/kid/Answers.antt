use Rattle.base_trees.specs.Rose.{kids_of}
use Rattle.base_flat_trees.proofs.Steps.{dropped_next, none_left_not, got_next}
use Rattle.base_flat_trees.proofs.nodes.Node.kid.Goals as goal

pub loop-preserved : goal.loop-preserved
loop-preserved g c = dropped_next (kids_of c.args.self.now) c.loop.kids c.next-before.new.self c.loop.counter c.next-before.result c.loop.invariant c.next-before.ensures.steps

pub unreachable-requires : goal.unreachable-requires
unreachable-requires g c = none_left_not (kids_of c.args.self.now) c.loop.kids c.loop.counter c.args.i c.loop.invariant c.in-None.ensures.steps.0 c.loop.auto.counter-end c.requires

pub returns : goal.returns
returns g c = got_next (kids_of c.args.self.now) c.loop.kids c.next.new.self c.loop.counter c.args.i c.in-Some.kid c.loop.invariant c.in-Some.ensures.steps c.loop.auto.counter-end c.loop-test.false
