use Rattle.std.proofs.Common.{arith}
use Rattle.content_match.proofs.Nearby.{two_levels, enters_first}
use Rattle.content_match.proofs.beside.enter_first.Goals as goal

pub push_reserved-requires-in-Some : goal.push_reserved-requires-in-Some
push_reserved-requires-in-Some c =
    let two = two_levels c.args.plan.now 0 c.args.name.now c.in-Some.leaf c.in-Some.ensures in
    let room = c.requires.turns in
    let longer = c.push_reserved.ensures.len in
    let capacity = c.push_reserved.ensures.capacity in
    omega (arith, two, room, longer, capacity)

pub returns-in-Some-clause-entered : goal.returns-in-Some-clause-entered
returns-in-Some-clause-entered c =
    enters_first c.label.result.now c.args.plan.now c.args.name.now c.in-Some.leaf c.args.turns.now.items c.push_reserved.new.self.items c.push_reserved-in-Some.new.self.items
    c.args.kids.now.items c.push_reserved-in-Some-2.new.self.items c.label.ensures c.in-Some.ensures c.push_reserved.ensures.items c.push_reserved-in-Some.ensures.items c.push_reserved-in-Some-2.ensures.items
