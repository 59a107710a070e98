use Rattle.std.proofs.Common.{rules}
use Rattle.content_match.proofs.Readying.{ready}
use Rattle.content_match.proofs.matcher.Plan.make_ready.Goals as goal

pub returns-in_ok-make_room : goal.returns-in_ok-make_room
returns-in_ok-make_room c =
    let room = c.in_ok-make_room.ensures.room in
    ready c.args.self.now c.self.inside.top c.self.inside.levels c.make_room.new.self c.self.view_is c.self.invariant.plan c.self.invariant.levels_fit
    c.make_room.ensures.turns c.make_room.ensures.kids room.0 room.1

pub returns-else-capacity-self-2 : goal.returns-else-capacity-self-2
returns-else-capacity-self-2 c =
    ready c.args.self.now c.self.inside.top c.self.inside.levels (record { turns = c.clear.new.self; kids = c.clear-2.new.self }) c.self.view_is c.self.invariant.plan
    c.self.invariant.levels_fit c.clear.ensures.items c.clear-2.ensures.items (search rules) (search rules)
