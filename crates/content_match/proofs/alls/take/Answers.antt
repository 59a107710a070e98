use Rattle.std.proofs.Common.{◌+◌, refl, sym, ◌∙◌, arith}
use Rattle.content_match.specs.Private.Alls.{kids_in}
use Rattle.content_match.proofs.Descending.{within_more_turns}
use Rattle.content_match.proofs.Marking.{named_below, none_named}
use Rattle.content_match.proofs.Picked.{plans_count, step_refused, two_levels, taken_small, taken_marks, taken_gone}
use Rattle.content_match.proofs.alls.take.Goals as goal

pub take_kid-requires-clause-kid : goal.take_kid-requires-clause-kid
take_kid-requires-clause-kid g c =
    named_below (kids_in c.args.all.now) c.args.name.now c.in-Some.kid (sym (c.requires.plan.tells c.args.name.now) ∙ sym c.find.ensures ∙ c.in-Some.is)

pub take_kid-requires-clause-room : goal.take_kid-requires-clause-room
take_kid-requires-clause-room g c =
    let a = c.args.all.now in
    let below = named_below (kids_in a) c.args.name.now c.in-Some.kid (sym (c.requires.plan.tells c.args.name.now) ∙ sym c.find.ensures ∙ c.in-Some.is) in
    let long = plans_count (kids_in a) 1 a.kids.items c.requires.plan.are_plans in
    let two = two_levels a.kids.items c.in-Some.kid (omega (arith, long, below)) in
    let room = c.requires.room in
    (omega (arith, two, room.0), omega (arith, two, room.1))

pub returns-in-None-clause-small : goal.returns-in-None-clause-small
returns-in-None-clause-small g c = λ greatest w. within_more_turns greatest (greatest + 1) c.args.position.now.turns.items (omega arith) w

pub returns-in-None-clause-gone : goal.returns-in-None-clause-gone
returns-in-None-clause-gone g c = (
  step_refused (kids_in c.args.all.now) c.args.position.now.kids.items c.args.position.now.marks.items c.args.name.now c.requires.marks
      (none_named (kids_in c.args.all.now) c.args.position.now.marks.items c.args.name.now (sym (c.requires.plan.tells c.args.name.now) ∙ sym c.find.ensures ∙ c.in-None.is)),
  record { turns = refl; kids = refl; marks = refl; wanted = refl },
)

pub returns-in-Some-clause-small : goal.returns-in-Some-clause-small
returns-in-Some-clause-small g c = λ greatest w. taken_small c.args.all.now c.in-Some.kid c.args.position.now c.take_kid.new.position c.take_kid.result greatest c.take_kid.ensures.taken w

pub returns-in-Some-clause-marks : goal.returns-in-Some-clause-marks
returns-in-Some-clause-marks g c = taken_marks c.args.all.now c.in-Some.kid c.args.position.now c.take_kid.new.position c.take_kid.result c.take_kid.ensures.taken c.requires.marks

pub returns-in-Some-clause-gone : goal.returns-in-Some-clause-gone
returns-in-Some-clause-gone g c =
    taken_gone c.args.all.now c.in-Some.kid c.args.position.now c.take_kid.new.position c.take_kid.result c.args.name.now c.take_kid.ensures.taken c.requires.marks
    (sym (c.requires.plan.tells c.args.name.now) ∙ sym c.find.ensures ∙ c.in-Some.is)
