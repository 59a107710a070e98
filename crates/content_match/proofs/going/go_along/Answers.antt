use Rattle.std.proofs.Common.{◌+◌, true, false, refl, sym, arith, subst}
use Rattle.content_match.specs.Private.Standing.{AreWithin}
use Rattle.content_match.proofs.Descending.{within_more_turns}
use Rattle.content_match.proofs.Growing.{within_entered, within_later, stopped, some_turns}
use Rattle.content_match.proofs.going.go_along.Goals as goal

pub returns-in-On-clause-small : goal.returns-in-On-clause-small
returns-in-On-clause-small g c = λ greatest w.
    let s = c.in-On.ensures.sought c.requires.plan.0 c.requires.plan.1 c.requires.plan.2 in
    let on = s.small greatest (subst (λ z. AreWithin greatest z) (sym c.deref.ensures.value) w) in
    within_entered c.enter.result s.particle c.in-On.plan.now c.in-On.turn c.args.name.now c.keep.new.turns.items c.enter.new.turns.items c.keep.new.kids.items c.enter.new.kids.items (greatest + 1)
    (c.enter.ensures.entered s.number s.particle s.plan) on
    (subst (λ z. AreWithin (greatest + 1) z) (sym c.keep.ensures.turns) (within_later greatest c.in-On.level c.in-On.kid c.args.turns.now.items w))

pub returns-in-Done : goal.returns-in-Done
returns-in-Done g c =
    record {
      ticks = let t = c.in-Done.ensures.ticks in (t.0, omega (arith, t.1));
      capacity = (refl, refl);
      small = λ greatest w. within_more_turns greatest (greatest + 1) c.args.turns.now.items (omega arith) w;
      gone = λ n p h. (
        stopped p c.args.turns.now.items c.deref.result.now c.args.kids.now.items c.deref-2.result.now c.args.name.now true
            (some_turns c.args.turns.now.items c.args.kids.now.items c.args.plan.now c.requires.stands.0 c.requires.stands.1) c.deref.ensures.value c.deref-2.ensures.value
            (c.in-Done.ensures.sought n p h),
        refl,
        refl,
      );
    }

pub returns-in-Stuck : goal.returns-in-Stuck
returns-in-Stuck g c =
    record {
      ticks = let t = c.in-Stuck.ensures.ticks in (t.0, omega (arith, t.1));
      capacity = (refl, refl);
      small = λ greatest w. within_more_turns greatest (greatest + 1) c.args.turns.now.items (omega arith) w;
      gone = λ n p h. (
        stopped p c.args.turns.now.items c.deref.result.now c.args.kids.now.items c.deref-2.result.now c.args.name.now false
            (some_turns c.args.turns.now.items c.args.kids.now.items c.args.plan.now c.requires.stands.0 c.requires.stands.1) c.deref.ensures.value c.deref-2.ensures.value
            (c.in-Stuck.ensures.sought n p h),
        refl,
        refl,
      );
    }
