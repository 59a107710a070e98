use Rattle.std.proofs.Common.{◌<◌, ◌+◌, ◌-◌, true, false, length, take, drop, sym, arith}
use Rattle.std.proofs.lemmas.List.{length-take}
use Rattle.base_trees.proofs.Kids.{kid-count-le, count_all-take-le, count_all-drop-le}
use Rattle.content_models.specs.Seen.{seen}
use Rattle.content_models.specs.Spots.{inside}
use Rattle.content_match.specs.Private.Standing.{spot_of}
use Rattle.value_builder.specs.Built.{flagged}
use Rattle.value_builder.proofs.Putting.{puts-then, puts-both}
use Rattle.value_contents.specs.Private.Empty.{emptied}
use Rattle.value_contents.specs.Private.Moves.{entered, ended, moved_order}
use Rattle.value_contents.proofs.Kids.{kids_seen, enter-seen, finishes-seen, order-moves-within, over-leaves, over-left, on-ok, kid-there}
use Rattle.value_contents.proofs.moving.step_over.Goals as goal

pub bounds-particles-old : goal.bounds-particles-old
bounds-particles-old c =
    let s = spot_of c.args.from.path.turns.now c.args.from.path.kids.now in
    let u = spot_of c.args.to.path.turns.now c.args.to.path.kids.now in
    let h = order-moves-within c.args.particles.now c.requires.leads.0 c.args.from.kid c.args.to.kid s u c.requires.leads.1 in
    let under = h.0 in
    let within = h.1 in
    omega arith

pub end-requires-clause-few : goal.end-requires-clause-few
end-requires-clause-few c =
    let ts = c.args.particles.now in
    let s = spot_of c.args.from.path.turns.now c.args.from.path.kids.now in
    let u = spot_of c.args.to.path.turns.now c.args.to.path.kids.now in
    let h = order-moves-within ts c.requires.leads.0 c.args.from.kid c.args.to.kid s u c.requires.leads.1 in
    let under = h.0 in
    let below = h.1 in
    let within : c.args.from.kid < length ts = omega arith in
    let few = c.requires.few in
    omega (arith, few, kid-count-le ts c.args.from.kid c.index-particles-old.result within c.index-particles-old.is)

pub end-requires-clause-done : goal.end-requires-clause-done
end-requires-clause-done c =
    let ts = c.args.particles.now in
    let a = c.requires.leads.0 in
    let j = c.args.from.kid in
    let k = c.args.to.kid in
    let s = spot_of c.args.from.path.turns.now c.args.from.path.kids.now in
    let u = spot_of c.args.to.path.turns.now c.args.to.path.kids.now in
    let h = order-moves-within ts a j k s u c.requires.leads.1 in
    let under = h.0 in
    let below = h.1 in
    let within : j < length ts = omega arith in
    let new = kid-there ts k below in
    finishes-seen c.index-particles-old.result s (over-leaves ts j c.index-particles-old.result within c.index-particles-old.is k new.0 c.requires.later below new.1 a s u c.requires.leads.1).0

pub slice_bounds-put_empty_parts-end : goal.slice_bounds-put_empty_parts-end
slice_bounds-put_empty_parts-end c =
    let ts = c.args.particles.now in
    let s = spot_of c.args.from.path.turns.now c.args.from.path.kids.now in
    let u = spot_of c.args.to.path.turns.now c.args.to.path.kids.now in
    let h = order-moves-within ts c.requires.leads.0 c.args.from.kid c.args.to.kid s u c.requires.leads.1 in
    let under = h.0 in
    let within = h.1 in
    omega (arith, length-take c.args.to.kid ts)

pub put_empty_parts-requires-clause-few : goal.put_empty_parts-requires-clause-few
put_empty_parts-requires-clause-few c =
    let ts = c.args.particles.now in
    let few = c.requires.few in
    omega (arith, few, count_all-take-le (drop (c.args.from.kid + 1) ts) (c.args.to.kid - (c.args.from.kid + 1)), count_all-drop-le ts (c.args.from.kid + 1))

pub put_empty_parts-requires-clause-empty : goal.put_empty_parts-requires-clause-empty
put_empty_parts-requires-clause-empty c =
    let ts = c.args.particles.now in
    let a = c.requires.leads.0 in
    let j = c.args.from.kid in
    let k = c.args.to.kid in
    let s = spot_of c.args.from.path.turns.now c.args.from.path.kids.now in
    let u = spot_of c.args.to.path.turns.now c.args.to.path.kids.now in
    let h = order-moves-within ts a j k s u c.requires.leads.1 in
    let under = h.0 in
    let below = h.1 in
    let within : j < length ts = omega arith in
    let new = kid-there ts k below in
    (over-leaves ts j c.index-particles-old.result within c.index-particles-old.is k new.0 c.requires.later below new.1 a s u c.requires.leads.1).1

pub bounds-particles-new : goal.bounds-particles-new
bounds-particles-new c =
    let s = spot_of c.args.from.path.turns.now c.args.from.path.kids.now in
    let u = spot_of c.args.to.path.turns.now c.args.to.path.kids.now in
    (order-moves-within c.args.particles.now c.requires.leads.0 c.args.from.kid c.args.to.kid s u c.requires.leads.1).1

pub enter-requires-clause-few : goal.enter-requires-clause-few
enter-requires-clause-few c =
    let ts = c.args.particles.now in
    let s = spot_of c.args.from.path.turns.now c.args.from.path.kids.now in
    let u = spot_of c.args.to.path.turns.now c.args.to.path.kids.now in
    let below = (order-moves-within ts c.requires.leads.0 c.args.from.kid c.args.to.kid s u c.requires.leads.1).1 in
    let few = c.requires.few in
    omega (arith, few, kid-count-le ts c.args.to.kid c.index-particles-new.result below c.index-particles-new.is)

pub enter-requires-clause-leads : goal.enter-requires-clause-leads
enter-requires-clause-leads c =
    let ts = c.args.particles.now in
    let a = c.requires.leads.0 in
    let j = c.args.from.kid in
    let k = c.args.to.kid in
    let s = spot_of c.args.from.path.turns.now c.args.from.path.kids.now in
    let u = spot_of c.args.to.path.turns.now c.args.to.path.kids.now in
    let h = order-moves-within ts a j k s u c.requires.leads.1 in
    let under = h.0 in
    let below = h.1 in
    let within : j < length ts = omega arith in
    let new = c.index-particles-new.result in
    (a, enter-seen new a u (over-leaves ts j c.index-particles-old.result within c.index-particles-old.is k new c.requires.later below c.index-particles-new.is a s u c.requires.leads.1).2)

pub returns : goal.returns
returns c =
    let ts = c.args.particles.now in
    let a = c.requires.leads.0 in
    let j = c.args.from.kid in
    let k = c.args.to.kid in
    let s = spot_of c.args.from.path.turns.now c.args.from.path.kids.now in
    let u = spot_of c.args.to.path.turns.now c.args.to.path.kids.now in
    let h = order-moves-within ts a j k s u c.requires.leads.1 in
    let under = h.0 in
    let below = h.1 in
    let within : j < length ts = omega arith in
    let old = c.index-particles-old.result in
    let new = c.index-particles-new.result in
    let between = emptied (kids_seen (take (k - (j + 1)) (drop (j + 1) ts))) in
    on-ok c.enter.result _ _
    (λ put. puts-then (λ z. flagged true (between (ended false (seen old) s z))) (entered false (seen new) u) (moved_order (kids_seen ts) (inside j s) (inside k u)) _ _ _
    (λ z. sym (over-left ts j old within c.index-particles-old.is k new c.requires.later below c.index-particles-new.is s u z))
    (puts-both (λ z. between (ended false (seen old) s z)) (flagged true) _ _ _ (puts-both (ended false (seen old) s) between _ _ _ c.in_ok-end.ensures c.in_ok-put_empty_parts.ensures) c.in_ok-part.ensures) put)
    c.enter.ensures
