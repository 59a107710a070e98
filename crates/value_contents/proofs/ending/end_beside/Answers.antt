use Rattle.std.proofs.Common.{arith}
use Rattle.content_match.specs.Private.Standing.{spot_of}
use Rattle.value_builder.proofs.Putting.{puts-as, puts-nothing}
use Rattle.value_contents.specs.Private.Moves.{inner_in, ended_order}
use Rattle.value_contents.proofs.Beside.{last-given, last-within, last-put, one-single}
use Rattle.value_contents.proofs.Kids.{kids_seen}
use Rattle.value_contents.proofs.ending.end_beside.Goals as goal

pub overflow_sub-behind : goal.overflow_sub-behind
overflow_sub-behind c =
    let from = c.args.from in
    let h = last-within c.args.particles.now _ _ (last-given c.args.particles.now from.turns.now from.kids.now c.requires.beside c.requires.done) in
    omega arith

pub bounds-particles-kid : goal.bounds-particles-kid
bounds-particles-kid c =
    let from = c.args.from in
    last-within c.args.particles.now _ _ (last-given c.args.particles.now from.turns.now from.kids.now c.requires.beside c.requires.done)

pub returns-then-is_single : goal.returns-then-is_single
returns-then-is_single c =
    let ts = c.args.particles.now in
    let from = c.args.from in
    let b = last-given ts from.turns.now from.kids.now c.requires.beside c.requires.done in
    let s = inner_in (spot_of from.turns.now from.kids.now) in
    let kid = c.index-particles-kid.result in
    let one = one-single kid c.label.result.now c.label.ensures _ c.is_single.ensures c.if-is_single.true in
    puts-as (λ z. z) (ended_order (kids_seen ts) s) _ _ (last-put ts s _ b kid c.if-behind-eq1.true c.index-particles-kid.is one) (puts-nothing c.args.values.now)
