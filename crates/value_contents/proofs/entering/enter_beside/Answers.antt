use Rattle.std.proofs.Common.{true}
use Rattle.content_match.specs.Private.Standing.{spot_of}
use Rattle.value_builder.specs.Built.{flagged}
use Rattle.value_builder.proofs.Putting.{puts-as}
use Rattle.value_contents.specs.Private.Moves.{inner_in, entered_order}
use Rattle.value_contents.proofs.Beside.{first-given, first-within, first-put, one-single}
use Rattle.value_contents.proofs.Kids.{kids_seen, on-ok}
use Rattle.value_contents.proofs.entering.enter_beside.Goals as goal

pub bounds-particles-kid : goal.bounds-particles-kid
bounds-particles-kid c =
    let to = c.args.to in
    first-within c.args.particles.now _ _ (first-given c.args.particles.now c.requires.leads.0 to.turns.now to.kids.now c.requires.beside c.requires.leads.1)

pub returns-then-is_single : goal.returns-then-is_single
returns-then-is_single c =
    let ts = c.args.particles.now in
    let to = c.args.to in
    let b = first-given ts c.requires.leads.0 to.turns.now to.kids.now c.requires.beside c.requires.leads.1 in
    let u = inner_in (spot_of to.turns.now to.kids.now) in
    let kid = c.index-particles-kid.result in
    let one = one-single kid c.label.result.now c.label.ensures _ c.is_single.ensures c.if-is_single.true in
    on-ok c.part.result _ _
    (λ put. puts-as (flagged true) (entered_order (kids_seen ts) u) _ _ (first-put ts u _ b kid c.if-kid-eq0.true c.index-particles-kid.is one) put) c.part.ensures
