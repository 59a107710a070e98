use Rattle.std.proofs.Common.{true, false, sym, ◌∙◌, arith}
use Rattle.base_trees.proofs.Roses.{node_count-kids}
use Rattle.content_models.specs.Seen.{seen}
use Rattle.content_match.specs.Private.Standing.{spot_of}
use Rattle.value_builder.specs.Built.{flagged}
use Rattle.value_builder.proofs.Putting.{puts-then, puts-as}
use Rattle.value_contents.specs.Private.Moves.{inner_in, entered, entered_order, top_entered}
use Rattle.value_contents.proofs.Kids.{kids_seen, enter-seen, on-ok}
use Rattle.value_contents.proofs.Tops.{parted-known, parted-term, parted-enters, parted-entered, whole-entered}
use Rattle.value_contents.proofs.placing.put_first.Goals as goal

pub enter_parts-requires-clause-few : goal.enter_parts-requires-clause-few
enter_parts-requires-clause-few c =
    let few = c.requires.few in
    let k = node_count-kids c.args.top.now in
    rw c.kids.ensures (omega (arith, few, k))

pub enter_parts-requires-clause-leads : goal.enter_parts-requires-clause-leads
enter_parts-requires-clause-leads c =
    let top = c.args.top.now in
    let kids = c.kids.result.now in
    let once = parted-known top c.label.result.now true c.label.ensures (λ ps. sym c.if-is_parted.true ∙ c.is_parted.ensures ps) in
    let is = parted-term top kids c.kids.ensures c.requires.no_all once in
    (c.requires.leads.0, parted-enters top (kids_seen kids) is once c.requires.leads.0 (spot_of c.args.to.turns.now c.args.to.kids.now) c.requires.leads.1)

pub returns-then-is_parted : goal.returns-then-is_parted
returns-then-is_parted c =
    let top = c.args.top.now in
    let kids = c.kids.result.now in
    let u = spot_of c.args.to.turns.now c.args.to.kids.now in
    let once = parted-known top c.label.result.now true c.label.ensures (λ ps. sym c.if-is_parted.true ∙ c.is_parted.ensures ps) in
    let is = parted-term top kids c.kids.ensures c.requires.no_all once in
    on-ok c.enter_parts.result _ _ (λ put. puts-as (entered_order (kids_seen kids) (inner_in u)) (top_entered (seen top) u) _ _ (λ z. parted-entered top (kids_seen kids) is once u z) put) c.enter_parts.ensures

pub enter-requires-clause-leads : goal.enter-requires-clause-leads
enter-requires-clause-leads c =
    (c.requires.leads.0, enter-seen c.args.top.now c.requires.leads.0 (spot_of c.args.to.turns.now c.args.to.kids.now) c.requires.leads.1)

pub returns : goal.returns
returns c =
    let top = c.args.top.now in
    let u = spot_of c.args.to.turns.now c.args.to.kids.now in
    let whole = parted-known top c.label.result.now false c.label.ensures (λ ps. sym c.if-is_parted.false ∙ c.is_parted.ensures ps) in
    on-ok c.enter.result _ _
    (λ put. puts-then (flagged true) (entered false (seen top) u) (top_entered (seen top) u) _ _ _ (λ z. whole-entered top whole u z) c.in_ok-part.ensures put) c.enter.ensures
