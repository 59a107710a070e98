use Rattle.std.proofs.Common.{true, false, sym, ◌∙◌, arith}
use Rattle.base_trees.proofs.Roses.{node_count-kids}
use Rattle.content_models.specs.Seen.{seen}
use Rattle.content_match.specs.Private.Standing.{spot_of}
use Rattle.value_builder.proofs.Putting.{puts-as}
use Rattle.value_contents.specs.Private.Moves.{inner_in, moved, moved_order, top_moved}
use Rattle.value_contents.proofs.Kids.{kids_seen, on-ok}
use Rattle.value_contents.proofs.Tops.{parted-known, parted-term, parted-moves, parted-moved, whole-moved}
use Rattle.value_contents.proofs.placing.put_next.Goals as goal

pub step_parts-requires-clause-few : goal.step_parts-requires-clause-few
step_parts-requires-clause-few c =
    let few = c.requires.few in
    let k = node_count-kids c.args.top.now in
    rw c.kids.ensures (omega (arith, few, k))

pub step_parts-requires-clause-leads : goal.step_parts-requires-clause-leads
step_parts-requires-clause-leads c =
    let top = c.args.top.now in
    let kids = c.kids.result.now in
    let once = parted-known top c.label.result.now true c.label.ensures (λ ps. sym c.if-is_parted.true ∙ c.is_parted.ensures ps) in
    let is = parted-term top kids c.kids.ensures c.requires.no_all once in (
      c.requires.leads.0,
      parted-moves top (kids_seen kids) is once c.requires.leads.0 (spot_of c.args.from.turns.now c.args.from.kids.now) (spot_of c.args.to.turns.now c.args.to.kids.now) c.requires.leads.1,
    )

pub returns-then-is_parted : goal.returns-then-is_parted
returns-then-is_parted c =
    let top = c.args.top.now in
    let kids = c.kids.result.now in
    let s = spot_of c.args.from.turns.now c.args.from.kids.now in
    let u = spot_of c.args.to.turns.now c.args.to.kids.now in
    let once = parted-known top c.label.result.now true c.label.ensures (λ ps. sym c.if-is_parted.true ∙ c.is_parted.ensures ps) in
    let is = parted-term top kids c.kids.ensures c.requires.no_all once in
    on-ok c.step_parts.result _ _
    (λ put. puts-as (moved_order (kids_seen kids) (inner_in s) (inner_in u)) (top_moved (seen top) s u) _ _ (λ z. parted-moved top (kids_seen kids) is once s u z) put) c.step_parts.ensures

pub returns-else-is_parted : goal.returns-else-is_parted
returns-else-is_parted c =
    let top = c.args.top.now in
    let s = spot_of c.args.from.turns.now c.args.from.kids.now in
    let u = spot_of c.args.to.turns.now c.args.to.kids.now in
    let whole = parted-known top c.label.result.now false c.label.ensures (λ ps. sym c.if-is_parted.false ∙ c.is_parted.ensures ps) in
    on-ok c.step.result _ _ (λ put. puts-as (moved (seen top) s u) (top_moved (seen top) s u) _ _ (λ z. whole-moved top whole s u z) put) c.step.ensures
