use Rattle.std.proofs.Common.{true, false, sym, ◌∙◌, arith}
use Rattle.base_trees.proofs.Roses.{node_count-kids}
use Rattle.content_models.specs.Seen.{seen}
use Rattle.content_match.specs.Private.Standing.{spot_of}
use Rattle.value_builder.proofs.Putting.{puts-as}
use Rattle.value_contents.specs.Private.Moves.{inner_in, ended, ended_order, top_ended}
use Rattle.value_contents.proofs.Kids.{kids_seen, finishes-seen, on-ok}
use Rattle.value_contents.proofs.Tops.{parted-known, parted-term, parted-finishes, parted-ended, whole-ended}
use Rattle.value_contents.proofs.placing.put_last.Goals as goal

pub end_parts-requires-clause-few : goal.end_parts-requires-clause-few
end_parts-requires-clause-few c =
    let few = c.requires.few in
    let k = node_count-kids c.args.top.now in
    rw c.kids.ensures (omega (arith, few, k))

pub end_parts-requires-clause-done : goal.end_parts-requires-clause-done
end_parts-requires-clause-done c =
    let top = c.args.top.now in
    let kids = c.kids.result.now in
    let once = parted-known top c.label.result.now true c.label.ensures (λ ps. sym c.if-is_parted.true ∙ c.is_parted.ensures ps) in
    let is = parted-term top kids c.kids.ensures c.requires.no_all once in
    parted-finishes top (kids_seen kids) is once (spot_of c.args.from.turns.now c.args.from.kids.now) c.requires.done

pub returns-then-is_parted : goal.returns-then-is_parted
returns-then-is_parted c =
    let top = c.args.top.now in
    let kids = c.kids.result.now in
    let s = spot_of c.args.from.turns.now c.args.from.kids.now in
    let once = parted-known top c.label.result.now true c.label.ensures (λ ps. sym c.if-is_parted.true ∙ c.is_parted.ensures ps) in
    let is = parted-term top kids c.kids.ensures c.requires.no_all once in
    on-ok c.end_parts.result _ _ (λ put. puts-as (ended_order (kids_seen kids) (inner_in s)) (top_ended (seen top) s) _ _ (λ z. parted-ended top (kids_seen kids) is once s z) put) c.end_parts.ensures

pub end-requires-clause-done : goal.end-requires-clause-done
end-requires-clause-done c = finishes-seen c.args.top.now (spot_of c.args.from.turns.now c.args.from.kids.now) c.requires.done

pub returns-else-is_parted : goal.returns-else-is_parted
returns-else-is_parted c =
    let top = c.args.top.now in
    let s = spot_of c.args.from.turns.now c.args.from.kids.now in
    let whole = parted-known top c.label.result.now false c.label.ensures (λ ps. sym c.if-is_parted.false ∙ c.is_parted.ensures ps) in
    on-ok c.end.result _ _ (λ put. puts-as (ended false (seen top) s) (top_ended (seen top) s) _ _ (λ z. whole-ended top whole s z) put) c.end.ensures
