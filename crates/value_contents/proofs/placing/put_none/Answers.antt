use Rattle.std.proofs.Common.{true, false, sym, ◌∙◌, arith}
use Rattle.base_trees.proofs.Roses.{node_count-kids}
use Rattle.content_models.specs.Seen.{seen}
use Rattle.content_models.specs.Particle.{more, none}
use Rattle.value_builder.proofs.Putting.{puts-as}
use Rattle.value_contents.specs.Private.Empty.{emptied}
use Rattle.value_contents.specs.Private.Moves.{top_emptied}
use Rattle.value_contents.proofs.Kids.{kids_seen, on-ok}
use Rattle.value_contents.proofs.Tops.{parted-known, parted-term, parted-empties, parted-emptied, whole-emptied}
use Rattle.value_contents.proofs.placing.put_none.Goals as goal

pub put_empty_parts-requires-clause-few : goal.put_empty_parts-requires-clause-few
put_empty_parts-requires-clause-few c =
    let few = c.requires.few in
    let k = node_count-kids c.args.top.now in
    rw c.kids.ensures (omega (arith, few, k))

pub put_empty_parts-requires-clause-empty : goal.put_empty_parts-requires-clause-empty
put_empty_parts-requires-clause-empty c =
    let top = c.args.top.now in
    let kids = c.kids.result.now in
    let once = parted-known top c.label.result.now true c.label.ensures (λ ps. sym c.if-is_parted.true ∙ c.is_parted.ensures ps) in
    let is = parted-term top kids c.kids.ensures c.requires.no_all once in
    parted-empties top (kids_seen kids) is once c.requires.empty

pub returns-then-is_parted : goal.returns-then-is_parted
returns-then-is_parted c =
    let top = c.args.top.now in
    let kids = c.kids.result.now in
    let once = parted-known top c.label.result.now true c.label.ensures (λ ps. sym c.if-is_parted.true ∙ c.is_parted.ensures ps) in
    let is = parted-term top kids c.kids.ensures c.requires.no_all once in
    on-ok c.put_empty_parts.result _ _ (λ put. puts-as (emptied (kids_seen kids)) (top_emptied (seen top)) _ _ (λ z. parted-emptied top (kids_seen kids) is once z) put) c.put_empty_parts.ensures

pub returns-else-is_parted : goal.returns-else-is_parted
returns-else-is_parted c =
    let top = c.args.top.now in
    let whole = parted-known top c.label.result.now false c.label.ensures (λ ps. sym c.if-is_parted.false ∙ c.is_parted.ensures ps) in
    on-ok c.put_empty_part.result _ _ (λ put. puts-as (emptied (more (seen top) none)) (top_emptied (seen top)) _ _ (λ z. whole-emptied top whole z) put) c.put_empty_part.ensures
