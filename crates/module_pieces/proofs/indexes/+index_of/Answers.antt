use Rattle.std.proofs.Common.{ap, sym, subst, arith}
use Rattle.std.proofs.lemmas.List.{take_all}
use Rattle.base_trees.specs.Rose.{Rose, node, roses_of, count_all, kids_of, label_of}
use Rattle.base_trees.proofs.Roses.{node_count-kids}
use Rattle.base_trees.proofs.Kids.{kid-count-le}
use Rattle.module_pieces.specs.Indexed.{IsIndex, Indexes, IndexAll}
use Rattle.module_pieces.proofs.Kept.{all-more, whole-index}
use Rattle.module_pieces.proofs.indexes.+index_of.Goals as goal

pub index_of-requires : goal.index_of-requires
index_of-requires t c =
    let d = c.decreases in
    let k = kid-count-le c.kids-kids.result.now c.kids.kid-index c.kid-item.result c.kids-test.true c.kid-item.is in
    let below = node_count-kids c.args.node.now in
    let same = ap (λ ts. count_all (roses_of ts)) c.kids-kids.ensures in
    (omega (arith, d, k, below, same), tt)

pub kids-preserved : goal.kids-preserved
kids-preserved t c =
    all-more c.kids.indexes.items _ c.kids-kids.result.now c.kids.kid-index _ c.kid-item.result
    c.kids-test.true c.kid-item.is c.kids.invariant c.in_ok-index_of.ensures c.in_ok-push.ensures.items

pub returns : goal.returns
returns t c =
    let kids = c.kids-kids.result.now in
    let all = subst (λ us. IndexAll (roses_of c.kids.indexes.items) (roses_of us)) (take_all c.kids.kid-index kids c.kids-test.false) c.kids.invariant in
    let own = subst (IsIndex c.in_ok-own.own) c.label.ensures c.in_ok-own.ensures in
    subst (λ (made : Rose _). Indexes made c.args.node.now) (sym c.join.ensures)
    (whole-index c.args.node.now c.in_ok-own.own c.kids.indexes.items own (subst (λ us. IndexAll (roses_of c.kids.indexes.items) (roses_of us)) c.kids-kids.ensures all))
