use Rattle.std.proofs.Common.{sym, ap, ◌∙◌, arith, take}
use Rattle.base_trees.specs.Rose.{roses_of}
use Rattle.base_trees.proofs.Roses.{node_count-kids}
use Rattle.base_trees.proofs.Kids.{kid-count-le, take-more_kid}
use Rattle.simple_types.specs.Space.{ListOf, UnionOf}
use Rattle.simple_types.specs.Seen.{space_of, spaces_in}
use Rattle.simple_types.proofs.Seen.{union_space, list_space}
use Rattle.asn_types.specs.Spaces.{spaces_at, first_space}
use Rattle.asn_types.proofs.Making.{members-more, bool_space, first-empty, list-space_at, union-space_at}
use Rattle.asn_types.proofs.simples.+making.Goals as goal

pub made_members-simple_at-requires : goal.made_members-simple_at-requires
made_members-simple_at-requires t c =
    let d = c.decreases in
    let k = kid-count-le c.args.kids.now c.kids.kid-index c.kid-item.result c.kids-test.true c.kid-item.is in
    (omega (arith, d, k), tt)

pub made_members-kids-preserved : goal.made_members-kids-preserved
made_members-kids-preserved t c =
    let kids = c.args.kids.now in
    let i = c.kids.kid-index in
    let kid = c.kid-item.result in
    ap spaces_in c.in_ok-push.ensures.items
    ∙ members-more c.kids.members.items (take i kids) c.in_ok-member.member kid c.kids.invariant c.in_ok-member.ensures
    ∙ ap (λ ts. spaces_at (roses_of ts)) (sym (take-more_kid kids i kid c.kids-test.true c.kid-item.is))

pub made_item-returns-in-empty : goal.made_item-returns-in-empty
made_item-returns-in-empty t c = bool_space ∙ sym (first-empty c.args.kids.now c.in-empty.len_below)

pub simple_at-made_item-requires : goal.simple_at-made_item-requires
simple_at-made_item-requires t c =
    let d = c.decreases in
    let k = node_count-kids c.args.node.now in
    (rw c.kids.ensures (omega (arith, d, k)), tt)

pub simple_at-made_members-requires : goal.simple_at-made_members-requires
simple_at-made_members-requires t c =
    let d = c.decreases in
    let k = node_count-kids c.args.node.now in
    (rw c.kids-in-Choice.ensures (omega (arith, d, k)), tt)

pub simple_at-returns-in_ok-item-in-SequenceOf-2 : goal.simple_at-returns-in_ok-item-in-SequenceOf-2
simple_at-returns-in_ok-item-in-SequenceOf-2 t c =
    let least = c.in-SequenceOf.min in
    let most = c.in-SequenceOf.max in
    let form = ap (λ l. l.form) (sym c.label-label.ensures) ∙ c.in-SequenceOf.is in
    list_space c.in_ok-item-in-SequenceOf-2.item least most
    ∙ ap (λ s. ListOf s least most) (ap space_of c.in_ok-item-in-SequenceOf-2.ensures.ok ∙ c.in_ok-item-in-SequenceOf.ensures)
    ∙ ap (λ ks. ListOf (first_space (roses_of ks)) least most) c.kids.ensures
    ∙ sym (list-space_at c.args.node.now c.in-SequenceOf.part least most form)

pub simple_at-returns-in_ok-members-in-Choice : goal.simple_at-returns-in_ok-members-in-Choice
simple_at-returns-in_ok-members-in-Choice t c =
    let form = ap (λ l. l.form) (sym c.label-label.ensures) ∙ c.in-Choice.is in
    union_space c.of.result
    ∙ ap UnionOf (c.of.ensures ∙ c.in_ok-members-in-Choice.ensures)
    ∙ ap (λ ks. UnionOf (spaces_at (roses_of ks))) c.kids-in-Choice.ensures
    ∙ sym (union-space_at c.args.node.now c.in-Choice.parts form)
