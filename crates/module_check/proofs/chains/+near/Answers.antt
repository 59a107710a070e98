use Rattle.std.proofs.Common.{ap, sym, ◌∙◌, length, arith, ◌<◌}
use Rattle.std.specs.Option.{option_map}
use Rattle.base_trees.specs.Rose.{roses_of, count_all}
use Rattle.base_trees.proofs.Roses.{node_count-kids}
use Rattle.base_trees.proofs.Kids.{kid-count-le}
use Rattle.module_check.specs.Known.{leads_in}
use Rattle.module_check.proofs.Chaining.{near-refused, near-begun, near-failed, near-stepped, near-past}
use Rattle.module_check.proofs.chains.+near.Goals as goal

pub is_near-near-requires : goal.is_near-near-requires
is_near-near-requires t c = let d = c.decreases in (omega (arith, d), c.requires.known)

pub near-is_near-requires : goal.near-is_near-requires
near-is_near-requires t c =
    let d = c.decreases in
    let lt = c.parts-test.true in
    let few = c.min-count.ensures in
    let long = ap length c.parts_of-parts.ensures in
    let in_kids : c.parts.i < length c.kids-kids.result.now = omega (arith, lt, few) in
    let k = kid-count-le c.kids-kids.result.now c.parts.i c.index-kids-i.result in_kids c.index-kids-i.is in
    let below = node_count-kids c.args.node.now in
    let same = ap (λ ts. count_all (roses_of ts)) c.kids-kids.ensures in
    (omega (arith, d, k, below, same), (c.requires, (c.roles_of-own.ensures, omega (arith, lt, few, long))))

pub near-returns-then-not-leads_itself : goal.near-returns-then-not-leads_itself
near-returns-then-not-leads_itself t c =
    near-refused (leads_in (option_map (λ w. w.now) c.args.followed.now.within) c.args.followed.now.assignments.now) c.args.node.now
    c.label-label.result.now c.leads_itself.result c.label-label.ensures c.leads_itself.ensures c.if-not-leads_itself.true

pub near-parts-init : goal.near-parts-init
near-parts-init t c =
    near-begun (leads_in (option_map (λ w. w.now) c.args.followed.now.within) c.args.followed.now.assignments.now) c.args.node.now
    c.label-label.result.now c.leads_itself.result c.label-label.ensures c.leads_itself.ensures
    c.parts_of-parts.result.now c.kids-kids.result.now c.parts_of-parts.ensures c.kids-kids.ensures c.if-not-leads_itself.false

pub near-returns-then-not-is_near : goal.near-returns-then-not-is_near
near-returns-then-not-is_near t c =
    near-failed (leads_in (option_map (λ w. w.now) c.args.followed.now.within) c.args.followed.now.assignments.now) c.label-label.result.now
    c.parts_of-parts.result.now c.kids-kids.result.now c.parts.i c.index-parts-i.result c.index-kids-i.result c.is_near.result _
    (omega (arith, c.parts-test.true, c.min-count.ensures)) c.index-parts-i.is c.index-kids-i.is c.is_near.ensures c.parts.invariant c.if-not-is_near.true

pub near-parts-preserved : goal.near-parts-preserved
near-parts-preserved t c =
    near-stepped (leads_in (option_map (λ w. w.now) c.args.followed.now.within) c.args.followed.now.assignments.now) c.label-label.result.now
    c.parts_of-parts.result.now c.kids-kids.result.now c.parts.i c.index-parts-i.result c.index-kids-i.result c.is_near.result _
    (omega (arith, c.parts-test.true, c.min-count.ensures)) c.index-parts-i.is c.index-kids-i.is c.is_near.ensures c.parts.invariant c.if-not-is_near.false

pub near-returns : goal.near-returns
near-returns t c =
    sym (near-past (leads_in (option_map (λ w. w.now) c.args.followed.now.within) c.args.followed.now.assignments.now) c.label-label.result.now
    c.parts_of-parts.result.now c.kids-kids.result.now c.parts.i (omega (arith, c.parts-test.false, c.min-count.ensures)))
    ∙ c.parts.invariant
