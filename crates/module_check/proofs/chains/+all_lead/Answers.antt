use Rattle.std.proofs.Common.{ap, sym, ◌∙◌, arith}
use Rattle.std.specs.Option.{option_map}
use Rattle.base_trees.specs.Rose.{roses_of, count_all}
use Rattle.base_trees.proofs.Roses.{node_count-kids}
use Rattle.base_trees.proofs.Kids.{kid-count-le}
use Rattle.module_check.specs.Known.{leads_in}
use Rattle.module_check.proofs.Chaining.{all-refused, all-begun, all-failed, all-stepped, all-past}
use Rattle.module_check.proofs.chains.+all_lead.Goals as goal

pub all_lead-requires : goal.all_lead-requires
all_lead-requires t c =
    let d = c.decreases in
    let k = kid-count-le c.kids-kids.result.now c.kids.kid-index c.kid-item.result c.kids-test.true c.kid-item.is in
    let below = node_count-kids c.args.node.now in
    let same = ap (λ ts. count_all (roses_of ts)) c.kids-kids.ensures in
    (omega (arith, d, k, below, same), c.requires)

pub returns-then-not-leads_itself : goal.returns-then-not-leads_itself
returns-then-not-leads_itself t c =
    all-refused (leads_in (option_map (λ w. w.now) c.args.followed.now.within) c.args.followed.now.assignments.now) c.args.node.now
    c.label.result.now c.leads_itself.result c.label.ensures c.leads_itself.ensures c.if-not-leads_itself.true

pub kids-init : goal.kids-init
kids-init t c =
    all-begun (leads_in (option_map (λ w. w.now) c.args.followed.now.within) c.args.followed.now.assignments.now) c.args.node.now
    c.label.result.now c.leads_itself.result c.label.ensures c.leads_itself.ensures
    c.kids-kids.result.now c.kids-kids.ensures c.if-not-leads_itself.false

pub returns-then-not-all_lead : goal.returns-then-not-all_lead
returns-then-not-all_lead t c =
    all-failed (leads_in (option_map (λ w. w.now) c.args.followed.now.within) c.args.followed.now.assignments.now)
    c.kids-kids.result.now c.kids.kid-index c.kid-item.result c.all_lead.result _
    c.kids-test.true c.kid-item.is c.all_lead.ensures c.kids.invariant c.if-not-all_lead.true

pub kids-preserved : goal.kids-preserved
kids-preserved t c =
    all-stepped (leads_in (option_map (λ w. w.now) c.args.followed.now.within) c.args.followed.now.assignments.now)
    c.kids-kids.result.now c.kids.kid-index c.kid-item.result c.all_lead.result _
    c.kids-test.true c.kid-item.is c.all_lead.ensures c.kids.invariant c.if-not-all_lead.false

pub returns : goal.returns
returns t c =
    sym (all-past (leads_in (option_map (λ w. w.now) c.args.followed.now.within) c.args.followed.now.assignments.now)
    c.kids-kids.result.now c.kids.kid-index c.kids-test.false)
    ∙ c.kids.invariant
