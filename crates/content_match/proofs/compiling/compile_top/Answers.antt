use Rattle.std.proofs.Common.{sym, ◌∙◌, ap, subst, arith}
use Rattle.base_trees.specs.Rose.{roses_of, count_all}
use Rattle.base_trees.proofs.Roses.{node_count-kids}
use Rattle.content_models.specs.Seen.{seen}
use Rattle.content_match.specs.Private.Alls.{whole}
use Rattle.content_match.specs.Private.Plans.{IsPlan}
use Rattle.content_match.proofs.Compiled.{all_needs, plan_particle}
use Rattle.content_match.proofs.compiling.compile_top.Goals as goal

pub compile_kids-requires-clause-clear : goal.compile_kids-requires-clause-clear
compile_kids-requires-clause-clear c =
    (all_needs c.args.tree.now c.kids.result.now (sym c.is_all.ensures ∙ c.if-is_all.true) c.kids.ensures c.requires.clear c.requires.may_occur).each

pub compile_kids-requires-clause-may_occur : goal.compile_kids-requires-clause-may_occur
compile_kids-requires-clause-may_occur c =
    (all_needs c.args.tree.now c.kids.result.now (sym c.is_all.ensures ∙ c.if-is_all.true) c.kids.ensures c.requires.clear c.requires.may_occur).occur

pub compile_kids-requires-clause-few : goal.compile_kids-requires-clause-few
compile_kids-requires-clause-few c =
    let below = node_count-kids c.args.tree.now in
    let same = ap (λ ts. count_all (roses_of ts)) c.kids.ensures in
    let few = c.requires.few in
    omega (arith, below, same, few)

pub returns-then-is_all-clause-particle : goal.returns-then-is_all-clause-particle
returns-then-is_all-clause-particle c =
    ap whole c.in_ok-all.ensures.kids
    ∙ sym (all_needs c.args.tree.now c.kids.result.now (sym c.is_all.ensures ∙ c.if-is_all.true) c.kids.ensures c.requires.clear c.requires.may_occur).is

pub returns-clause-particle : goal.returns-clause-particle
returns-clause-particle c = plan_particle 0 (seen c.args.tree.now) c.in_ok-tree.tree c.in_ok-tree.ensures.plan

pub returns-clause-plan : goal.returns-clause-plan
returns-clause-plan c =
    subst (λ p. IsPlan 0 p c.in_ok-tree.tree) (sym (plan_particle 0 (seen c.args.tree.now) c.in_ok-tree.tree c.in_ok-tree.ensures.plan)) c.in_ok-tree.ensures.plan
