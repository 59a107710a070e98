use Rattle.std.proofs.Common.{length, ◌∙◌, ap, arith}
use Rattle.base_trees.specs.Rose.{roses_of}
use Rattle.base_trees.proofs.Roses.{length-le-count_all}
use Rattle.content_models.specs.Seen.{all_seen}
use Rattle.content_match.specs.Private.Alls.{needed, wanted_in}
use Rattle.content_match.proofs.Compiled.{all_plan, count_le}
use Rattle.content_match.proofs.Picked.{plans_count}
use Rattle.content_match.proofs.compiling.compile_kids.Goals as goal

pub one_group-requires : goal.one_group-requires
one_group-requires c =
    let long = length-le-count_all c.args.kids.now in
    let few = c.requires.few in
    record { few = omega (arith, long, few) }

pub count_needed-required-requires : goal.count_needed-required-requires
count_needed-required-requires c =
    let count = plans_count (all_seen (roses_of c.args.kids.now)) 1 c.in_ok-kids.kids.items c.in_ok-kids.ensures.plans in
    let least = count_le c.args.kids.now in
    let same = ap length c.deref.ensures.value in
    let few = c.requires.few in
    omega (arith, count, least, same, few)

pub returns-clause-kids : goal.returns-clause-kids
returns-clause-kids c =
    let count = plans_count (all_seen (roses_of c.args.kids.now)) 1 c.in_ok-kids.kids.items c.in_ok-kids.ensures.plans in
    let least = count_le c.args.kids.now in
    let few = c.requires.few in
    (all_plan (record { group = c.in_ok-group.group; kids = c.in_ok-kids.kids; required = c.count_needed-required.result }) (all_seen (roses_of c.args.kids.now)) c.in_ok-kids.ensures.plans c.in_ok-group.ensures.1
    (c.count_needed-required.ensures ∙ ap (λ ts. wanted_in (needed ts)) c.deref.ensures.value) (omega (arith, count, least, few))).0

pub returns-clause-plan : goal.returns-clause-plan
returns-clause-plan c =
    let count = plans_count (all_seen (roses_of c.args.kids.now)) 1 c.in_ok-kids.kids.items c.in_ok-kids.ensures.plans in
    let least = count_le c.args.kids.now in
    let few = c.requires.few in
    (all_plan (record { group = c.in_ok-group.group; kids = c.in_ok-kids.kids; required = c.count_needed-required.result }) (all_seen (roses_of c.args.kids.now)) c.in_ok-kids.ensures.plans c.in_ok-group.ensures.1
    (c.count_needed-required.ensures ∙ ap (λ ts. wanted_in (needed ts)) c.deref.ensures.value) (omega (arith, count, least, few))).1
