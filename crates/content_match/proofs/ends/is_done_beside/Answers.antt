use Rattle.std.proofs.Common.{◌≡◌, get_or, ◌∙◌, ap}
use Rattle.base_trees.specs.Rose.{label_of, kids_of}
use Rattle.content_models.specs.Spots.{may_stop}
use Rattle.content_match.specs.declared.plans.PlanKind.TheVariants.{Leaf as PlanLeaf, Group as PlanGroup}
use Rattle.content_match.specs.declared.plans.PlanLabel.{PlanLabel}
use Rattle.content_match.proofs.Planned.{got}
use Rattle.content_match.proofs.Descending.{kind_of}
use Rattle.content_match.proofs.Nearby.{done_beside, kid_on_way, no_leaf}
use Rattle.content_match.proofs.ends.is_done_beside.Goals as goal

pub returns-in-Leaf : goal.returns-in-Leaf
returns-in-Leaf c = λ n p h.
    absurd (no_leaf c.args.turns.now c.args.kids.now c.args.plan.now c.in-Leaf.decl c.in-Leaf.name c.requires.stands c.requires.two
    (kind_of c.label-label.result.now c.args.plan.now (PlanLeaf c.in-Leaf.decl c.in-Leaf.name) c.label-label.ensures c.in-Leaf.is) n p h)

pub returns-in-Group : goal.returns-in-Group
returns-in-Group c =
    let last = (get_or c.args.turns.now 1 (record { particle = 0; turn = 0 })).turn in
    let below = kid_on_way c.args.turns.now c.args.kids.now c.args.plan.now c.requires.stands c.requires.two in
    let kid = got (kids_of c.args.plan.now) (get_or c.args.kids.now 0 0) c.index-below-kid.result below (rw c.kids-below.ensures at c.index-below-kid.is) in
    done_beside c.args.turns.now c.args.kids.now c.args.plan.now c.in-Group.group c.may_stop-done.result c.closes.result c.may_stop.result c.requires.stands c.requires.two
    (kind_of c.label-label.result.now c.args.plan.now (PlanGroup c.in-Group.group) c.label-label.ensures c.in-Group.is)
    (λ child there.
    let same : c.index-below-kid.result ≡ child = cc (kid, there) in
    c.may_stop-done.ensures ∙ ap (λ (l : PlanLabel). may_stop l.min last) (c.label.ensures ∙ ap label_of same))
    c.closes.ensures
    (c.may_stop.ensures ∙ ap (λ (l : PlanLabel). may_stop l.min (get_or c.args.turns.now 0 (record { particle = 0; turn = 0 })).turn) c.label-label.ensures)
