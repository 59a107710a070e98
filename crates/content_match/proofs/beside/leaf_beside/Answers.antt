use Rattle.std.proofs.Common.{◌≡◌, ◌+◌, Some, refl, sym, ◌∙◌, ap}
use Rattle.std.specs.Prelude.{slice_get}
use Rattle.base_trees.specs.Rose.{kids_of}
use Rattle.content_models.specs.Spots.{may_stop}
use Rattle.content_match.specs.declared.plans.PlanKind.TheVariants.{Leaf as PlanLeaf}
use Rattle.content_match.specs.declared.plans.PlanLabel.{PlanLabel}
use Rattle.content_match.proofs.Descending.{kind_of}
use Rattle.content_match.proofs.Nearby.{again_beside, again_both, again_not, each_some}
use Rattle.content_match.proofs.Planned.{got}
use Rattle.content_match.proofs.beside.leaf_beside.Goals as goal

pub returns-in-Some : goal.returns-in-Some
returns-in-Some c =
    let there : slice_get (kids_of c.args.plan.now) c.args.kid ≡ Some c.index-below-kid.result =
    got (kids_of c.args.plan.now) c.args.kid c.index-below-kid.result c.requires.kid (rw c.kids-below.ensures at c.index-below-kid.is) in
    let kind = kind_of c.label-label.result.now c.index-below-kid.result (PlanLeaf c.in-Leaf.decl c.in-Leaf.own) c.label-label.ensures c.in-Leaf.is in
    again_beside c.args.plan.now c.index-below-kid.result c.args.kid c.args.turn c.in-Leaf.decl c.in-Leaf.own c.args.name.now
    (record { kid = c.args.kid; turn = c.args.turn + 1; leaf = record { particle = c.label-label.result.now.number; decl = c.in-Leaf.decl } }) there kind
    (again_both c.label-label.result.now c.index-below-kid.result c.args.turn c.in-Leaf.own c.args.name.now c.in-Some.field-0 c.label-label.ensures (sym c.again_at.ensures ∙ c.in-Some.is)) refl refl
    (ap (λ (l : PlanLabel). l.number) c.label-label.ensures) refl

pub returns-then-may_stop : goal.returns-then-may_stop
returns-then-may_stop c =
    let there : slice_get (kids_of c.args.plan.now) c.args.kid ≡ Some c.index-below-kid.result =
    got (kids_of c.args.plan.now) c.args.kid c.index-below-kid.result c.requires.kid (rw c.kids-below.ensures at c.index-below-kid.is) in
    let kind = kind_of c.label-label.result.now c.index-below-kid.result (PlanLeaf c.in-Leaf.decl c.in-Leaf.own) c.label-label.ensures c.in-Leaf.is in
    each_some c.leaf_behind.result c.args.plan.now c.index-below-kid.result c.args.kid c.args.turn c.in-Leaf.decl c.in-Leaf.own c.args.name.now there kind
    (again_not c.label-label.result.now c.index-below-kid.result c.args.turn c.in-Leaf.own c.args.name.now c.label-label.ensures (sym c.again_at.ensures ∙ c.in-None.is))
    (ap (λ (l : PlanLabel). may_stop l.min c.args.turn) (sym c.label-label.ensures) ∙ sym c.may_stop.ensures ∙ c.if-may_stop.true) c.leaf_behind.ensures
