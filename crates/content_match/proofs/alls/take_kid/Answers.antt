use Rattle.std.proofs.Common.{◌≡◌, ◌+◌, [], ◌∷◌, Some, cond, true, set, refl, sym, ◌∙◌, ap, arith}
use Rattle.base_trees.specs.Rose.{label_of}
use Rattle.content_models.specs.Language.{turn_of}
use Rattle.content_models.specs.Spots.{picked}
use Rattle.content_match.specs.Private.Alls.{kids_in}
use Rattle.content_match.specs.Private.Plans.{own_leaf, is_needed}
use Rattle.content_match.specs.declared.plans.PlanLabel.{PlanLabel}
use Rattle.content_match.proofs.Marking.{pick_marked, pick_free}
use Rattle.content_match.proofs.Picked.{plans_count, kid_told, kid_leaf, marks_kid, wants_kid, answer_is}
use Rattle.content_match.proofs.alls.take_kid.Goals as goal

pub returns-then-is_marked-clause-taken : goal.returns-then-is_marked-clause-taken
returns-then-is_marked-clause-taken c = (
  λ a n. pick_marked (kids_in c.args.all.now) c.args.position.now.marks.items a c.args.kid c.requires.marked.marks_fit n (sym c.is_marked.ensures ∙ c.if-is_marked.true),
  record { turns = refl; kids = refl; marks = refl; wanted = refl },
)

pub index-requires : goal.index-requires
index-requires c =
    let long = plans_count (kids_in c.args.all.now) 1 c.args.all.now.kids.items c.requires.plan.are_plans in
    let below = c.requires.kid in
    let ok = c.args.all.now.kids.ok.0 in
    omega (arith, long, below, ok)

pub mark-requires-clause-wanted : goal.mark-requires-clause-wanted
mark-requires-clause-wanted c =
    let a = c.args.all.now in
    let long = plans_count (kids_in a) 1 a.kids.items c.requires.plan.are_plans in
    let below = c.requires.kid in
    wants_kid a c.args.kid c.index.result.now c.index.result.now c.is_needed.result c.args.position.now.marks.items c.args.position.now.wanted (omega (arith, long, below)) c.index.ensures
    (c.is_needed.ensures ∙ ap is_needed c.label-label.ensures) below c.requires.marked (sym c.is_marked.ensures ∙ c.if-is_marked.false)

pub returns-clause-marked : goal.returns-clause-marked
returns-clause-marked c =
    let a = c.args.all.now in
    let long = plans_count (kids_in a) 1 a.kids.items c.requires.plan.are_plans in
    let below = c.requires.kid in
    marks_kid a c.args.kid c.index.result.now c.index.result.now c.is_needed.result c.args.position.now.marks.items c.stand_on.new.self.marks.items c.args.position.now.wanted c.stand_on.new.self.wanted
    (omega (arith, long, below)) c.index.ensures (c.is_needed.ensures ∙ ap is_needed c.label-label.ensures) below c.requires.marked (sym c.is_marked.ensures ∙ c.if-is_marked.false)
    ((λ i. (c.stand_on.ensures.marks i).items) ∙ c.mark.ensures.marks) (c.mark.ensures.wanted ∙ ap (λ z. z + cond c.is_needed.result 1 0) (sym c.stand_on.ensures.wanted))

pub returns-clause-taken : goal.returns-clause-taken
returns-clause-taken c =
    let a = c.args.all.now in
    let t = c.index.result.now in
    let long = plans_count (kids_in a) 1 a.kids.items c.requires.plan.are_plans in
    let below = c.requires.kid in
    let told = kid_told (kids_in a) 1 (turn_of 0 0 ∷ []) a.kids.items c.args.kid t t c.requires.plan.are_plans c.requires.single (omega (arith, long, below)) c.index.ensures in
    let marks : c.stand_on.new.self.marks.items ≡ set c.args.position.now.marks.items c.args.kid true = (λ i. (c.stand_on.ensures.marks i).items) ∙ c.mark.ensures.marks in
    let number = ap (λ (l : PlanLabel). l.number) c.label-label.ensures in
    answer_is a c.args.kid c.args.position.now c.stand_on.new.self c.leaf.result told.leaf (c.leaf.ensures ∙ ap (λ (l : PlanLabel). own_leaf l.number l.kind) c.label-label.ensures ∙ told.leaf_is) (
      λ b n. pick_free (kids_in a) c.args.position.now.marks.items b c.args.kid c.requires.marked.marks_fit n (sym c.is_marked.ensures ∙ c.if-is_marked.false) ∙ ap (λ zs. Some (picked c.args.kid zs)) (sym marks),
      c.stand_on.ensures.kids,
      c.stand_on.ensures.turns ∙ (λ i. record { particle = 0; turn = 0 } ∷ record { particle = (number ∙ sym told.number) i; turn = 0 } ∷ []),
      kid_leaf (kids_in a) c.args.kid (label_of t) c.stand_on.new.self.turns.items c.stand_on.new.self.kids.items c.stand_on.new.self.marks.items told c.stand_on.ensures.kids
          (c.stand_on.ensures.turns ∙ (λ i. record { particle = 0; turn = 0 } ∷ record { particle = number i; turn = 0 } ∷ [])),
    )
