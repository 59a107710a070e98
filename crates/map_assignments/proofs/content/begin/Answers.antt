use Rattle.std.proofs.Common.{false, sym, subst}
use Rattle.map_assignments.specs.Plans.{part, texts}
use Rattle.map_assignments.specs.Planning.{with_texts, texts_type}
use Rattle.map_assignments.specs.Private.Building.{LeadsToNamed}
use Rattle.map_assignments.proofs.Building.{leads-init}
use Rattle.map_assignments.proofs.content.begin.Goals as goal

pub returns-in_ok-push_texts : goal.returns-in_ok-push_texts
returns-in_ok-push_texts c =
    let new = c.new-parts in
    λ place rest.
    let whole = part texts false texts_type rest in
    subst (λ b. LeadsToNamed place c.push_texts.new.parts rest (with_texts b rest)) (sym c.if-mixed.true)
    (c.in_ok-push_texts.ensures place rest whole (leads-init place new.result whole new.ensures.scope new.ensures.components new.ensures.kids))

pub returns-else-mixed : goal.returns-else-mixed
returns-else-mixed c =
    let new = c.new in
    λ place rest.
    subst (λ b. LeadsToNamed place new.result rest (with_texts b rest)) (sym c.if-mixed.false)
    (leads-init place new.result rest new.ensures.scope new.ensures.components new.ensures.kids)
