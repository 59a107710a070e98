use Rattle.std.proofs.Common.{false, [], refl, if◌then◌else◌, sym, subst, ◌∙◌}
use Rattle.content_models.specs.Seen.{seen}
use Rattle.map_assignments.specs.Plans.{order}
use Rattle.map_assignments.specs.Planning.{labels, labels_before, order_type, with_order, top}
use Rattle.map_assignments.specs.Naming.{IsNamed}
use Rattle.map_assignments.specs.Private.Building.{LeadsToNamed}
use Rattle.map_assignments.proofs.Building.{on_ok, adds-marked, adds-next}
use Rattle.map_assignments.proofs.Ordering.{all-top}
use Rattle.map_assignments.proofs.content.push_all_order.Goals as goal

pub returns-in_ok-kid : goal.returns-in_ok-kid
returns-in_ok-kid c =
    let particle = c.args.particle.now in
    let firsts = if c.args.nillable then [] else labels_before c.args.mixed c.args.uses.now in
    let is = sym c.is_all.ensures ∙ c.if-is_all.true in
    on_ok c.push_marked.result _ _
    (λ added place T rest whole lead.
    let type = order_type firsts (labels (top T (seen particle))) in
    adds-next place c.args.parts.now c.push_marked.new.self order false type c.in_ok-kid.kid rest whole
    (adds-marked c.args.parts.now c.push_marked.new.self order _ _ false c.in_ok-kid.kid refl refl (λ g. c.of.ensures ∙ c.new.ensures.items) added)
    (subst (λ ps. IsNamed place (order_type firsts (labels ps)) c.in_ok-kid.kid) (sym (all-top T particle c.kids.result.now c.kids.ensures is)) (c.in_ok-kid.ensures place T))
    (subst (λ b. LeadsToNamed place c.args.parts.now (with_order b type rest) whole) is lead))
    c.push_marked.ensures

pub returns-else-is_all : goal.returns-else-is_all
returns-else-is_all c =
    let particle = c.args.particle.now in
    let firsts = if c.args.nillable then [] else labels_before c.args.mixed c.args.uses.now in
    λ place T rest whole lead.
    subst (λ b. LeadsToNamed place c.args.parts.now (with_order b (order_type firsts (labels (top T (seen particle)))) rest) whole) (sym c.is_all.ensures ∙ c.if-is_all.false) lead
