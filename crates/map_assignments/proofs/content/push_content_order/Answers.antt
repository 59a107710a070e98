use Rattle.std.proofs.Common.{true, false, [], if◌then◌else◌, sym, subst}
use Rattle.content_models.specs.Seen.{seen}
use Rattle.map_assignments.specs.Planning.{labels, labels_before, is_all, is_mixed, is_ordered, order_type, order_plan, with_order, content_parts, top}
use Rattle.map_assignments.specs.Private.Building.{LeadsToNamed}
use Rattle.map_assignments.proofs.Building.{on_ok}
use Rattle.map_assignments.proofs.Ordering.{in-order}
use Rattle.map_assignments.proofs.content.push_content_order.Goals as goal

pub returns-in-ElementOnly : goal.returns-in-ElementOnly
returns-in-ElementOnly c =
    let d = c.args.definition.now in
    let n = c.args.nillable in
    let now = c.args.parts.now in
    on_ok c.push_all_order.result _ _
    (λ h place T s rest whole lead.
    h place T rest whole
    (subst (λ us. LeadsToNamed place now (with_order (is_all (seen c.root.result.now)) (order_type (if n then [] else labels_before false us) (labels (top T (seen c.root.result.now)))) rest) whole) (sym c.items-uses.ensures)
    (subst (λ p. LeadsToNamed place now (with_order (is_all (seen p)) (order_type (if n then [] else labels_before false d.uses) (labels (top T (seen p)))) rest) whole) (sym c.root.ensures.root)
    (subst (λ k. LeadsToNamed place now (with_order (is_ordered k) (order_type (if n then [] else labels_before (is_mixed k) d.uses) (labels (content_parts T s k))) rest) whole) c.in-ElementOnly.is lead))))
    c.push_all_order.ensures

pub returns-in-Mixed : goal.returns-in-Mixed
returns-in-Mixed c =
    let d = c.args.definition.now in
    let n = c.args.nillable in
    let now = c.args.parts.now in
    on_ok c.push_all_order-in-Mixed.result _ _
    (λ h place T s rest whole lead.
    h place T rest whole
    (subst (λ us. LeadsToNamed place now (with_order (is_all (seen c.root-in-Mixed.result.now)) (order_type (if n then [] else labels_before true us) (labels (top T (seen c.root-in-Mixed.result.now)))) rest) whole) (sym c.items-uses.ensures)
    (subst (λ p. LeadsToNamed place now (with_order (is_all (seen p)) (order_type (if n then [] else labels_before true d.uses) (labels (top T (seen p)))) rest) whole) (sym c.root-in-Mixed.ensures.root)
    (subst (λ k. LeadsToNamed place now (with_order (is_ordered k) (order_type (if n then [] else labels_before (is_mixed k) d.uses) (labels (content_parts T s k))) rest) whole) c.in-Mixed.is lead))))
    c.push_all_order-in-Mixed.ensures

pub returns-in_default : goal.returns-in_default
returns-in_default c =
    let d = c.args.definition.now in
    λ place T s rest whole lead.
    subst (λ b. LeadsToNamed place c.args.parts.now (with_order b (order_plan T s c.args.nillable d) rest) whole) (in-order d.content c.in_default.not-ElementOnly c.in_default.not-Mixed) lead
