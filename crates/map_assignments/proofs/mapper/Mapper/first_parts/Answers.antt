use Rattle.std.proofs.Common.{sym, subst}
use Rattle.map_assignments.specs.Planning.{attributes, is_mixed, is_ordered, with_texts, with_order, order_plan}
use Rattle.map_assignments.specs.Private.Placing.{place_of}
use Rattle.map_assignments.specs.Private.Building.{LeadsToNamed}
use Rattle.map_assignments.proofs.mapper.Mapper.first_parts.Goals as goal

pub returns : goal.returns
returns c =
    let s = c.args.self.set.now in
    let place = place_of c.args.self.places.now in
    let d = c.args.definition.now in
    λ T rest.
    let parts = attributes s d.uses rest in
    let ordered = with_order (is_ordered d.content) (order_plan T s c.args.nillable d) parts in
    let whole = with_texts (is_mixed d.content) ordered in
    let begun = subst (λ b. LeadsToNamed place c.in_ok-parts.parts ordered (with_texts b ordered)) c.is_mixed.ensures (c.in_ok-parts.ensures place ordered) in
    let told = c.in_ok-push_content_order.ensures place T s parts whole begun in
    c.in_ok-push_attributes.ensures rest whole (subst (λ us. LeadsToNamed place c.push_content_order.new.parts (attributes s us rest) whole) (sym c.items.ensures) told)
