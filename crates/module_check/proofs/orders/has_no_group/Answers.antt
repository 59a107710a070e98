use Rattle.std.proofs.Common.{◌∙◌, sym, ap}
use Rattle.module_text.specs.Orders.{is_group, parts_from, are_none}
use Rattle.module_check.proofs.Ordering.{group-here, no-group_here, no-more_groups}
use Rattle.module_check.proofs.orders.has_no_group.Goals as goal

pub parts-init : goal.parts-init
parts-init c = ap (λ ps. are_none (parts_from c.args.label.now is_group 0 ps)) c.parts_of-parts.ensures

pub returns-then-is_group : goal.returns-then-is_group
returns-then-is_group c =
    group-here c.args.label.now c.parts_of-parts.result.now c.parts.i c.index-parts-i.result c.parts-test.true c.index-parts-i.is _ (sym c.is_group.ensures ∙ c.if-is_group.true) c.parts.invariant

pub parts-preserved : goal.parts-preserved
parts-preserved c =
    no-group_here c.args.label.now c.parts_of-parts.result.now c.parts.i c.index-parts-i.result c.parts-test.true c.index-parts-i.is _ (sym c.is_group.ensures ∙ c.if-is_group.false) c.parts.invariant

pub returns : goal.returns
returns c = no-more_groups c.args.label.now c.parts_of-parts.result.now c.parts.i c.parts-test.false _ c.parts.invariant
