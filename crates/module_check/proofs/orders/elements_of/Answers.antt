use Rattle.std.proofs.Common.{◌++◌, sym, ap, ◌∙◌}
use Rattle.module_check.specs.Elements.{texts_in}
use Rattle.module_check.proofs.Ordering.{identifiers_from, with-element, without-element, all-elements, texts-push}
use Rattle.module_check.proofs.orders.elements_of.Goals as goal

pub parts-init : goal.parts-init
parts-init c =
    ap (λ xs. texts_in xs ++ identifiers_from c.args.label.now 0 c.parts_of-parts.result.now) c.new-elements.ensures.items
    ∙ ap (identifiers_from c.args.label.now 0) c.parts_of-parts.ensures

pub parts-preserved-then-not-is_element : goal.parts-preserved-then-not-is_element
parts-preserved-then-not-is_element c =
    without-element c.args.label.now c.parts_of-parts.result.now c.parts.i c.index-parts-i.result c.parts-test.true c.index-parts-i.is _ _
    (sym c.is_element.ensures ∙ c.if-not-is_element.true) c.parts.invariant

pub parts-preserved : goal.parts-preserved
parts-preserved c =
    with-element c.args.label.now c.parts_of-parts.result.now c.parts.i c.index-parts-i.result c.parts-test.true c.index-parts-i.is _ (texts_in c.parts.elements.items) _
    (sym c.is_element.ensures ∙ c.if-not-is_element.false) (ap texts_in c.in_ok-push.ensures.items ∙ texts-push c.parts.elements.items _) c.parts.invariant

pub returns : goal.returns
returns c = all-elements c.args.label.now c.parts_of-parts.result.now c.parts.i c.parts-test.false _ _ c.parts.invariant
