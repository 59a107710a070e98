use Rattle.std.proofs.Common.{◌≡◌, Some, None, sym, ap, subst, ◌∙◌, drop}
use Rattle.std.specs.List.{position_from}
use Rattle.module_text.specs.Marks.{item_number}
use Rattle.module_read.proofs.Numbered.{is_named, number_is}
use Rattle.module_read.proofs.marks.item_number.Goals as goal

pub returns-in-Some-clause-number : goal.returns-in-Some-clause-number
returns-in-Some-clause-number c =
    let identifier = c.args.identifier.now in
    let least = c.args.least in
    subst (λ f. Some c.in-Some.place ≡ item_number c.args.spot f least identifier) (sym c.in-Words.is)
    (number_is c.args.spot c.in-Words.identifiers least identifier (Some c.in-Some.place) (sym c.is_order_item.ensures ∙ c.if-not-is_order_item.true)
    (c.in-Some.ensures.place ∙ ap (λ items. position_from (is_named identifier) least (drop least items)) c.items.ensures))

pub returns-in-None-clause-number : goal.returns-in-None-clause-number
returns-in-None-clause-number c =
    let identifier = c.args.identifier.now in
    let least = c.args.least in
    subst (λ f. None ≡ item_number c.args.spot f least identifier) (sym c.in-Words.is)
    (number_is c.args.spot c.in-Words.identifiers least identifier None (sym c.is_order_item.ensures ∙ c.if-not-is_order_item.true)
    (c.in-None.ensures.place ∙ ap (λ items. position_from (is_named identifier) least (drop least items)) c.items.ensures))
