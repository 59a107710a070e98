use Rattle.std.proofs.Common.{ap, sym, ◌∙◌}
use Rattle.std.proofs.lemmas.Bool.{ltb-false}
use Rattle.std.proofs.lemmas.Option.{slice_get_past}
use Rattle.module_text.specs.Resolving.{order_place}
use Rattle.module_check.specs.Elements.{texts_in}
use Rattle.module_check.proofs.Ordering.{no-order_kid}
use Rattle.module_check.proofs.orders.is_order_part.Goals as goal

pub returns-in_default-get : goal.returns-in_default-get
returns-in_default-get c =
    let past = ltb-false _ _ (sym c.in_default-get.ensures.lookup.0) in
    no-order_kid c.args.label.now (texts_in c.args.elements.now) c.args.kids.now c.order_place-place.result
    (c.order_place-place.ensures ∙ ap order_place c.items.ensures) (sym (slice_get_past c.args.kids.now c.order_place-place.result past))
