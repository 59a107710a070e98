use Rattle.std.proofs.Common.{◌∙◌, sym, ap}
use Rattle.asn_types.specs.Marks.{has_use_order}
use Rattle.asn_values.proofs.Standards.{has-order_part}
use Rattle.asn_values.proofs.rules.has_texts_and_order.Goals as goal

pub has_order-requires : goal.has_order-requires
has_order-requires c =
    has-order_part c.args.module.now c.args.node.now c.requires (ap (λ l. has_use_order l.marks) (sym c.label.ensures) ∙ sym c.has_use_order.ensures ∙ c.if-has_use_order.true)
