use Rattle.std.proofs.Common.{◌∙◌, sym, ap, arith}
use Rattle.std.specs.Prelude.{map}
use Rattle.asn_values.specs.Orders.{is_set, cleared, are_just_set}
use Rattle.asn_values.specs.Values.{item_number}
use Rattle.asn_values.proofs.Ordering.{set-below, slice_set-cleared, taken}
use Rattle.asn_values.proofs.orders.are_just_set.Goals as goal

pub index_mut-requires : goal.index_mut-requires
index_mut-requires c =
    let i = c.item_number-i.result in
    let set = sym c.is_set.ensures ∙ c.if-not-is_set.false in
    let below = set-below c.deref.result.now i set in
    let len = c.deref.ensures.len in
    omega (arith, below, len)

pub items-preserved : goal.items-preserved
items-preserved c =
    let left = c.items.left.items in
    let v = c.in-Some.item in
    let next = c.next.new.self in
    let set = ap (is_set left) (sym c.item_number-i.ensures) ∙ ap (λ fs. is_set fs c.item_number-i.result) (sym c.deref.ensures.value) ∙ sym c.is_set.ensures ∙ c.if-not-is_set.false in
    let whole = are_just_set c.args.flags.items (map item_number c.args.items.now) in
    taken left c.items.item-iterator next v whole c.in-Some.ensures.steps c.items.invariant set
    ∙ ap (λ n. are_just_set (cleared left n) (map item_number next)) (sym c.item_number-i.ensures)
    ∙ ap (λ fs. are_just_set fs (map item_number next)) (sym (slice_set-cleared left c.item_number-i.result))
