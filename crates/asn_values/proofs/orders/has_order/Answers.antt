use Rattle.std.proofs.Common.{◌≡◌, ◌∙◌, [], sym, ap, subst}
use Rattle.std.specs.Prelude.{map, MatchOption}
use Rattle.base_trees.specs.Rose.{label_of, kids_of}
use Rattle.asn_values.specs.Orders.{are_just_set}
use Rattle.asn_values.specs.Values.{item_number, order_of, ordered_flags}
use Rattle.asn_values.proofs.JustSet.{just_set}
use Rattle.asn_values.proofs.orders.has_order.Goals as goal

pub returns-in-Some : goal.returns-in-Some
returns-in-Some c =
    let m = c.args.module.now in
    let t = c.args.node.now in
    let v = c.args.value.now in
    let flags = ordered_flags m (label_of t) t v in
    let numbers = order_of t v in
    let found = subst (λ o. MatchOption o (numbers ≡ []) (λ order. numbers ≡ map item_number (kids_of order))) c.in-Some.is c.in_ok-order.ensures in
    let is =
    c.are_just_set.ensures ∙ ap (λ fs. are_just_set fs (map item_number c.kids.result)) c.in_ok-flags.ensures
    ∙ ap (λ ks. are_just_set flags (map item_number ks)) c.kids.ensures ∙ ap (are_just_set flags) (sym found) in
    let same = just_set flags numbers in
    ((λ yes. same.0 (sym is ∙ yes)), (λ just. is ∙ same.1 just))

pub returns-in-None : goal.returns-in-None
returns-in-None c =
    let m = c.args.module.now in
    let t = c.args.node.now in
    let v = c.args.value.now in
    let flags = ordered_flags m (label_of t) t v in
    let numbers = order_of t v in
    let found = subst (λ o. MatchOption o (numbers ≡ []) (λ order. numbers ≡ map item_number (kids_of order))) c.in-None.is c.in_ok-order.ensures in
    let is =
    c.is_none_set.ensures ∙ ap (λ fs. are_just_set fs []) (c.deref.ensures.value ∙ c.in_ok-flags.ensures) ∙ ap (are_just_set flags) (sym found) in
    let same = just_set flags numbers in
    ((λ yes. same.0 (sym is ∙ yes)), (λ just. is ∙ same.1 just))
