use Rattle.std.proofs.Common.{rules, ◌≡◌, ◌+◌, ◌<◌, ◌∙◌, sym, ap, ◌++◌, ◌∷◌, [], Some, None, drop, get_or, length, arith}
use Rattle.std.proofs.lemmas.List.{drop_more}
use Rattle.std.specs.List.{range_with_len}
use Rattle.asn_values.specs.Ordering.{taken, in_order}
use Rattle.xer_write.proofs.Places.{range-more, take-some, take-empty, take-past, all-ordered}
use Rattle.xer_write.proofs.ordering.in_order.Goals as goal
use Rattle.xer_write.proofs.ordering.in_order.Goals.{then-i-len+in-Some+in_ok-push-2, then-i-len+in_default, else-i-len}

pub front-preserved : goal.front-preserved
front-preserved c =
    let at : c.front.i ≡ 0 + c.front.i = omega arith in
    c.in_ok-push.ensures.items ∙ ap (λ l. l ++ c.front.i ∷ []) c.front.invariant ∙ ap (λ k. range_with_len 0 c.front.i ++ k ∷ []) at ∙ range-more c.front.i 0

pub numbers-init : goal.numbers-init
numbers-init c =
    let front : c.front.i ≡ c.saturating_sub-front.result = omega (arith, c.front-test.false, c.front.auto.i-end) in
    all-ordered c.args.flags.now c.args.numbers.now c.args.count c.saturating_sub-front.result c.front.order.items c.in_ok-all.all.items (search rules) (c.front.invariant ∙ ap (range_with_len 0) front) c.in_ok-all.ensures

pub numbers-preserved : goal.numbers-preserved
numbers-preserved c =
    let numbers = c.args.numbers.now in
    let k = c.numbers.number-index in
    let i = get_or numbers k 0 in
    let later = drop (k + 1) numbers in
    let order = c.numbers.order.items in
    let all = c.numbers.all.items in
    let before : order ++ taken all (i ∷ later) ≡ in_order c.args.flags.now numbers (range_with_len 0 c.args.count) =
    ap (λ l. order ++ taken all l) (sym (drop_more numbers k 0 c.numbers-test.true)) ∙ c.numbers.invariant in
    elim c.if-i-len.branch [
      | then-i-len+in-Some+in_ok-push-2 w ↦
          let within : i < length all = omega (arith, w.if-i-len.true, c.len.ensures) in
          let found : Some w.in-Some.next ≡ get_or all i (Some w.in-Some.next) = sym w.in-Some.is ∙ w.index.ensures ∙ ap (get_or all i) w.in-Some.is in
          ap (λ v. v.items ++ taken c.if-i-len.all.items later) w.order-is ∙ ap (λ l. l ++ taken c.if-i-len.all.items later) w.in_ok-push-2.ensures.items
          ∙ ap (λ v. (order ++ w.in-Some.next ∷ []) ++ taken v.items later) w.all-is ∙ sym (take-some order all i w.in-Some.next later within found) ∙ before
      | then-i-len+in_default w ↦
          let found : None ≡ get_or all i None = sym w.in_default.is ∙ w.index.ensures ∙ ap (get_or all i) w.in_default.is in
          ap (λ v. v.items ++ taken c.if-i-len.all.items later) w.order-is ∙ ap (λ v. order ++ taken v.items later) w.all-is ∙ sym (take-empty order all i later (omega (arith, w.if-i-len.true, c.len.ensures)) found) ∙ before
      | else-i-len w ↦
          ap (λ v. v.items ++ taken c.if-i-len.all.items later) w.order-is ∙ ap (λ v. order ++ taken v.items later) w.all-is ∙ sym (take-past order all i later (omega (arith, w.if-i-len.false, c.len.ensures))) ∙ before
    ]
