use Rattle.std.proofs.Common.{◌≡◌, ◌+◌, ◌<◌, ◌∷◌, [], true, false, length, map, refl, sym, ap, subst, ◌∙◌, arith}
use Rattle.std.specs.Prelude.{IfOk}
use Rattle.base_trees.specs.Rose.{label_of, kids_of}
use Rattle.asn_types.specs.Roles.{role_of}
use Rattle.asn_values.specs.Values.{place_of, is_order_role, item_number, order_of}
use Rattle.xer_write.proofs.Giving.{fit-length, fit-step, found-present, found-absent, some-step, found_from}
use Rattle.xer_write.proofs.Parts.{some-at, slice-at, flag-at}
use Rattle.xer_write.proofs.Orders.{numbers_at, numbers-here, numbers-later, numbers-none, numbers-of, order-not}
use Rattle.xer_write.proofs.ordering.order_numbers.Goals as goal
use Rattle.xer_write.proofs.ordering.order_numbers.Goals.{then-present-i+in-Some+in_default-role_of, else-present-i}

pub bounds-present-i : goal.bounds-present-i
bounds-present-i c = let l = fit-length c.args.parts.now c.args.present.now c.requires.present in omega (arith, c.parts-test.true, l)

pub returns-in_default : goal.returns-in_default
returns-in_default c =
    let u = c.args.node.now in
    let found = found_from (label_of u) c.args.parts.now (kids_of u) c.args.present.now c.parts.i in
    c.new.ensures.items
    ∙ sym (numbers-of u c.args.value.now c.args.parts.now c.args.present.now c.requires.form c.requires.value ∙ sym c.parts.invariant.same ∙ ap (numbers_at found) c.in_default.ensures.steps.0 ∙ numbers-none found)

pub returns-in-Order : goal.returns-in-Order
returns-in-Order c =
    let u = c.args.node.now in
    let l = label_of u in
    let ts = kids_of u in
    let parts = c.args.parts.now in
    let present = c.args.present.now in
    let i = c.parts.i in
    let part = c.index-parts-i.result in
    let kid = c.in-Some.kid in
    let others = c.next.new.self in
    let found = found_from l parts ts present in
    let long = fit-length parts present c.requires.present in
    let k = some-at ts i (omega (arith, c.parts-test.true, c.requires.types)) in
    let got = slice-at ts i k.0 (omega (arith, c.parts-test.true, c.requires.types)) k.1 in
    let flag = flag-at present i true (omega (arith, c.parts-test.true, long)) c.if-present-i.true in
    let p = place_of l i part k.0 in
    let is : is_order_role (role_of l i part) ≡ true = ap is_order_role (ap (λ x. role_of x i part) (sym c.label-label.ensures) ∙ sym c.role_of.ensures ∙ c.in-Order.is) in
    let some = some-step [] l parts ts present c.requires.types i part k.0 c.parts-test.true c.index-parts-i.is got true flag c.parts.invariant.fit in
    let numbers : order_of u c.args.value.now ≡ map item_number (kids_of kid) =
    numbers-of u c.args.value.now parts present c.requires.form c.requires.value ∙ sym c.parts.invariant.same ∙ ap (numbers_at (found i)) c.in-Some.ensures.steps
    ∙ ap (λ o. numbers_at o (kid ∷ others)) (found-present [] l parts ts present c.requires.types i part k.0 c.parts-test.true c.index-parts-i.is got true flag c.parts.invariant.fit refl)
    ∙ numbers-here p (found (i + 1)) kid others some is in
    subst (λ ns. IfOk c.item_numbers.result (λ numbers. numbers.items ≡ ns)) (ap (map item_number) c.kids.ensures ∙ sym numbers) c.item_numbers.ensures

pub parts-preserved : goal.parts-preserved
parts-preserved c =
    let u = c.args.node.now in
    let l = label_of u in
    let ts = kids_of u in
    let parts = c.args.parts.now in
    let present = c.args.present.now in
    let i = c.parts.i in
    let found = found_from l parts ts present in
    let long = fit-length parts present c.requires.present in
    let flagged : i < length present = omega (arith, c.parts-test.true, long) in
    let k = some-at ts i (omega (arith, c.parts-test.true, c.requires.types)) in
    let got = slice-at ts i k.0 (omega (arith, c.parts-test.true, c.requires.types)) k.1 in
    elim c.if-present-i.branch [
      | then-present-i+in-Some+in_default-role_of w ↦
          let part = w.index-parts-i.result in
          let kid = w.in-Some.kid in
          let others = w.next.new.self in
          let flag = flag-at present i true flagged w.if-present-i.true in
          let p = place_of l i part k.0 in
          let other : is_order_role (role_of l i part) ≡ false =
          ap is_order_role (ap (λ x. role_of x i part) (sym c.label-label.ensures) ∙ sym w.role_of.ensures) ∙ order-not w.role_of.result w.in_default-role_of.not-Order in
          let some = some-step [] l parts ts present c.requires.types i part k.0 c.parts-test.true w.index-parts-i.is got true flag c.parts.invariant.fit in
          record {
            fit = fit-step [] l parts ts present c.requires.types i part k.0 c.parts-test.true w.index-parts-i.is got true flag c.parts.invariant.fit;
            same = ap (numbers_at (found (i + 1))) w.left-is
                ∙ sym (ap (numbers_at (found i)) w.in-Some.ensures.steps
                ∙ ap (λ o. numbers_at o (kid ∷ others)) (found-present [] l parts ts present c.requires.types i part k.0 c.parts-test.true w.index-parts-i.is got true flag c.parts.invariant.fit refl)
                ∙ numbers-later p (found (i + 1)) kid others some other)
                ∙ c.parts.invariant.same;
          }
      | else-present-i w ↦
          let x = some-at parts i c.parts-test.true in
          let flag = flag-at present i false flagged w.if-present-i.false in
          record {
            fit = fit-step [] l parts ts present c.requires.types i x.0 k.0 c.parts-test.true x.1 got false flag c.parts.invariant.fit;
            same = ap (numbers_at (found (i + 1))) w.left-is
                ∙ ap (λ o. numbers_at o c.parts.left) (sym (found-absent [] l parts ts present c.requires.types i x.0 k.0 c.parts-test.true x.1 got false flag c.parts.invariant.fit refl))
                ∙ c.parts.invariant.same;
          }
    ]
