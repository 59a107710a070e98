use Rattle.std.proofs.Common.{◌+◌, ◌<◌, ◌++◌, length, sym, ap, ◌∙◌, arith}
use Rattle.asn_types.specs.Refs.{is_element}
use Rattle.asn_values.specs.Values.{flags_from}
use Rattle.asn_values.proofs.Counting.{drop-past}
use Rattle.asn_values.proofs.Ordering.{flags_left, flags-skipped, flags-pushed, flags-ended}
use Rattle.asn_values.proofs.orders.element_flags.Goals.{then-is_element+in_ok-push, else-is_element}
use Rattle.asn_values.proofs.orders.element_flags.Goals as goal

pub returns-then-i-present : goal.returns-then-i-present
returns-then-i-present c =
    let flags = c.args.present.now in
    let here = c.if-i-present.true in
    sym (flags-ended c.args.label.now c.args.parts.now flags c.parts.i (flags_from c.args.label.now 0 c.args.parts.now flags) c.parts.flags.items c.parts.invariant.so_far
    (drop-past c.parts.i flags (omega (arith, here))))

pub parts-preserved : goal.parts-preserved
parts-preserved c =
    let l = c.args.label.now in
    let parts = c.args.parts.now in
    let flags = c.args.present.now in
    let i = c.parts.i in
    let part = c.index-parts-i.result in
    let inside = c.parts.invariant.inside in
    let other = c.if-i-present.false in
    let below : i < length flags = omega (arith, inside, other) in
    let whole = flags_from l 0 parts flags in
    elim c.if-is_element.branch [
      | then-is_element+in_ok-push w ↦
          let is = ap is_element (sym c.role_of.ensures) ∙ sym c.is_element.ensures ∙ w.if-is_element.true in
          let pushed = flags-pushed l parts flags i part c.parts-test.true below c.index-parts-i.is whole c.parts.flags.items c.parts.invariant.so_far is in
          record {
            so_far = pushed ∙ ap (λ fs. fs ++ flags_left l parts flags (i + 1)) (sym (ap (λ v. v.items) w.flags-is ∙ w.in_ok-push.ensures.items));
            inside = omega (arith, below);
          }
      | else-is_element w ↦
          let is = ap is_element (sym c.role_of.ensures) ∙ sym c.is_element.ensures ∙ w.if-is_element.false in
          let skipped = flags-skipped l parts flags i part c.parts-test.true below c.index-parts-i.is whole c.parts.flags.items c.parts.invariant.so_far is in
          record {
            so_far = skipped ∙ ap (λ v. v.items ++ flags_left l parts flags (i + 1)) (sym w.flags-is);
            inside = omega (arith, below);
          }
    ]
