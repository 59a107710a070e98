use Rattle.std.proofs.Common.{true, false, refl, sym, ap, ◌∙◌, arith}
use Rattle.asn_types.specs.declared.types.Component.{Component}
use Rattle.xer_write.proofs.Giving.{misfit}
use Rattle.xer_write.proofs.Parts.{some-at, may-step}
use Rattle.xer_write.proofs.presence.may_be_present.Goals as goal
use Rattle.xer_write.proofs.presence.may_be_present.Goals.{else-not-present-i-via-then-not-present-i+else-not-parts-i, else-not-present-i-via-else-not-present-i}

pub returns-then-parts-present : goal.returns-then-parts-present
returns-then-parts-present c = sym (misfit c.args.parts.now c.args.present.now c.if-parts-present.true)

pub parts-preserved : goal.parts-preserved
parts-preserved c =
    let parts = c.args.parts.now in
    let flags = c.args.present.now in
    let i = c.parts.i in
    elim c.else-not-present-i.branch [
      | else-not-present-i-via-then-not-present-i+else-not-parts-i w ↦
          let part = w.index-parts-i.result in
          may-step parts flags i part false c.parts-test.true (omega (arith, c.parts-test.true, c.if-parts-present.false)) w.index-parts-i.is w.if-not-present-i.true
          (ap (λ (p : Component). p.optional) w.index-parts-i.is ∙ w.if-not-parts-i.false)
          ∙ c.parts.invariant
      | else-not-present-i-via-else-not-present-i w ↦
          let x = some-at parts i c.parts-test.true in
          may-step parts flags i x.0 true c.parts-test.true (omega (arith, c.parts-test.true, c.if-parts-present.false)) x.1 w.if-not-present-i.false refl
          ∙ c.parts.invariant
    ]
