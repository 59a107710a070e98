use Rattle.std.proofs.Common.{sym, ◌∙◌, map, []}
use Rattle.schema_components.specs.SetParts.{parts_of}
use Rattle.validity_rules.specs.Asked.{attribute_in}
use Rattle.validity_rules.specs.Attributes.{IsRight, IsWrong}
use Rattle.validity_check.proofs.Going.{all_ahead, skips, passes, stops, when_none}
use Rattle.validity_check.proofs.attributes.first_wrong.Goals as goal

pub loop-found-preserved-then-is_special : goal.loop-found-preserved-then-is_special
loop-found-preserved-then-is_special c = (
  skips (map (attribute_in (parts_of c.args.set.now)) c.args.uses.now) c.args.attributes.now c.loop-found.found-index c.found-item.result
      c.loop-found-test.true c.found-item.is c.loop-found.invariant.0 (sym c.is_special.ensures ∙ c.if-is_special.true),
  c.loop-found.invariant.1,
)

pub returns-in-Some : goal.returns-in-Some
returns-in-Some c =
    stops (map (attribute_in (parts_of c.args.set.now)) c.args.uses.now) c.args.attributes.now c.loop-found.found-index c.found-item.result
    c.loop-found-test.true c.found-item.is c.loop-found.invariant.0 (sym c.is_special.ensures ∙ c.if-is_special.false) c.in-Some.why (rw c.in-Some.is at c.in_ok-why.ensures.found)

pub loop-found-preserved : goal.loop-found-preserved
loop-found-preserved c =
    let wanted = map (attribute_in (parts_of c.args.set.now)) c.args.uses.now in (
      passes wanted c.args.attributes.now c.loop-found.found-index c.found-item.result
          c.loop-found-test.true c.found-item.is c.loop-found.invariant.0 (sym c.is_special.ensures ∙ c.if-is_special.false)
          (when_none (IsRight wanted (c.found-item.result.0, c.found-item.result.1)) (λ why. IsWrong wanted why (c.found-item.result.0, c.found-item.result.1))
          c.in_ok-why.field-0 c.in_default.not-Some c.in_ok-why.ensures.found),
      c.in_ok-why.ensures.run,
    )

pub loop-found-init : goal.loop-found-init
loop-found-init c = (all_ahead (map (attribute_in (parts_of c.args.set.now)) c.args.uses.now) c.args.attributes.now, ([], c.none-run.ensures c.args.uses.now []))

pub attribute_fault-requires-clause-run : goal.attribute_fault-requires-clause-run
attribute_fault-requires-clause-run c = c.loop-found.invariant.1
