use Rattle.std.proofs.Common.{◌≡◌, ◌+◌, ◌-◌, [], refl, arith}
use Rattle.validity_check.proofs.ByUses.{none_yet, not_used, used}
use Rattle.validity_check.proofs.texts.texts_of.Goals as goal

pub attributes-init : goal.attributes-init
attributes-init c =
    none_yet c.args.uses.now c.args.attributes.now c.in_ok-texts.texts.items c.none-run.result c.in_ok-texts.ensures ([], c.none-run.ensures c.args.uses.now [])

pub attributes-preserved-in-Some : goal.attributes-preserved-in-Some
attributes-preserved-in-Some c =
    let from = c.attributes.left in
    let some = c.attributes-test.true in
    let step : from ≡ (from - 1) + 1 = omega (arith, some) in
    used c.args.uses.now c.requires c.args.attributes.now from (from - 1) c.attributes.texts.items c.attributes.run c.place_of.new.run c.attributes.invariant step
    c.index-attributes-left.result c.index-attributes-left.is c.in-Some.ensures.run c.in-Some.place c.in-Some.ensures.place _ refl

pub attributes-preserved : goal.attributes-preserved
attributes-preserved c =
    let from = c.attributes.left in
    let some = c.attributes-test.true in
    let step : from ≡ (from - 1) + 1 = omega (arith, some) in
    not_used c.args.uses.now c.requires c.args.attributes.now from (from - 1) c.attributes.texts.items c.attributes.run c.place_of.new.run c.attributes.invariant step
    c.index-attributes-left.result c.index-attributes-left.is c.in_default.ensures.run
    c.in_default.ensures.place
