use Rattle.std.proofs.Common.{◌≡◌, ◌+◌, ◌-◌, ◌∙◌, [], ◌∷◌, map, drop, length, refl, sym, ap, subst, arith}
use Rattle.schema_components.specs.SetParts.{parts_of}
use Rattle.validity_rules.specs.Asked.{attribute_in}
use Rattle.validity_check.specs.First.{IsFirst}
use Rattle.validity_check.specs.Texts.{AreTexts}
use Rattle.validity_check.proofs.ByUses.{none_yet, not_used, used, all_found}
use Rattle.validity_check.proofs.Firsts.{none_behind, one_before}
use Rattle.validity_check.proofs.judging.judge.Goals as goal

pub attributes-init : goal.attributes-init
attributes-init c = (
  none_yet c.args.uses.now c.args.attributes.now c.in_ok-texts.texts.items c.none-run.result c.in_ok-texts.ensures ([], c.none-run.ensures c.args.uses.now []),
  none_behind (map (attribute_in (parts_of c.args.set.now)) c.args.uses.now) c.args.attributes.now,
)

pub attributes-preserved-in-Some : goal.attributes-preserved-in-Some
attributes-preserved-in-Some c =
    let from = c.attributes.left in
    let some = c.attributes-test.true in
    let step : from ≡ (from - 1) + 1 = omega (arith, some) in
    let wanted = map (attribute_in (parts_of c.args.set.now)) c.args.uses.now in
    let h = c.attributes.invariant in (
      used c.args.uses.now c.requires.ascending c.args.attributes.now from (from - 1) c.attributes.texts.items c.attributes.run c.place_of-place.new.run h.0 step
          c.index-attributes-left.result c.index-attributes-left.is c.in-Some.ensures.run c.in-Some.place c.in-Some.ensures.place _ refl,
      one_before wanted c.args.attributes.now from (from - 1) h.0.within step c.index-attributes-left.result c.index-attributes-left.is
          c.or-wrong.result
          (subst (IsFirst wanted (c.index-attributes-left.result ∷ drop from c.args.attributes.now)) (sym c.or-wrong.ensures) (c.in_ok-fault.ensures (drop from c.args.attributes.now) c.attributes.wrong h.1)),
    )

pub attributes-preserved : goal.attributes-preserved
attributes-preserved c =
    let from = c.attributes.left in
    let some = c.attributes-test.true in
    let step : from ≡ (from - 1) + 1 = omega (arith, some) in
    let wanted = map (attribute_in (parts_of c.args.set.now)) c.args.uses.now in
    let h = c.attributes.invariant in (
      not_used c.args.uses.now c.requires.ascending c.args.attributes.now from (from - 1) c.attributes.texts.items c.attributes.run c.place_of-place.new.run h.0 step
          c.index-attributes-left.result c.index-attributes-left.is c.in_default.ensures.run c.in_default.ensures.place,
      one_before wanted c.args.attributes.now from (from - 1) h.0.within step c.index-attributes-left.result c.index-attributes-left.is
          c.or-wrong.result
          (subst (IsFirst wanted (c.index-attributes-left.result ∷ drop from c.args.attributes.now)) (sym c.or-wrong.ensures) (c.in_ok-fault.ensures (drop from c.args.attributes.now) c.attributes.wrong h.1)),
    )

pub lacks_among-lacks-requires : goal.lacks_among-lacks-requires
lacks_among-lacks-requires c = ap length c.deref.ensures.value ∙ c.attributes.invariant.0.texts.counted

pub returns-clause-lacks : goal.returns-clause-lacks
returns-clause-lacks c = λ yes s.
    let xs = c.args.attributes.now in
    let us = c.args.uses.now in
    c.lacks_among-lacks.ensures.lacks yes s xs
    (subst (AreTexts xs us) (sym c.deref.ensures.value) (all_found xs us c.attributes.left c.attributes.texts.items c.attributes.run c.attributes-test.false c.attributes.invariant.0))

pub returns-clause-stand : goal.returns-clause-stand
returns-clause-stand c = λ no s.
    let xs = c.args.attributes.now in
    let us = c.args.uses.now in
    c.lacks_among-lacks.ensures.stand no s xs
    (subst (AreTexts xs us) (sym c.deref.ensures.value) (all_found xs us c.attributes.left c.attributes.texts.items c.attributes.run c.attributes-test.false c.attributes.invariant.0))
