use Rattle.std.proofs.Common.{◌+◌, take, map, arith, sym, subst, refl, []}
use Rattle.std.proofs.lemmas.List.{take_all}
use Rattle.schema_components.specs.SetParts.{parts_of}
use Rattle.validity_rules.specs.Asked.{attribute_in}
use Rattle.validity_rules.specs.Attributes.{left}
use Rattle.xer_read.specs.Private.Contents.{IsTaken, AttributesMade}
use Rattle.xer_read.specs.Private.Putting.{PartsPut}
use Rattle.xer_read.proofs.Attributed.{more-parts, mapped-more}
use Rattle.xer_read.proofs.Putting.{no-parts}
use Rattle.xer_read.proofs.attributes.put_few.Goals as goal

pub put_attribute-requires-clause-taken : goal.put_attribute-requires-clause-taken
put_attribute-requires-clause-taken c = (
  c.args.attributes.now,
  subst (λ v. IsTaken (left c.args.attributes.now) (attribute_in (parts_of c.args.set.now) v)) (sym c.declared-item.is) (c.requires.taken c.loop-declared.declared-index c.declared-item.result c.loop-declared-test.true),
  c.text_of-text.ensures,
)

pub loop-declared-init : goal.loop-declared-init
loop-declared-init c = no-parts (AttributesMade [] (left c.args.attributes.now)) c.args.values.now (refl, refl)

pub loop-declared-preserved : goal.loop-declared-preserved
loop-declared-preserved c =
    let own = attribute_in (parts_of c.args.set.now) in
    let us = c.args.uses.now in
    let i = c.loop-declared.declared-index in
    let u = c.declared-item.result in
    more-parts (map own (take i us)) (map own (take (i + 1) us)) (own u) (left c.args.attributes.now) c.args.values.now c.loop-declared.values c.put_attribute.new.values
    (mapped-more own us i u c.loop-declared-test.true c.declared-item.is) c.loop-declared.invariant (c.in_ok-put_attribute.ensures c.args.attributes.now
    (subst (λ v. IsTaken (left c.args.attributes.now) (attribute_in (parts_of c.args.set.now) v)) (sym c.declared-item.is) (c.requires.taken c.loop-declared.declared-index c.declared-item.result c.loop-declared-test.true))
    c.text_of-text.ensures)

pub returns : goal.returns
returns c =
    let us = c.args.uses.now in
    let whole = take_all c.loop-declared.declared-index us (omega (arith, c.loop-declared-test.false)) in
    subst (λ z. PartsPut (AttributesMade (map (attribute_in (parts_of c.args.set.now)) z) (left c.args.attributes.now)) c.args.values.now c.loop-declared.values) whole c.loop-declared.invariant
