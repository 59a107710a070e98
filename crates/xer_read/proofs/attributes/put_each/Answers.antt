use Rattle.std.proofs.Common.{◌≡◌, ◌+◌, ℕ, List, Option, Some, None, MatchOption, take, map, arith, subst, sym, refl, []}
use denote.Ref.{Bor}
use Rattle.std.proofs.lemmas.List.{take_all}
use Rattle.schema_components.specs.Linked.{IsUse}
use Rattle.schema_components.specs.SetParts.{parts_of}
use Rattle.validity_rules.specs.Asked.{attribute_in}
use Rattle.validity_rules.specs.Attributes.{left, text_of}
use Rattle.validity_check.specs.Texts.{told}
use Rattle.validity_check.proofs.ByUses.{told_text}
use Rattle.xer_read.specs.Private.Contents.{IsTaken, AttributesMade}
use Rattle.xer_read.specs.Private.Putting.{PartsPut}
use Rattle.xer_read.proofs.Attributed.{more-parts, mapped-more}
use Rattle.xer_read.proofs.Putting.{no-parts}
use Rattle.xer_read.proofs.attributes.put_each.Goals as goal

told_match : (t : Option (Bor (List ℕ))) (o : Option (List ℕ)) → told t ≡ o → MatchOption t (o ≡ None) (λ x. o ≡ Some x.now)
told_match None o e = sym e
told_match (Some x) o e = sym e

pub put_attribute-requires-clause-declared : goal.put_attribute-requires-clause-declared
put_attribute-requires-clause-declared c =
    subst (λ v. IsUse c.args.set.now v) (sym c.index-uses-i.is) (c.requires.uses c.uses.i c.index-uses-i.result c.uses-test.true)

pub put_attribute-requires-clause-taken : goal.put_attribute-requires-clause-taken
put_attribute-requires-clause-taken c =
    let us = c.args.uses.now in
    let u = c.index-uses-i.result in
    let t = c.index-texts-i.result in
    let (xs, taken, texts) = c.requires.taken in (
      xs,
      subst (λ v. IsTaken (left xs) (attribute_in (parts_of c.args.set.now) v)) (sym c.index-uses-i.is) (taken c.uses.i u c.uses-test.true),
      told_match t (text_of xs u.name) (told_text xs us c.args.texts.now texts c.uses.i c.uses-test.true t c.index-texts-i.is u c.index-uses-i.is),
    )

pub uses-init : goal.uses-init
uses-init c = λ xs taken texts. no-parts (AttributesMade [] (left xs)) c.args.values.now (refl, refl)

pub uses-preserved : goal.uses-preserved
uses-preserved c = λ xs taken texts.
    let own = attribute_in (parts_of c.args.set.now) in
    let us = c.args.uses.now in
    let i = c.uses.i in
    let u = c.index-uses-i.result in
    let t = c.index-texts-i.result in
    more-parts (map own (take i us)) (map own (take (i + 1) us)) (own u) (left xs) c.args.values.now c.uses.values c.put_attribute.new.values
    (mapped-more own us i u c.uses-test.true c.index-uses-i.is) (c.uses.invariant xs taken texts)
    (c.in_ok-put_attribute.ensures xs (subst (λ v. IsTaken (left xs) (own v)) (sym c.index-uses-i.is) (taken i u c.uses-test.true))
    (told_match t (text_of xs u.name) (told_text xs us c.args.texts.now texts i c.uses-test.true t c.index-texts-i.is u c.index-uses-i.is)))

pub returns : goal.returns
returns c = λ xs taken texts.
    let us = c.args.uses.now in
    let whole = take_all c.uses.i us (omega (arith, c.uses-test.false)) in
    subst (λ z. PartsPut (AttributesMade (map (attribute_in (parts_of c.args.set.now)) z) (left xs)) c.args.values.now c.uses.values) whole (c.uses.invariant xs taken texts)
