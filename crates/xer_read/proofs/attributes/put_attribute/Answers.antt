use Rattle.std.proofs.Common.{[], ◌∷◌, false}
use Rattle.simple_types.specs.Reading.{Bad, Wide}
use Rattle.schema_components.specs.SetParts.{parts_of}
use Rattle.validity_rules.specs.Asked.{attribute_in}
use Rattle.validity_rules.specs.Attributes.{left}
use Rattle.validity_check.proofs.Counting.{on-ok}
use Rattle.value_builder.specs.Built.{Puts, flagged}
use Rattle.xer_read.specs.Private.Contents.{AttributesMade}
use Rattle.xer_read.proofs.Attributed.{attribute-absent, one, text-accepted, text-sound, attribute-silent, attribute-present, never-refused}
use Rattle.xer_read.proofs.Putting.{one-part, left-out}
use Rattle.xer_read.proofs.attributes.put_attribute.Goals as goal

pub returns-in-None : goal.returns-in-None
returns-in-None c =
    let old = c.args.values.now in
    let new = c.part.new.self in
    on-ok c.part.result (Puts (flagged false) old new) _
    (λ h xs taken text. left-out (AttributesMade (attribute_in (parts_of c.args.set.now) c.args.declared.now ∷ []) (left xs)) old new h
    (attribute-absent c.args.set.now c.args.declared.now xs c.requires.declared.0 (rw c.in-None.is at text))) c.part.ensures

pub says_nothing-requires-clause-accepted : goal.says_nothing-requires-clause-accepted
says_nothing-requires-clause-accepted c =
    let (xs, some, text) = c.requires.taken in
    let stands = rw c.in-Some.is at text in
    let taken = one c.args.set.now c.args.declared.now xs c.requires.declared.0 c.in-Some.found.now stands c.simple-simple.result.now c.simple-simple.ensures some in
    (taken.0, text-accepted c.args.set.now c.args.declared.now xs c.requires.declared.0 c.in-Some.found.now stands c.simple-simple.result.now c.simple-simple.ensures some)

pub returns-then-branch : goal.returns-then-branch
returns-then-branch c =
    let old = c.args.values.now in
    let new = c.part-then-branch.new.self in
    on-ok c.part-then-branch.result (Puts (flagged false) old new) _
    (λ h xs taken text. left-out (AttributesMade (attribute_in (parts_of c.args.set.now) c.args.declared.now ∷ []) (left xs)) old new h
    (attribute-silent c.args.set.now c.args.declared.now xs c.requires.declared.0 c.in-Some.found.now (rw c.in-Some.is at text) c.simple-simple.result.now c.simple-simple.ensures taken
    (rw c.if-branch.true at c.in_ok-says_nothing-in-Some.ensures)))
    c.part-then-branch.ensures

pub text-requires : goal.text-requires
text-requires c =
    let (xs, some, text) = c.requires.taken in
    text-sound c.args.set.now c.args.declared.now xs c.requires.declared.0 c.in-Some.found.now (rw c.in-Some.is at text) c.simple-simple.result.now c.simple-simple.ensures some c.requires.linked

pub returns-in-Ok : goal.returns-in-Ok
returns-in-Ok c = λ xs taken text.
    let P = AttributesMade (attribute_in (parts_of c.args.set.now) c.args.declared.now ∷ []) (left xs) in
    let read = c.in-Ok.ensures in
    one-part P read.0 c.args.values.now c.part-in-Some.new.self c.text.new.self c.in_ok-part-in-Some.ensures read.2
    (attribute-present c.args.set.now c.args.declared.now xs c.requires.declared.0 c.in-Some.found.now (rw c.in-Some.is at text) c.simple-simple.result.now c.simple-simple.ensures taken
    (rw c.if-branch.false at c.in_ok-says_nothing-in-Some.ensures) read.0 read.1)

pub unreachable-requires : goal.unreachable-requires
unreachable-requires c =
    let (xs, some, text) = c.requires.taken in
    never-refused c.args.set.now c.args.declared.now xs c.requires.declared.0 c.in-Some.found.now (rw c.in-Some.is at text) c.simple-simple.result.now c.simple-simple.ensures some Bad
    (rw c.in-Err-BadText.field-0-is at c.in-Err-BadText.ensures)

pub unreachable-requires-in-Err-TooWide : goal.unreachable-requires-in-Err-TooWide
unreachable-requires-in-Err-TooWide c =
    let (xs, some, text) = c.requires.taken in
    never-refused c.args.set.now c.args.declared.now xs c.requires.declared.0 c.in-Some.found.now (rw c.in-Some.is at text) c.simple-simple.result.now c.simple-simple.ensures some Wide
    (rw c.in-Err-TooWide.field-0-is at c.in-Err-TooWide.ensures)
