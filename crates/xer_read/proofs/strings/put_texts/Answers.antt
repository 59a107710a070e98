use Rattle.std.proofs.Common.{true, false, refl, [], ◌∷◌}
use Rattle.base_trees.specs.Rose.{node, roses_of}
use Rattle.base_flat_trees.specs.Zips.{added}
use Rattle.simple_types.specs.declared.labels.ValueLabel.TheVariants as label
use Rattle.simple_types.specs.Seen.{space_of}
use Rattle.content_models.specs.Seen.{seen}
use Rattle.validity_rules.specs.Asked.{nothing, simple, children}
use Rattle.validity_check.proofs.Counting.{on-ok}
use Rattle.value_builder.specs.Built.{Puts, with_parts}
use Rattle.value_builder.proofs.Putting.{puts-off}
use Rattle.xer_read.specs.Private.Keeping.{strings_put}
use Rattle.xer_read.specs.Private.Contents.{TextsMade}
use Rattle.xer_read.specs.Private.Putting.{PartsPut}
use Rattle.xer_read.proofs.Putting.{no-parts, one-part}
use Rattle.xer_read.proofs.strings.put_texts.Goals as goal

pub returns-in-Nothing : goal.returns-in-Nothing
returns-in-Nothing c = rw c.in-Nothing.is (no-parts (TextsMade nothing (node label.SequenceOf (roses_of (strings_put c.args.nil (roses_of c.args.kids.now))))) c.args.values.now (refl, refl))

pub returns-in-Simple : goal.returns-in-Simple
returns-in-Simple c =
    rw c.in-Simple.is (no-parts (TextsMade (simple (space_of c.in-Simple.field-0.now)) (node label.SequenceOf (roses_of (strings_put c.args.nil (roses_of c.args.kids.now))))) c.args.values.now (refl, refl))

pub returns-in_ok-part-in-Children : goal.returns-in_ok-part-in-Children
returns-in_ok-part-in-Children c =
    let texts = node label.SequenceOf (roses_of (strings_put c.args.nil (roses_of c.args.kids.now))) in
    let P = TextsMade (children true (seen c.in-Children.model.now)) texts in
    let old = c.args.values.now in
    let new = c.put_strings.new.values in
    rw c.in-Children.is
    (rw c.if-mixed.true
    (on-ok c.put_strings.result (Puts (added texts) c.part.new.self new) (PartsPut P old new)
    (λ h. one-part P texts old c.part.new.self new c.in_ok-part-in-Children.ensures h (refl, refl)) c.put_strings.ensures))

pub returns-then-keeps_nothing : goal.returns-then-keeps_nothing
returns-then-keeps_nothing c =
    let texts = node label.SequenceOf (roses_of (strings_put c.args.nil (roses_of c.args.kids.now))) in
    rw c.in-Children.is
    (rw c.if-mixed.true
    (record {
      flags = true ∷ [];
      values = texts ∷ [];
      holds = (refl, refl);
      puts = puts-off (with_parts (true ∷ []) (texts ∷ [])) c.args.values.now (c.keeps_nothing.ensures.0 c.if-keeps_nothing.true);
    }))

pub returns-else-mixed : goal.returns-else-mixed
returns-else-mixed c =
    rw c.in-Children.is
    (rw c.if-mixed.false
    (no-parts (TextsMade (children false (seen c.in-Children.model.now)) (node label.SequenceOf (roses_of (strings_put c.args.nil (roses_of c.args.kids.now))))) c.args.values.now (refl, refl)))
