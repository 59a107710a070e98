use Rattle.std.proofs.Common.{[], true, false, refl, subst}
use Rattle.std.specs.Prelude.{OnOk}
use Rattle.base_trees.specs.Rose.{node, none}
use Rattle.base_flat_trees.specs.Zips.{added}
use Rattle.simple_types.specs.declared.labels.ValueLabel.TheVariants as value
use Rattle.validity_check.proofs.Counting.{on-ok}
use Rattle.value_builder.specs.Built.{Puts}
use Rattle.xer_read.specs.Private.Contents.{NothingMade}
use Rattle.xer_read.specs.Private.Putting.{PartsPut}
use Rattle.xer_read.proofs.Putting.{no-parts, one-part}
use Rattle.xer_read.proofs.complex.put_nothing.Goals as goal

pub returns-in_ok-part : goal.returns-in_ok-part
returns-in_ok-part c =
    let v = node (value.Sequence []) none in
    let old = c.args.values.now in
    let new = c.leaf.new.self in
    rw c.if-nillable.true
    (on-ok c.leaf.result (Puts (added v) c.part.new.self new) (PartsPut (NothingMade true) old new) (λ h. one-part (NothingMade true) v old c.part.new.self new c.in_ok-part.ensures h (refl, refl))
    (subst (λ l. OnOk c.leaf.result (Puts (added (node l none)) c.part.new.self new)) c.no_components.ensures c.leaf.ensures))

pub returns-else-nillable : goal.returns-else-nillable
returns-else-nillable c = rw c.if-nillable.false (no-parts (NothingMade false) c.args.values.now (refl, refl))
