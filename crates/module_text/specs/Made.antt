-- Parts and types, made from what is read.
use Rattle.std.specs.Prelude.{ℕ, Option, List}
use Rattle.base_trees.specs.Rose.{Rose, node, roses_of}
use Rattle.module_text.specs.declared.marks.TypeMark.{TypeMark}
use Rattle.module_text.specs.declared.values.PlainOctets.{PlainOctets}
use Rattle.module_text.specs.declared.values.Absence.{Absence}
use Rattle.module_text.specs.declared.types.PlainPart.{PlainPart}
use Rattle.module_text.specs.declared.types.PlainForm.{PlainForm}
use Rattle.module_text.specs.declared.types.PlainLabel.{PlainLabel}
use Rattle.module_text.specs.declared.types.PlainForm.TheVariants as form
use Rattle.module_text.specs.declared.made.PartHead.{PartHead}
use Rattle.module_text.specs.declared.made.BoxedForm.{BoxedForm}
use Rattle.module_text.specs.declared.made.BoxedForm.TheVariants as boxed

-- The part with this head, and with the fixed value and the absence that follow its type.
abbrev pub part_of : PartHead → Option PlainOctets → Absence → PlainPart
part_of head fixed absence = record { at = head.at; identifier = head.identifier; marks = head.marks; fixed = fixed; absence = absence }

-- The form without boxes.
abbrev pub formed : BoxedForm → PlainForm
formed (boxed.Simple f) = f
formed (boxed.Sequence parts) = form.Sequence parts
formed (boxed.Choice parts) = form.Choice parts
formed (boxed.SequenceOf size part) = form.SequenceOf size part
formed (boxed.Ref name) = form.Ref name

-- The type with the types of its parts.
abbrev pub typed_as : ℕ → List TypeMark → PlainForm → List (Rose PlainLabel) → Rose PlainLabel
typed_as at marks form kids = node (record { at = at; marks = marks; form = form }) (roses_of kids)
