use Rattle.std.proofs.Common.{sym, ap, ◌∙◌, refl, arith}
use Rattle.asn_types.specs.declared.marks.Instruction.TheVariants as mark
use Rattle.module_read.proofs.marks.text_mark.Goals as goal

pub returns-in-Some : goal.returns-in-Some
returns-in-Some c =
    let e = sym c.in-Some.ensures.number in
    let g = sym c.requires.number ∙ e in
    (rw g (ap (mark.Text c.in-Some.item) c.in_ok-text.ensures), rw e (omega arith))

pub returns-in-None : goal.returns-in-None
returns-in-None c =
    let e = sym c.in-None.ensures.number in
    let g = sym c.requires.number ∙ e in
    (rw g (ap (mark.Text 0) c.in_ok-text.ensures), rw e refl)
