use Rattle.std.proofs.Common.{sym, subst}
use Rattle.module_text.specs.declared.marks.PartMark.{PartMark}
use Rattle.module_read.specs.Ready.{IsPartMarkReady}
use Rattle.module_read.proofs.marks.part_marks.Goals as goal

pub part_mark-requires : goal.part_mark-requires
part_mark-requires c =
    subst (λ (m : PartMark). IsPartMarkReady c.args.generated.now m.kind) (sym c.mark-item.is)
    (c.requires c.marks.mark-index c.mark-item.result c.marks-test.true)
