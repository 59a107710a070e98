use Rattle.std.proofs.Common.{refl, inl, subst}
use Rattle.xml_read.specs.Documents.{BrokenAt}
use Rattle.transcode_core.proofs.files.read_shared_items.Goals as goal

pub returns-in-Err-Syntax-clause-due : goal.returns-in-Err-Syntax-clause-due
returns-in-Err-Syntax-clause-due c =
    let at = c.in-Err-Syntax.at in
    let why = c.in-Err-Syntax.why in
    inl ((at, why, subst (λ bs. BrokenAt bs at why) c.in-Ok.ensures (rw c.in-Err-Syntax.field-0-is at c.in-Err-Syntax.ensures.err), refl), tt)
