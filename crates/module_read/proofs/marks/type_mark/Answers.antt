use Rattle.std.proofs.Common.{sym, subst}
use Rattle.module_read.specs.Ready.{IsTypeMarkReady}
use Rattle.module_read.proofs.marks.type_mark.Goals as goal

pub text_mark-requires : goal.text_mark-requires
text_mark-requires c =
    let is = subst (IsTypeMarkReady c.args.spot c.args.form.now c.args.least) c.in-Text.is c.requires.mark in
    record { room = c.requires.room; utf8 = is.0; number = is.1 }
