use Rattle.std.proofs.Common.{sym, ap, subst, ◌∙◌}
use Rattle.std.specs.Prelude.{IsUtf8}
use Rattle.module_text.specs.Told.{told_name}
use Rattle.module_read.proofs.marks.name.Goals as goal

pub from_utf8-requires : goal.from_utf8-requires
from_utf8-requires c =
    subst IsUtf8 (sym (c.deref.ensures.value ∙ c.in_ok-bytes.ensures ∙ ap (λ generated. told_name generated c.args.name.now) c.bytes.ensures.bytes)) c.requires
