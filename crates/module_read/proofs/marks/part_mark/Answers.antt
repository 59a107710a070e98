use Rattle.std.proofs.Common.{sym, subst}
use Rattle.std.specs.Prelude.{IsUtf8}
use Rattle.module_read.specs.Ready.{IsPartMarkReady}
use Rattle.module_read.proofs.marks.part_mark.Goals as goal

pub name-requires : goal.name-requires
name-requires c = subst (IsPartMarkReady c.args.generated.now) c.in-Name.is c.requires

pub from_utf8-requires : goal.from_utf8-requires
from_utf8-requires c = subst IsUtf8 (sym c.bytes.ensures) (subst (IsPartMarkReady c.args.generated.now) c.in-Namespace.is c.requires)
