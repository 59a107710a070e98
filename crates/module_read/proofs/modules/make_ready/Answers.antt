use Rattle.std.proofs.Common.{sym, subst}
use Rattle.module_read.specs.Ready.{IsAssignmentReady}
use Rattle.module_read.proofs.modules.make_ready.Goals as goal

pub assignment-requires-clause-ready : goal.assignment-requires-clause-ready
assignment-requires-clause-ready c =
    subst (IsAssignmentReady c.args.assignments.now) (sym c.plain-item.is)
    (c.requires.ready c.assignments.plain-index c.plain-item.result c.assignments-test.true)
