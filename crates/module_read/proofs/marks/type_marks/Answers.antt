use Rattle.module_read.proofs.Making.{next_ready}
use Rattle.module_read.proofs.marks.type_marks.Goals as goal

pub type_mark-requires-clause-mark : goal.type_mark-requires-clause-mark
type_mark-requires-clause-mark c =
    let is = next_ready c.args.spot c.args.form.now c.marks.least c.args.marks.now c.marks.mark-index c.mark-item.result c.marks-test.true c.mark-item.is c.marks.invariant.rest in
    is.0
