use Rattle.module_read.proofs.Answering.{of_bytes, own_text, own_utf8, own_length}
use Rattle.module_read.proofs.reading.read_utf8.Goals as goal

pub module_of-requires-clause-utf8 : goal.module_of-requires-clause-utf8
module_of-requires-clause-utf8 c =
    rw c.deref.ensures.value (own_utf8 c.args.bytes.now c.in-Module.assignments.items (rw c.in-Module.is at c.in_ok-found.ensures) c.requires.utf8)

pub module_of-requires-clause-short : goal.module_of-requires-clause-short
module_of-requires-clause-short c =
    rw c.deref.ensures.value (own_length c.args.bytes.now c.in-Module.assignments.items (rw c.in-Module.is at c.in_ok-found.ensures) c.requires.short)

pub module_of-requires-clause-text : goal.module_of-requires-clause-text
module_of-requires-clause-text c =
    rw c.deref.ensures.value (own_text c.args.bytes.now c.in-Module.assignments.items (rw c.in-Module.is at c.in_ok-found.ensures))

pub returns-in-Module : goal.returns-in-Module
returns-in-Module c =
    of_bytes c.args.bytes.now c.in-Module.assignments.items c.module_of.result (rw c.in-Module.is at c.in_ok-found.ensures) (rw c.deref.ensures.value at c.module_of.ensures)

pub returns-in-Syntax : goal.returns-in-Syntax
returns-in-Syntax c = (c.requires.utf8, rw c.in-Syntax.is at c.in_ok-found.ensures)

pub returns-in-TooDeep : goal.returns-in-TooDeep
returns-in-TooDeep c = (c.requires.utf8, rw c.in-TooDeep.is at c.in_ok-found.ensures)
