use Rattle.std.proofs.Common.{rules, ◌≡◌, Some, None}
use Rattle.ruvkhiska_c.proofs.prepare_slot.Goals as goal

pub returns-then-not-is_open-clause-due : goal.returns-then-not-is_open-clause-due
returns-then-not-is_open-clause-due c =
    let none : c.args.files.now.listed.value ≡ None = search rules in
    rw none (rw c.new.ensures at c.prepare_boxed-then-not-is_open.ensures)

pub returns-clause-due : goal.returns-clause-due
returns-clause-due c =
    let is : c.args.files.now.listed.value ≡ Some c.deref.result.now = search rules in
    rw is c.prepare_boxed-prepared.ensures
