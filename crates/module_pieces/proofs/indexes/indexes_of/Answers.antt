use Rattle.std.proofs.Common.{subst}
use Rattle.std.proofs.lemmas.List.{take_all}
use Rattle.module_text.specs.declared.modules.PlainAssignment.{PlainAssignment}
use Rattle.module_pieces.specs.Indexed.{IsKept, AreIndexes}
use Rattle.module_pieces.proofs.Kept.{each-more}
use Rattle.module_pieces.proofs.indexes.indexes_of.Goals as goal

pub assignments-preserved : goal.assignments-preserved
assignments-preserved c =
    each-more (λ kept (a : PlainAssignment). IsKept kept a.body) c.assignments.indexes.items _ c.args.assignments.now c.assignments.assignment-index _ c.assignment-item.result
    c.assignments-test.true c.assignment-item.is c.assignments.invariant c.in_ok-kept_index.ensures c.in_ok-push.ensures.items

pub returns : goal.returns
returns c =
    subst (AreIndexes c.assignments.indexes.items) (take_all c.assignments.assignment-index c.args.assignments.now c.assignments-test.false)
    c.assignments.invariant
