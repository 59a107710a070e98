use Rattle.std.proofs.Common.{subst}
use Rattle.std.proofs.lemmas.List.{take_all}
use Rattle.module_check.specs.Known.{AreSimples}
use Rattle.module_check.proofs.Listing.{simples-more}
use Rattle.module_check.proofs.finding.simples_of.Goals as goal

pub assignments-preserved : goal.assignments-preserved
assignments-preserved c =
    simples-more c.assignments.simples.items _ c.args.assignments.now c.assignments.assignment-index _ c.assignment-item.result
    c.assignments-test.true c.assignment-item.is c.assignments.invariant c.in_ok-simple_told.ensures c.in_ok-push.ensures.items

pub returns : goal.returns
returns c =
    subst (AreSimples c.assignments.simples.items) (take_all c.assignments.assignment-index c.args.assignments.now c.assignments-test.false)
    c.assignments.invariant
