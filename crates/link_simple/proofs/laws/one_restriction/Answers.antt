use Rattle.link_simple.proofs.Existence.{some_restricted}
use Rattle.link_simple.proofs.Once.{restricted_once}
use Rattle.link_simple.proofs.laws.one_restriction.Goals as goal

pub returns-clause-some : goal.returns-clause-some
returns-clause-some c = some_restricted

pub returns-clause-only : goal.returns-clause-only
returns-clause-only c = restricted_once
