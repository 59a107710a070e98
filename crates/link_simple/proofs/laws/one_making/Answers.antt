use Rattle.link_simple.proofs.Existence.{some_making}
use Rattle.link_simple.proofs.Uniqueness.{one_making}
use Rattle.link_simple.proofs.laws.one_making.Goals as goal

pub returns-clause-some : goal.returns-clause-some
returns-clause-some c = some_making

pub returns-clause-only : goal.returns-clause-only
returns-clause-only c = one_making
