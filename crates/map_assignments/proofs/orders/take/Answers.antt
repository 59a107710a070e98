use Rattle.std.proofs.Common.{[]}
use Rattle.map_assignments.proofs.Taking.{names-next}
use Rattle.map_assignments.proofs.orders.take.Goals as goal

pub returns : goal.returns
returns c =
    λ rest names lead.
    names-next [] c.args.scope.now c.args.scope.now c.take.new.self c.take.new.self c.args.name.now _ rest names c.in_ok-take.ensures.taken c.in_ok-take.ensures.noted c.in_ok-take.ensures.noted lead
