use Rattle.std.proofs.Common.{arith, length, ap}
use Rattle.link_simple.proofs.Varied.{some_lent}
use Rattle.link_simple.proofs.unions.union.Goals as goal

pub union_of_lent-requires-clause-some : goal.union_of_lent-requires-clause-some
union_of_lent-requires-clause-some c =
    let some = some_lent c.in_ok-members.members.items c.args.parts.now c.in_ok-members.ensures c.requires.some in
    let same = ap length c.as_slice.ensures.value in
    omega (arith, some, same)
