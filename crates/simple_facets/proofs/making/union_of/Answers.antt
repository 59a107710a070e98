use Rattle.std.proofs.Common.{◌<◌, sym, ap, subst, arith, length}
use Rattle.simple_types.specs.Space.{count_members}
use Rattle.simple_types.proofs.Members.{count_in}
use Rattle.simple_facets.proofs.Counting.{count_lent}
use Rattle.simple_facets.proofs.making.union_of.Goals as goal

pub union_of_lent-requires-clause-some : goal.union_of_lent-requires-clause-some
union_of_lent-requires-clause-some c =
    let lent = count_lent c.in-Ok.lent.items in
    let same = ap count_members c.in-Ok.ensures in
    let all = count_in c.args.members.now in
    let some = c.requires.some in
    subst (λ xs. 0 < length xs) (sym c.as_slice.ensures.value) (omega (arith, lent, same, all, some))
