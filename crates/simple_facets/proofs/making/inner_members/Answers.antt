use Rattle.simple_types.proofs.Seen.{union_is}
use Rattle.simple_facets.proofs.making.inner_members.Goals as goal

pub returns-in-Union : goal.returns-in-Union
returns-in-Union c = union_is c.args.simple.now c.in-Union.inner c.items.result.now c.in-Union.is c.items.ensures
