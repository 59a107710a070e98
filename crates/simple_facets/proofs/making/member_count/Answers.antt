use Rattle.std.proofs.Common.{sym}
use Rattle.simple_types.specs.Seen.{space_of}
use Rattle.simple_facets.proofs.Counting.{members_inner, members_other}
use Rattle.simple_facets.proofs.making.member_count.Goals as goal

pub returns-in-Some : goal.returns-in-Some
returns-in-Some c = sym (members_inner (space_of c.args.simple.now) c.in-Some.inner.now c.in-Some.ensures)

pub returns-in-None : goal.returns-in-None
returns-in-None c = sym (members_other (space_of c.args.simple.now) c.in-None.ensures)
