use Rattle.std.proofs.Common.{◌+◌, arith}
use Rattle.content_match.proofs.Descending.{within_more_turns}
use Rattle.content_match.proofs.Nearby.{kid_on_way}
use Rattle.content_match.proofs.beside.go_beside.Goals as goal

pub returns-then-turns-ne2-clause-small : goal.returns-then-turns-ne2-clause-small
returns-then-turns-ne2-clause-small c = λ greatest w. within_more_turns greatest (greatest + 1) c.args.turns.now (omega arith) w

pub leaf_beside-requires-clause-kid : goal.leaf_beside-requires-clause-kid
leaf_beside-requires-clause-kid c = kid_on_way c.args.turns.now c.args.kids.now c.args.plan.now c.requires.stands c.if-turns-ne2.false
