use Rattle.std.proofs.Common.{◌≡◌, length}
use Rattle.link_names.proofs.ranks.ranks_of.Given as goal

abbrev pub invariant-nodes : goal.invariant-nodes
invariant-nodes l = length l.walk.rank.items ≡ length l.graph
