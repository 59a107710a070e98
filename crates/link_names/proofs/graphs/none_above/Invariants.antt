use Rattle.std.proofs.Common.{ℕ, ◌≤◌, take, get_or}
use Rattle.base_texts.specs.Lists.{HasItem}
use Rattle.link_names.proofs.graphs.none_above.Given as goal

abbrev pub invariant-nodes : goal.invariant-nodes
invariant-nodes l = (b : ℕ) → HasItem (take l.node-index l.nodes) b → get_or l.ranks b 0 ≤ l.rank
