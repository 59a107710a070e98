use Rattle.std.proofs.Common.{◌≡◌, ℕ, true, take}
use Rattle.base_texts.specs.Lists.{HasItem}
use Rattle.link_names.specs.Private.Searching.{mark}
use Rattle.link_simple.proofs.orders.first_open.Given as goal

-- those before this one are done
abbrev pub invariant-nodes : goal.invariant-nodes
invariant-nodes l = (m : ℕ) → HasItem (take l.k l.nodes) m → mark l.done m ≡ true
