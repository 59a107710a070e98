use Rattle.std.proofs.Common.{◌≡◌, length}
use Rattle.link_names.proofs.ranks.Walk.rank_from.Given as goal

abbrev pub invariant-held : goal.invariant-held
invariant-held l = length l.self.rank.items ≡ length l.initial.self.rank.items
