use Rattle.std.proofs.Common.{◌≡◌, length}
use Rattle.link_names.proofs.ranks.Walk.from.Given as goal

abbrev pub invariant-steps : goal.invariant-steps
invariant-steps l = length l.self.rank.items ≡ length l.initial.self.rank.items
