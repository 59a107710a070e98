use Rattle.std.proofs.Common.{drop}
use Rattle.module_parse.specs.Readers.{earlier_ranks}
use Rattle.module_parse.proofs.Ranking.{Trying}
use Rattle.module_parse.proofs.marks.own_mark.Given as goal

abbrev pub invariant-ranks : goal.invariant-ranks
invariant-ranks l = Trying l.bytes l.fn.from (drop l.rank-index earlier_ranks) l.next
