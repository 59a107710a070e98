use Rattle.std.proofs.Common.{drop}
use Rattle.module_grammar.specs.MarkReading.{part_marks_at}
use Rattle.module_parse.specs.Readers.{part_mark_at, part_ranks}
use Rattle.module_parse.proofs.Ranking.{Ranked}
use Rattle.module_parse.proofs.marks.part_marks.Given as goal

abbrev pub invariant-ranks : goal.invariant-ranks
invariant-ranks l = Ranked part_mark_at part_marks_at l.bytes l.fn.from l.marks.items (drop l.rank-index part_ranks) l.next
