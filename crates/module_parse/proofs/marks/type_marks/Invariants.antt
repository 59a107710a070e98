use Rattle.std.proofs.Common.{drop}
use Rattle.module_grammar.specs.MarkReading.{type_marks_at}
use Rattle.module_parse.specs.Readers.{type_mark_at, type_ranks}
use Rattle.module_parse.proofs.Ranking.{Ranked}
use Rattle.module_parse.proofs.marks.type_marks.Given as goal

abbrev pub invariant-ranks : goal.invariant-ranks
invariant-ranks l = Ranked type_mark_at type_marks_at l.bytes l.fn.from l.marks.items (drop l.rank-index type_ranks) l.next
