use Rattle.module_grammar.proofs.MarkLaws.{part_marks_before_none, type_marks_law}
use Rattle.module_grammar.proofs.laws.marks_are_read.Goals as goal

pub returns : goal.returns
returns c = record { parts = part_marks_before_none; types = type_marks_law }
