-- Reading a module at the beginning of bytes.
use Rattle.std.specs.Prelude.{ℕ, List, codes}
use Rattle.module_print.specs.Printed.{opening, closing}
use Rattle.module_grammar.specs.Reading.{Reader, then_at, many_at, as_at, behind_at, before_at}
use Rattle.module_text.specs.declared.marks.PartMark.{PartMark}
use Rattle.module_text.specs.declared.modules.PlainAssignment.{PlainAssignment}
use Rattle.module_grammar.specs.NameReading.{reference_at}
use Rattle.module_grammar.specs.MarkReading.{part_marks_at}
use Rattle.module_grammar.specs.TypeReading.{Typed, type_at}

abbrev pub assignment_of : ℕ → List ℕ × (List PartMark × Typed) → PlainAssignment
assignment_of place x = record { at = place; reference = x.0; marks = x.1.0; body = x.1.1 }

-- The instructions and the type of an assignment. At most `most` types, and at most `most` values, are nested.
abbrev pub body_at : ℕ → Reader (List PartMark × Typed)
body_at most = before_at (then_at part_marks_at (λ marks. type_at most most 0)) (codes "\n")

abbrev pub assignment_at : ℕ → Reader PlainAssignment
assignment_at most = as_at assignment_of (then_at (before_at reference_at (codes " ::= ")) (λ reference. body_at most))

abbrev pub module_at : ℕ → Reader (List PlainAssignment)
module_at most = behind_at opening (before_at (many_at (assignment_at most)) closing)
