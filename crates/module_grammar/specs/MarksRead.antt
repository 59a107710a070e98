-- Exactly the encoding instructions are read, those of parts and those of types.
use Rattle.std.specs.Prelude.{◌≡◌, codes}
use Rattle.module_grammar.specs.Reading.{word_at}
use Rattle.module_grammar.specs.Shapes.{never, IsUnread}
use Rattle.module_grammar.specs.Laws.{Law}
use Rattle.module_text.specs.Plain.{AreTypeMarks, ArePartMarks}
use Rattle.module_text.specs.Texts.{part_marks_text, type_marks_text}
use Rattle.module_text.specs.Places.{placed_part_marks, placed_type_marks}
use Rattle.module_grammar.specs.MarkReading.{part_marks_at, type_marks_at}

pub record MarksRead : Type 0 where
  pub parts : Law (λ place ms. ArePartMarks ms × (placed_part_marks place ms ≡ ms)) never part_marks_text (IsUnread (word_at (codes "["))) part_marks_at
  pub types : Law (λ place ms. AreTypeMarks ms × (placed_type_marks place ms ≡ ms)) never type_marks_text (IsUnread (word_at (codes "["))) type_marks_at
