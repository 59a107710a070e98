use Rattle.std.proofs.Common.{◌≡◌, ◌++◌, drop}
use Rattle.map_assignments.specs.Naming.{text_marks}
use Rattle.map_assignments.proofs.words.push_texts.Given as goal

-- what is pushed, with what is still to be pushed
abbrev pub invariant-words : goal.invariant-words
invariant-words l =
    l.marks.items ++ text_marks l.i (drop l.i l.identifiers) (drop l.i l.words) ≡ l.initial.marks.items ++ text_marks 0 l.identifiers l.words
