use Rattle.std.proofs.Common.{length, ◌-◌, ◌<◌, ◌≤◌}
use Rattle.module_grammar.specs.Reading.{word_at}
use Rattle.module_print.specs.Notation.{new_line}
use Rattle.module_parse.specs.Reads.{IsRead}
use Rattle.module_parse.proofs.parts.line.Given as goal

abbrev pub invariant-levels : goal.invariant-levels
invariant-levels l = record {
  read : IsRead (word_at (new_line l.done)) l.bytes l.fn.from tt l.next;
  begun : l.fn.from.at < l.next.at;
  left : l.next.at ≤ length l.bytes;
  so_far : l.done ≤ l.levels;
}

abbrev pub decreases-levels : goal.decreases-levels
decreases-levels l = l.levels - l.done
