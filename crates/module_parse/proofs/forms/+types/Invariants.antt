use Rattle.std.proofs.Common.{length, suc, ◌-◌, ◌+◌, ◌*◌}
use Rattle.module_grammar.specs.Reading.{behind_at}
use Rattle.module_grammar.specs.TypeReading.{type_at, between}
use Rattle.module_parse.specs.Readers.{sorted_at}
use Rattle.module_parse.proofs.Parting.{Parts}
use Rattle.module_parse.proofs.forms.+types.Given as goal

abbrev pub decreases-typed : goal.decreases-typed
decreases-typed l = 4 * l.room.depth + 0

abbrev pub decreases-part : goal.decreases-part
decreases-part l = 4 * l.room.depth + 1

abbrev pub decreases-sequence_of : goal.decreases-sequence_of
decreases-sequence_of l = 4 * l.room.depth + 1

abbrev pub decreases-block : goal.decreases-block
decreases-block l = 4 * l.room.depth + 2

abbrev pub decreases-sequence : goal.decreases-sequence
decreases-sequence l = 4 * l.room.depth + 3

abbrev pub decreases-choice : goal.decreases-choice
decreases-choice l = 4 * l.room.depth + 3

abbrev pub invariant-block-parts : goal.invariant-block-parts
invariant-block-parts l = Parts (behind_at (between l.room.levels) (sorted_at l.room.most l.sort (type_at l.room.most l.room.depth (suc l.room.levels)))) l.bytes l.initial.next l.initial.parts.parts.items l.parts.parts.items l.initial.parts.types.items l.parts.types.items l.next

abbrev pub decreases-block-parts : goal.decreases-block-parts
decreases-block-parts l = length l.bytes - l.next.at
