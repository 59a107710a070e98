-- The bytes so far are those of the word.
use Rattle.std.proofs.Common.{length, ◌-◌}
use Rattle.module_grammar.proofs.Matching.{Matches}
use Rattle.module_grammar.proofs.words.word.Given as goal

abbrev pub invariant-loop-same : goal.invariant-loop-same
invariant-loop-same l = Matches l.text l.bytes l.from l.same

abbrev pub decreases-loop-same : goal.decreases-loop-same
decreases-loop-same l = length l.text - l.same
