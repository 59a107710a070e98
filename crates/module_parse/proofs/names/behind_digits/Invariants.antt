-- The bytes so far are digits.
use Rattle.std.proofs.Common.{length, ◌-◌}
use Rattle.base_texts.specs.Digits.{is_digit}
use Rattle.module_parse.proofs.Spanning.{Spanned}
use Rattle.module_parse.proofs.names.behind_digits.Given as goal

abbrev pub invariant-loop-at : goal.invariant-loop-at
invariant-loop-at l = Spanned is_digit l.bytes l.from l.at

abbrev pub decreases-loop-at : goal.decreases-loop-at
decreases-loop-at l = length l.bytes - l.at
