-- By its digits.
use Rattle.std.proofs.Common.{◌∙◌, sym, arith}
use Rattle.module_parse.proofs.Numerals.{numeral_read, no_numeral_here, no_numeral_left}
use Rattle.module_parse.proofs.names.numeral.Goals.{then-from-bytes-via-then-from-bytes, then-from-bytes-via-else-from-bytes+then-not-is_digit}
use Rattle.module_parse.proofs.names.numeral.Goals as goal

pub returns-then-from-bytes-clause-value : goal.returns-then-from-bytes-clause-value
returns-then-from-bytes-clause-value c = elim c.then-from-bytes.branch [
  | then-from-bytes-via-then-from-bytes w ↦ no_numeral_left c.args.bytes.now c.args.from c.later.result (omega (arith, w.if-from-bytes.true)) c.later.ensures
  | then-from-bytes-via-else-from-bytes+then-not-is_digit w ↦ no_numeral_here c.args.bytes.now c.args.from c.later.result (omega (arith, c.requires, w.if-from-bytes.false)) (sym w.is_digit.ensures ∙ w.if-not-is_digit.true) c.later.ensures
]

pub returns-clause-value : goal.returns-clause-value
returns-clause-value c = numeral_read c.args.bytes.now c.args.from c.behind_digits.result c.later-2.result (omega (arith, c.requires, c.if-from-bytes.false)) (sym c.is_digit.ensures ∙ c.if-not-is_digit.false) c.later-2.ensures c.behind_digits.ensures.within.0 c.behind_digits.ensures.value
