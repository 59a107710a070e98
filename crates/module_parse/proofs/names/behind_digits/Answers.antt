-- By the bytes so far.
use Rattle.std.proofs.Common.{◌∙◌, sym}
use Rattle.base_texts.specs.Digits.{is_digit}
use Rattle.module_parse.proofs.Spanning.{spanned_none, spanned_next, spanned_all, spanned_other}
use Rattle.module_parse.proofs.names.behind_digits.Goals.{then-loop-at-test+else-is_digit, else-loop-at-test}
use Rattle.module_parse.proofs.names.behind_digits.Goals as goal

pub loop-at-init : goal.loop-at-init
loop-at-init c = spanned_none is_digit c.args.bytes.now c.args.from c.requires

pub loop-at-preserved : goal.loop-at-preserved
loop-at-preserved c = spanned_next is_digit c.args.bytes.now c.args.from c.loop-at.at c.loop-at.invariant c.loop-at-test.true (sym c.is_digit.ensures ∙ c.if-is_digit.true)

pub returns-clause-value : goal.returns-clause-value
returns-clause-value c = elim c.loop-at-test.branch [
  | then-loop-at-test+else-is_digit w ↦ spanned_other is_digit c.args.bytes.now c.args.from c.loop-at.at c.later.result c.loop-at.invariant w.loop-at-test.true (sym w.is_digit.ensures ∙ w.if-is_digit.false) c.later.ensures
  | else-loop-at-test w ↦ spanned_all is_digit c.args.bytes.now c.args.from c.loop-at.at c.later.result c.loop-at.invariant w.loop-at-test.false c.later.ensures
]
