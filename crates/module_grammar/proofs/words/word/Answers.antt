-- By the bytes so far.
use Rattle.module_grammar.proofs.Matching.{matches_next, matches_all, matches_end, matches_other}
use Rattle.module_grammar.proofs.words.word.Goals as goal
use Rattle.std.proofs.Common.{arith}

pub returns-then-at-bytes-clause-value : goal.returns-then-at-bytes-clause-value
returns-then-at-bytes-clause-value c = matches_end c.args.text.now c.args.bytes.now c.args.from c.loop-same.same c.later.result c.loop-same.invariant c.loop-same-test.true c.if-at-bytes.true c.later.ensures

pub returns-then-bytes-at-clause-value : goal.returns-then-bytes-at-clause-value
returns-then-bytes-at-clause-value c = matches_other c.args.text.now c.args.bytes.now c.args.from c.loop-same.same c.later-then-bytes-at.result c.loop-same.invariant c.loop-same-test.true (omega arith) c.if-bytes-at.true c.later-then-bytes-at.ensures

pub loop-same-preserved : goal.loop-same-preserved
loop-same-preserved c = matches_next c.args.text.now c.args.bytes.now c.args.from c.loop-same.same c.loop-same.invariant c.loop-same-test.true (omega arith) c.if-bytes-at.false

pub returns-clause-value : goal.returns-clause-value
returns-clause-value c = matches_all c.args.text.now c.args.bytes.now c.args.from c.loop-same.same c.later-2.result c.loop-same.invariant c.loop-same-test.false c.later-2.ensures
