use Rattle.std.proofs.Common.{sym, ◌∙◌}
use Rattle.validity_check.proofs.Lacking.{none_yet, stands_on, lacking, all_stand}
use Rattle.validity_check.proofs.ByUses.{told_text}
use Rattle.validity_check.proofs.attributes.lacks_among.Goals as goal

pub uses-init : goal.uses-init
uses-init c = λ s xs are. none_yet s c.args.uses.now xs

pub returns-then-is_missing_text-clause-lacks : goal.returns-then-is_missing_text-clause-lacks
returns-then-is_missing_text-clause-lacks c = λ yes s xs are.
    let us = c.args.uses.now in
    let u = c.index-uses-i.result in
    let t = c.index-texts-i.result in
    let missing = c.is_missing_text.ensures.missing c.if-is_missing_text.true in
    let tie = told_text xs us c.args.texts.now are c.uses.i c.uses-test.true t c.index-texts-i.is u c.index-uses-i.is in
    lacking s us xs c.uses.i u c.uses-test.true c.index-uses-i.is (c.uses.invariant s xs are) (missing.0, sym tie ∙ missing.1)

pub uses-preserved : goal.uses-preserved
uses-preserved c = λ s xs are.
    let us = c.args.uses.now in
    let u = c.index-uses-i.result in
    let t = c.index-texts-i.result in
    let tie = told_text xs us c.args.texts.now are c.uses.i c.uses-test.true t c.index-texts-i.is u c.index-uses-i.is in
    stands_on s us xs c.uses.i u c.uses-test.true c.index-uses-i.is (c.uses.invariant s xs are) (λ yes none. c.is_missing_text.ensures.stands c.if-is_missing_text.false yes (tie ∙ none))

pub returns-clause-stand : goal.returns-clause-stand
returns-clause-stand c = λ no s xs are. all_stand s c.args.uses.now xs c.uses.i c.uses-test.false (c.uses.invariant s xs are)
