use Rattle.validity_check.proofs.Lacking.{stands_on, lacking, all_stand}
use Rattle.validity_check.proofs.attributes.lacks_among_few.Goals as goal

pub returns-then-is_missing-clause-lacks : goal.returns-then-is_missing-clause-lacks
returns-then-is_missing-clause-lacks c = λ yes s.
    lacking s c.args.uses.now c.args.attributes.now c.loop-wanted.wanted-index c.wanted-item.result c.loop-wanted-test.true c.wanted-item.is (c.loop-wanted.invariant s)
    (c.is_missing.ensures.missing c.if-is_missing.true)

pub loop-wanted-preserved : goal.loop-wanted-preserved
loop-wanted-preserved c = λ s.
    stands_on s c.args.uses.now c.args.attributes.now c.loop-wanted.wanted-index c.wanted-item.result c.loop-wanted-test.true c.wanted-item.is (c.loop-wanted.invariant s)
    (c.is_missing.ensures.stands c.if-is_missing.false)

pub returns-clause-stand : goal.returns-clause-stand
returns-clause-stand c = λ no s. all_stand s c.args.uses.now c.args.attributes.now c.loop-wanted.wanted-index c.loop-wanted-test.false (c.loop-wanted.invariant s)
