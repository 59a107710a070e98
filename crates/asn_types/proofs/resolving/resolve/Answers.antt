use Rattle.std.proofs.Common.{◌-◌, refl, sym, ◌∙◌}
use Rattle.asn_types.proofs.Following.{follow-stops, follow-goes, follow-done}
use Rattle.asn_types.proofs.resolving.resolve.Goals as goal

pub refs-init : goal.refs-init
refs-init c = refl

pub refs-preserved : goal.refs-preserved
refs-preserved c = sym (follow-goes c.args.module.now 4 c.refs.counter c.refs.found.now c.in-Some.body.now c.refs-test.true c.in-Some.ensures) ∙ c.refs.invariant

pub returns-in-None : goal.returns-in-None
returns-in-None c = sym (follow-stops c.args.module.now (4 - c.refs.counter) c.refs.found.now c.in-None.ensures) ∙ c.refs.invariant

pub returns : goal.returns
returns c = sym (follow-done c.args.module.now 4 c.refs.counter c.refs.found.now c.refs-test.false) ∙ c.refs.invariant
