use Rattle.std.proofs.Common.{arith, ap, sym, ◌∙◌}
use Rattle.base_trees.proofs.Roses.{node_count-kids}
use Rattle.base_trees.proofs.Kids.{kid-count-le}
use Rattle.content_models.specs.Clear.{empties_term}
use Rattle.content_models.specs.declared.particles.ParticleKind.TheVariants as kinds
use Rattle.value_contents.proofs.Kids.{term-by, empties-by}
use Rattle.value_contents.proofs.kinds.+emptiness.Goals as goal

pub may_be_empty-all_may_be_empty-requires : goal.may_be_empty-all_may_be_empty-requires
may_be_empty-all_may_be_empty-requires t c =
    let d = c.decreases in
    let k = node_count-kids c.args.particle.now in
    (rw c.kids.ensures (omega (arith, d, k)), tt)

pub may_be_empty-one_may_be_empty-requires : goal.may_be_empty-one_may_be_empty-requires
may_be_empty-one_may_be_empty-requires t c =
    let d = c.decreases in
    let k = node_count-kids c.args.particle.now in
    (rw c.kids-in-Choice.ensures (omega (arith, d, k)), tt)

pub may_be_empty-all_may_be_empty-requires-in-All : goal.may_be_empty-all_may_be_empty-requires-in-All
may_be_empty-all_may_be_empty-requires-in-All t c =
    let d = c.decreases in
    let k = node_count-kids c.args.particle.now in
    (rw c.kids-in-All.ensures (omega (arith, d, k)), tt)

pub all_may_be_empty-may_be_empty-requires : goal.all_may_be_empty-may_be_empty-requires
all_may_be_empty-may_be_empty-requires t c =
    let d = c.decreases in
    let k = kid-count-le c.args.particles.now c.particles.particle-index c.particle-item.result c.particles-test.true c.particle-item.is in
    (omega (arith, d, k), tt)

pub one_may_be_empty-may_be_empty-requires : goal.one_may_be_empty-may_be_empty-requires
one_may_be_empty-may_be_empty-requires t c =
    let d = c.decreases in
    let k = kid-count-le c.args.particles.now c.particles.particle-index c.particle-item.result c.particles-test.true c.particle-item.is in
    (omega (arith, d, k), tt)

pub may_be_empty-returns-in-Sequence : goal.may_be_empty-returns-in-Sequence
may_be_empty-returns-in-Sequence t c =
    let particle = c.args.particle.now in
    let label = c.label-label.result.now in
    empties-by particle label c.all_may_be_empty.result c.label-label.ensures c.if-label-eq0.false
    (c.all_may_be_empty.ensures ∙ sym (ap empties_term (term-by particle label c.kids.result.now kinds.Sequence c.label-label.ensures c.kids.ensures c.in-Sequence.is)))

pub may_be_empty-returns-in-Choice : goal.may_be_empty-returns-in-Choice
may_be_empty-returns-in-Choice t c =
    let particle = c.args.particle.now in
    let label = c.label-label.result.now in
    empties-by particle label c.one_may_be_empty.result c.label-label.ensures c.if-label-eq0.false
    (c.one_may_be_empty.ensures ∙ sym (ap empties_term (term-by particle label c.kids-in-Choice.result.now kinds.Choice c.label-label.ensures c.kids-in-Choice.ensures c.in-Choice.is)))

pub may_be_empty-returns-in-All : goal.may_be_empty-returns-in-All
may_be_empty-returns-in-All t c =
    let particle = c.args.particle.now in
    let label = c.label-label.result.now in
    empties-by particle label c.all_may_be_empty-in-All.result c.label-label.ensures c.if-label-eq0.false
    (c.all_may_be_empty-in-All.ensures ∙ sym (ap empties_term (term-by particle label c.kids-in-All.result.now kinds.All c.label-label.ensures c.kids-in-All.ensures c.in-All.is)))
