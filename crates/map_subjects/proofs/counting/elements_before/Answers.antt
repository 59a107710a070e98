use Rattle.std.proofs.Common.{◌<◌, refl, subst, arith, Some}
use Rattle.map_subjects.specs.declared.subjects.Subject.TheVariants.{Element}
use Rattle.map_subjects.specs.Subjects.{name_of}
use Rattle.map_subjects.specs.Private.Collecting.{entries_with, entries_of}
use Rattle.map_subjects.proofs.InOrder.{element-entry, attribute-entry, simple-entry, complex-entry}
use Rattle.map_subjects.proofs.Earlier.{count-next, few-counted, one-counted}
use Rattle.map_subjects.proofs.counting.elements_before.Goals as goal

pub elements-preserved : goal.elements-preserved
elements-preserved c =
    let s = c.args.set.now in
    let n = c.elements.n in
    let e = c.element.result.now in
    let below : n < s.globals = subst (λ m. n < m) c.global_count-n-end.ensures c.elements-test.true in
    count-next s Element c.args.element.now n c.elements.count c.before-count.result (entries_with (Element n) (Some e.name))
    c.elements.invariant c.before-count.ensures (element-entry s n e below c.element.ensures)

pub overflow_add-count : goal.overflow_add-count
overflow_add-count c =
    let s = c.args.set.now in
    let n = c.elements.n in
    let e = c.element.result.now in
    omega (
      arith,
      c.elements-test.true,
      few-counted s Element c.args.element.now n c.elements.count c.elements.invariant,
      one-counted (Element n) (Some e.name) c.args.element.now c.before-count.result c.before-count.ensures,
    )

pub returns-clause-few : goal.returns-clause-few
returns-clause-few c =
    omega (
      arith,
      few-counted c.args.set.now Element c.args.element.now c.elements.n c.elements.count c.elements.invariant,
      c.elements.auto.n-end,
      c.global_count-n-end.ensures,
    )
