use Rattle.std.proofs.Common.{◌<◌, refl, subst, arith, Some}
use Rattle.map_subjects.specs.declared.subjects.Subject.TheVariants.{Complex}
use Rattle.map_subjects.specs.Subjects.{name_of}
use Rattle.map_subjects.specs.Private.Collecting.{entries_with, entries_of}
use Rattle.map_subjects.proofs.InOrder.{element-entry, attribute-entry, simple-entry, complex-entry}
use Rattle.map_subjects.proofs.Earlier.{count-next, few-counted, one-counted}
use Rattle.map_subjects.proofs.counting.complexes_before.Goals as goal

pub complexes-preserved : goal.complexes-preserved
complexes-preserved c =
    let s = c.args.set.now in
    let n = c.complexes.n in
    let e = c.complex.result.now in
    count-next s Complex c.args.element.now n c.complexes.count c.named_before-count.result (entries_with (Complex n) e.name)
    c.complexes.invariant c.named_before-count.ensures (complex-entry s n e c.complex.ensures)

pub overflow_add-count : goal.overflow_add-count
overflow_add-count c =
    let s = c.args.set.now in
    let n = c.complexes.n in
    let e = c.complex.result.now in
    omega (
      arith,
      c.complexes-test.true,
      few-counted s Complex c.args.element.now n c.complexes.count c.complexes.invariant,
      one-counted (Complex n) e.name c.args.element.now c.named_before-count.result c.named_before-count.ensures,
    )

pub returns-clause-few : goal.returns-clause-few
returns-clause-few c =
    omega (
      arith,
      few-counted c.args.set.now Complex c.args.element.now c.complexes.n c.complexes.count c.complexes.invariant,
      c.complexes.auto.n-end,
      c.complex_count-n-end.ensures,
    )
