use Rattle.std.proofs.Common.{◌<◌, refl, subst, arith, Some}
use Rattle.map_subjects.specs.declared.subjects.Subject.TheVariants.{Nillable}
use Rattle.map_subjects.specs.Subjects.{name_of}
use Rattle.map_subjects.specs.Private.Collecting.{entries_with, entries_of}
use Rattle.map_subjects.proofs.InOrder.{element-entry, attribute-entry, simple-entry, complex-entry}
use Rattle.map_subjects.proofs.Earlier.{count-next, few-counted, one-counted}
use Rattle.map_subjects.proofs.counting.nillables_before.Goals as goal

pub complexes-preserved : goal.complexes-preserved
complexes-preserved c =
    let s = c.args.set.now in
    let n = c.complexes.n in
    count-next s Nillable c.args.element.now n c.complexes.count c.nillable_before-count.result (entries_of s (Nillable n))
    c.complexes.invariant c.nillable_before-count.ensures refl

pub overflow_add-count : goal.overflow_add-count
overflow_add-count c =
    let s = c.args.set.now in
    let n = c.complexes.n in
    omega (
      arith,
      c.complexes-test.true,
      few-counted s Nillable c.args.element.now n c.complexes.count c.complexes.invariant,
      one-counted (Nillable n) (name_of s (Nillable n)) c.args.element.now c.nillable_before-count.result c.nillable_before-count.ensures,
    )

pub returns-clause-few : goal.returns-clause-few
returns-clause-few c =
    omega (
      arith,
      few-counted c.args.set.now Nillable c.args.element.now c.complexes.n c.complexes.count c.complexes.invariant,
      c.complexes.auto.n-end,
      c.complex_count-n-end.ensures,
    )
