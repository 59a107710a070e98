use Rattle.std.proofs.Common.{◌<◌, refl, subst, arith, Some}
use Rattle.map_subjects.specs.declared.subjects.Subject.TheVariants.{Simple}
use Rattle.map_subjects.specs.Subjects.{name_of}
use Rattle.map_subjects.specs.Private.Collecting.{entries_with, entries_of}
use Rattle.map_subjects.proofs.InOrder.{element-entry, attribute-entry, simple-entry, complex-entry}
use Rattle.map_subjects.proofs.Earlier.{count-next, few-counted, one-counted}
use Rattle.map_subjects.proofs.counting.simples_before.Goals as goal

pub simples-preserved : goal.simples-preserved
simples-preserved c =
    let s = c.args.set.now in
    let n = c.simples.n in
    let e = c.simple.result.now in
    count-next s Simple c.args.element.now n c.simples.count c.named_before-count.result (entries_with (Simple n) e.name)
    c.simples.invariant c.named_before-count.ensures (simple-entry s n e c.simple.ensures)

pub overflow_add-count : goal.overflow_add-count
overflow_add-count c =
    let s = c.args.set.now in
    let n = c.simples.n in
    let e = c.simple.result.now in
    omega (
      arith,
      c.simples-test.true,
      few-counted s Simple c.args.element.now n c.simples.count c.simples.invariant,
      one-counted (Simple n) e.name c.args.element.now c.named_before-count.result c.named_before-count.ensures,
    )

pub returns-clause-few : goal.returns-clause-few
returns-clause-few c =
    omega (
      arith,
      few-counted c.args.set.now Simple c.args.element.now c.simples.n c.simples.count c.simples.invariant,
      c.simples.auto.n-end,
      c.simple_count-n-end.ensures,
    )
