use Rattle.std.proofs.Common.{◌<◌, refl, subst, arith, Some}
use Rattle.map_subjects.specs.declared.subjects.Subject.TheVariants.{Attribute}
use Rattle.map_subjects.specs.Subjects.{name_of}
use Rattle.map_subjects.specs.Private.Collecting.{entries_with, entries_of}
use Rattle.map_subjects.proofs.InOrder.{element-entry, attribute-entry, simple-entry, complex-entry}
use Rattle.map_subjects.proofs.Earlier.{count-next, few-counted, one-counted}
use Rattle.map_subjects.proofs.counting.attributes_before.Goals as goal

pub attributes-preserved : goal.attributes-preserved
attributes-preserved c =
    let s = c.args.set.now in
    let n = c.attributes.n in
    let e = c.attribute.result.now in
    count-next s Attribute c.args.element.now n c.attributes.count c.before-count.result (entries_with (Attribute n) (Some e.name))
    c.attributes.invariant c.before-count.ensures (attribute-entry s n e c.attribute.ensures)

pub overflow_add-count : goal.overflow_add-count
overflow_add-count c =
    let s = c.args.set.now in
    let n = c.attributes.n in
    let e = c.attribute.result.now in
    omega (
      arith,
      c.attributes-test.true,
      few-counted s Attribute c.args.element.now n c.attributes.count c.attributes.invariant,
      one-counted (Attribute n) (Some e.name) c.args.element.now c.before-count.result c.before-count.ensures,
    )

pub returns-clause-few : goal.returns-clause-few
returns-clause-few c =
    omega (
      arith,
      few-counted c.args.set.now Attribute c.args.element.now c.attributes.n c.attributes.count c.attributes.invariant,
      c.attributes.auto.n-end,
      c.attribute_count-n-end.ensures,
    )
