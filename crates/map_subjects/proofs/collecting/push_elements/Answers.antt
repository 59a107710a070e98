use Rattle.std.proofs.Common.{◌<◌, subst, arith, Some}
use Rattle.map_subjects.specs.declared.subjects.Subject.TheVariants.{Element}
use Rattle.map_subjects.specs.Private.Collecting.{entries_with}
use Rattle.map_subjects.proofs.InOrder.{firsts-next, element-entry}
use Rattle.map_subjects.proofs.collecting.push_elements.Goals as goal

pub elements-preserved : goal.elements-preserved
elements-preserved c =
    let s = c.args.set.now in
    let n = c.elements.n in
    let e = c.element.result.now in
    let below : n < s.globals = subst (λ m. n < m) c.global_count-n-end.ensures c.elements-test.true in
    firsts-next s Element n c.args.made.now.items c.elements.made.items c.push_entry.new.made.items (entries_with (Element n) (Some e.name))
    c.elements.invariant c.in_ok-push_entry.ensures (element-entry s n e below c.element.ensures)

pub element-requires : goal.element-requires
element-requires c =
    let n = c.elements.n in
    let below : n < c.args.set.now.globals = subst (λ m. n < m) c.global_count-n-end.ensures c.elements-test.true in
    let within = c.requires.globals in
    omega (arith, below, within)
