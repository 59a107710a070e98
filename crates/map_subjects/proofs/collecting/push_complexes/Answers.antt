use Rattle.map_subjects.specs.declared.subjects.Subject.TheVariants.{Complex}
use Rattle.map_subjects.specs.Private.Collecting.{entries_with}
use Rattle.map_subjects.proofs.InOrder.{firsts-next, complex-entry}
use Rattle.map_subjects.proofs.collecting.push_complexes.Goals as goal

pub complexes-preserved : goal.complexes-preserved
complexes-preserved c =
    let s = c.args.set.now in
    let n = c.complexes.n in
    let e = c.complex.result.now in
    firsts-next s Complex n c.args.made.now.items c.complexes.made.items c.push_named.new.made.items (entries_with (Complex n) e.name)
    c.complexes.invariant c.in_ok-push_named.ensures (complex-entry s n e c.complex.ensures)
