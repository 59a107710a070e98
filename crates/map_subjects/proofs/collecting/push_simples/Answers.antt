use Rattle.map_subjects.specs.declared.subjects.Subject.TheVariants.{Simple}
use Rattle.map_subjects.specs.Private.Collecting.{entries_with}
use Rattle.map_subjects.proofs.InOrder.{firsts-next, simple-entry}
use Rattle.map_subjects.proofs.collecting.push_simples.Goals as goal

pub simples-preserved : goal.simples-preserved
simples-preserved c =
    let s = c.args.set.now in
    let n = c.simples.n in
    let e = c.simple.result.now in
    firsts-next s Simple n c.args.made.now.items c.simples.made.items c.push_named.new.made.items (entries_with (Simple n) e.name)
    c.simples.invariant c.in_ok-push_named.ensures (simple-entry s n e c.simple.ensures)
