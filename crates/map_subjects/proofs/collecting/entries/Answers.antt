use Rattle.map_subjects.proofs.InOrder.{sorted-entries, few-entries}
use Rattle.map_subjects.proofs.collecting.entries.Goals as goal

pub returns-clause-entries : goal.returns-clause-entries
returns-clause-entries c =
    sorted-entries c.args.set.now c.in_ok-made.made.items c.sort.new.entries.items c.requires c.in_ok-made.ensures c.sort.ensures.same c.in_ok-sort.ensures.sorted

pub returns-clause-few : goal.returns-clause-few
returns-clause-few c =
    few-entries c.args.set.now c.in_ok-made.made.items c.sort.new.entries.items c.requires c.in_ok-made.ensures c.sort.ensures.same
