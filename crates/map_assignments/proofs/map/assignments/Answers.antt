use Rattle.std.proofs.Common.{[]}
use Rattle.map_subjects.specs.Subjects.{place_in}
use Rattle.map_assignments.specs.Private.Placing.{place_of}
use Rattle.map_assignments.proofs.Numbers.{mapped-same}
use Rattle.map_assignments.proofs.map.assignments.Goals as goal

pub returns : goal.returns
returns c =
    let entries = c.args.entries.now in
    let made = c.push_assignments.new.made in
    mapped-same (place_of c.in_ok-places.places) (place_in entries) c.in_ok-places.ensures c.args.set.now [] entries made.items c.in_ok-push_assignments.ensures
