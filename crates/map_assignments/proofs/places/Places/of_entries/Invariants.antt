use Rattle.std.proofs.Common.{◌≡◌, ◌+◌, ◌≤◌, length, drop}
use Rattle.map_subjects.specs.declared.subjects.Subject.{Subject}
use Rattle.map_subjects.specs.Subjects.{place_in}
use Rattle.map_assignments.specs.Private.Placing.{place_of, HasLists}
use Rattle.map_assignments.proofs.places.Places.of_entries.Given as goal

abbrev pub decreases-entries : goal.decreases-entries
decreases-entries l = l.left

-- the numbers of the entries behind those that are left
abbrev pub invariant-entries : goal.invariant-entries
invariant-entries l =
    (l.left ≤ length l.entries) × HasLists l.set l.made × ((subject : Subject) → place_of l.made subject ≡ l.left + place_in (drop l.left l.entries) subject)
