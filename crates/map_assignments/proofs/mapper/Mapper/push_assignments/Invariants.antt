use Rattle.std.proofs.Common.{◌≡◌, drop}
use Rattle.map_assignments.specs.Private.Placing.{place_of, references_of}
use Rattle.map_assignments.proofs.Mapping.{LeadsToMapped}
use Rattle.map_assignments.proofs.mapper.Mapper.push_assignments.Given as goal

abbrev pub invariant-entries : goal.invariant-entries
invariant-entries l =
    (l.scope ≡ references_of l.made.items)
    × LeadsToMapped (place_of l.self.places.now) l.self.set.now l.made.items (drop l.entry-index l.entries) l.entries
