use Rattle.std.proofs.Common.{drop}
use Rattle.map_assignments.specs.Plans.{Parts}
use Rattle.map_assignments.specs.Planning.{attributes}
use Rattle.map_assignments.specs.Private.Placing.{place_of}
use Rattle.map_assignments.specs.Private.Building.{LeadsToNamed}
use Rattle.map_assignments.proofs.mapper.Mapper.push_attributes.Given as goal

-- the parts so far, with those of the uses that are left
abbrev pub invariant-uses : goal.invariant-uses
invariant-uses l =
    (rest whole : Parts) → LeadsToNamed (place_of l.self.places.now) l.initial.parts (attributes l.self.set.now l.uses rest) whole
    → LeadsToNamed (place_of l.self.places.now) l.parts (attributes l.self.set.now (drop l.attribute-index l.uses) rest) whole
