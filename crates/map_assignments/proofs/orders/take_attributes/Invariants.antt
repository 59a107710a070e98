use Rattle.std.proofs.Common.{ℕ, List, map, drop}
use Rattle.map_assignments.specs.Plans.{attribute}
use Rattle.map_assignments.specs.Naming.{wanted}
use Rattle.map_assignments.specs.Private.Building.{LeadsToScope}
use Rattle.map_assignments.proofs.orders.take_attributes.Given as goal

-- the identifiers so far, with those of the uses that are left
abbrev pub invariant-uses : goal.invariant-uses
invariant-uses l =
    (names : List (List ℕ)) → LeadsToScope l.initial.scope (map wanted (map (λ u. attribute u.name u.standard) l.uses)) names
    → LeadsToScope l.scope (map wanted (map (λ u. attribute u.name u.standard) (drop l.attribute-index l.uses))) names
