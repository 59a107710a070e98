use Rattle.std.proofs.Common.{ℕ, List, false, map, drop}
use Rattle.base_trees.specs.Rose.{roses_of}
use Rattle.content_models.specs.Seen.{all_seen}
use Rattle.map_assignments.specs.Plans.{TypePlan}
use Rattle.map_assignments.specs.Planning.{labels, particle_parts}
use Rattle.map_assignments.specs.Naming.{wanted}
use Rattle.map_assignments.specs.Private.Building.{LeadsToNames}
use Rattle.map_assignments.proofs.orders.take_elements.Given as goal

-- the identifiers so far, with those of the particles that are left
abbrev pub invariant-particles : goal.invariant-particles
invariant-particles l =
    (T : ℕ → TypePlan) (first names : List (List ℕ))
    → LeadsToNames first l.initial.scope l.initial.made.items (map wanted (labels (particle_parts T false (all_seen (roses_of l.particles))))) names
    → LeadsToNames first l.scope l.made.items (map wanted (labels (particle_parts T false (all_seen (roses_of (drop l.particle-index l.particles)))))) names
