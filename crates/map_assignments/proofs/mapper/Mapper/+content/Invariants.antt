use Rattle.std.proofs.Common.{◌+◌, ◌*◌, drop}
use Rattle.base_trees.specs.Rose.{node_count, count_all, roses_of}
use Rattle.content_models.specs.Seen.{all_seen}
use Rattle.map_assignments.specs.Plans.{Parts}
use Rattle.map_assignments.specs.Planning.{particle_parts}
use Rattle.map_assignments.specs.Private.Placing.{place_of}
use Rattle.map_assignments.specs.Private.Building.{LeadsToNamed, declared}
use Rattle.map_assignments.proofs.mapper.Mapper.+content.Given as goal

-- A complex type has so many levels below it, and a content model so many nodes.
abbrev pub decreases-particle_type : goal.decreases-particle_type
decreases-particle_type l = 1048576 * l.levels + 2

abbrev pub decreases-own_type : goal.decreases-own_type
decreases-own_type l = 1048576 * l.levels + 1

abbrev pub decreases-in_place : goal.decreases-in_place
decreases-in_place l = 1048576 * l.levels

abbrev pub decreases-complex_type : goal.decreases-complex_type
decreases-complex_type l = 1048576 * l.levels + 400004

abbrev pub decreases-push_rest : goal.decreases-push_rest
decreases-push_rest l = 1048576 * l.levels + 400002

abbrev pub decreases-content_type : goal.decreases-content_type
decreases-content_type l = 1048576 * l.levels + 400001

abbrev pub decreases-push_content : goal.decreases-push_content
decreases-push_content l = 1048576 * l.levels + 400000

abbrev pub decreases-push_top : goal.decreases-push_top
decreases-push_top l = 1048576 * l.levels + 4 * node_count l.particle.now + 4

abbrev pub decreases-term_type : goal.decreases-term_type
decreases-term_type l = 1048576 * l.levels + 4 * node_count l.particle.now + 3

abbrev pub decreases-sequence_type : goal.decreases-sequence_type
decreases-sequence_type l = 1048576 * l.levels + 4 * count_all (roses_of l.particles.now) + 5

abbrev pub decreases-choice_type : goal.decreases-choice_type
decreases-choice_type l = 1048576 * l.levels + 4 * count_all (roses_of l.particles.now) + 5

abbrev pub decreases-push_particles : goal.decreases-push_particles
decreases-push_particles l = 1048576 * l.levels + 4 * count_all (roses_of l.particles.now) + 4

-- the parts so far, with those of the particles that are left
abbrev pub invariant-push_particles-particles : goal.invariant-push_particles-particles
invariant-push_particles-particles l =
    (whole : Parts) → LeadsToNamed (place_of l.self.places.now) l.initial.parts (particle_parts (declared l.self.set.now l.levels) l.in_choice (all_seen (roses_of l.particles))) whole
    → LeadsToNamed (place_of l.self.places.now) l.parts (particle_parts (declared l.self.set.now l.levels) l.in_choice (all_seen (roses_of (drop l.particle-index l.particles)))) whole
