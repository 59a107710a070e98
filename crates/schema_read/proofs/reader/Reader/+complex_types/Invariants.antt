use Rattle.std.proofs.Common.{◌+◌, ◌*◌, drop, length}
use Rattle.schema_read.proofs.Words.{node_count, count_all, roses_of, bindings_in, said, particles_among, group_among, inner_kind}
use Rattle.schema_read.proofs.Making.{Ahead, RestAhead}
use Rattle.schema_read.proofs.reader.Reader.+complex_types.Given as goal

abbrev pub decreases-particle_at : goal.decreases-particle_at
decreases-particle_at l = 9 * node_count l.tree.now

abbrev pub decreases-particle_of : goal.decreases-particle_of
decreases-particle_of l = 9 * count_all (roses_of l.kids.now) + 8

abbrev pub decreases-particles_among : goal.decreases-particles_among
decreases-particles_among l = 9 * count_all (roses_of l.kids.now) + 1

abbrev pub decreases-group_among : goal.decreases-group_among
decreases-group_among l = 9 * count_all (roses_of l.kids.now) + 1

abbrev pub decreases-declare : goal.decreases-declare
decreases-declare l = 9 * count_all (roses_of l.kids.now) + 7

abbrev pub decreases-declare_own : goal.decreases-declare_own
decreases-declare_own l = 9 * count_all (roses_of l.kids.now) + 6

abbrev pub decreases-element_of : goal.decreases-element_of
decreases-element_of l = 9 * count_all (roses_of l.kids.now) + 5

abbrev pub decreases-inner_kind : goal.decreases-inner_kind
decreases-inner_kind l = 9 * count_all (roses_of l.kids.now) + 4

abbrev pub decreases-complex_type : goal.decreases-complex_type
decreases-complex_type l = 9 * node_count l.tree.now

abbrev pub decreases-complex_of : goal.decreases-complex_of
decreases-complex_of l = 9 * count_all (roses_of l.kids.now) + 8

-- those so far and those of the rest are all
abbrev pub invariant-particles_among-loop-kid : goal.invariant-particles_among-loop-kid
invariant-particles_among-loop-kid l =
    Ahead l.initial.locals.items l.locals.items l.particles.items
    (particles_among (said l.self.setting) (bindings_in l.self.scope.now) (length l.locals.items) (roses_of (drop l.kid-index l.kids)))
    (particles_among (said l.self.setting) (bindings_in l.self.scope.now) (length l.initial.locals.items) (roses_of l.kids))

-- the first of those that are left
abbrev pub invariant-inner_kind-loop-kid : goal.invariant-inner_kind-loop-kid
invariant-inner_kind-loop-kid l =
    RestAhead l.initial.locals.items l.locals.items
    (inner_kind (said l.self.setting) (bindings_in l.self.scope.now) (length l.locals.items) (roses_of (drop l.kid-index l.kids)))
    (inner_kind (said l.self.setting) (bindings_in l.self.scope.now) (length l.initial.locals.items) (roses_of l.kids))

abbrev pub invariant-group_among-loop-kid : goal.invariant-group_among-loop-kid
invariant-group_among-loop-kid l =
    RestAhead l.initial.locals.items l.locals.items
    (group_among (said l.self.setting) (bindings_in l.self.scope.now) (length l.locals.items) (roses_of (drop l.kid-index l.kids)))
    (group_among (said l.self.setting) (bindings_in l.self.scope.now) (length l.initial.locals.items) (roses_of l.kids))
