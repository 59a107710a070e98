use Rattle.std.proofs.Common.{false, map}
use Rattle.base_trees.specs.Rose.{roses_of}
use Rattle.content_models.specs.Seen.{all_seen}
use Rattle.map_assignments.specs.Planning.{labels, particle_parts}
use Rattle.map_assignments.specs.Naming.{wanted}
use Rattle.map_assignments.proofs.Taking.{names-init, names-end}
use Rattle.map_assignments.proofs.orders.element_names.Goals as goal

pub returns : goal.returns
returns c =
    λ T.
    let names = map wanted (labels (particle_parts T false (all_seen (roses_of c.args.particles.now)))) in
    names-end c.args.scope c.take_elements.new.scope c.take_elements.new.made.items names
    (c.in_ok-take_elements.ensures T c.args.scope names (names-init c.args.scope c.new-made.result.items names c.new-made.ensures.items))
