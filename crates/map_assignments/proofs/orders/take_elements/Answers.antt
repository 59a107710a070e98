use Rattle.std.proofs.Common.{false, map, refl, ap, subst, ◌∙◌}
use Rattle.std.proofs.lemmas.List.{drop_all}
use Rattle.base_trees.specs.Rose.{roses_of, kids_of}
use Rattle.base_trees.proofs.Kids.{roses_of-drop}
use Rattle.content_models.specs.Seen.{all_seen}
use Rattle.map_assignments.specs.Planning.{labels, particle_parts}
use Rattle.map_assignments.specs.Naming.{wanted}
use Rattle.map_assignments.specs.Private.Building.{LeadsToNames}
use Rattle.map_assignments.proofs.Models.{parts-more}
use Rattle.map_assignments.proofs.Taking.{names-next}
use Rattle.map_assignments.proofs.orders.take_elements.Goals as goal

pub particles-preserved : goal.particles-preserved
particles-preserved c =
    let particle = c.particle-item.result in
    λ T first names lead.
    names-next first c.particles.scope c.particles.made.items c.take.new.self c.push.new.self.items c.in_ok-name.name c.in_ok-identifier.identifier _ names
    c.in_ok-identifier.ensures.taken c.in_ok-identifier.ensures.noted c.in_ok-push.ensures.items
    (subst (λ ns. LeadsToNames first c.particles.scope c.particles.made.items ns names)
    (ap (λ ts. map wanted (labels (particle_parts T false (all_seen ts)))) (roses_of-drop c.args.particles.now c.particles.particle-index particle c.particles-test.true c.particle-item.is)
    ∙ ap (λ ps. map wanted (labels ps)) (parts-more T particle c.label.result.now (kids_of particle) c.label.ensures refl false _)
    ∙ c.in_ok-name.ensures (all_seen (roses_of (kids_of particle))) _ _)
    (c.particles.invariant T first names lead))

pub returns : goal.returns
returns c =
    λ T first names lead.
    subst (λ ps. LeadsToNames first c.particles.scope c.particles.made.items (map wanted (labels (particle_parts T false (all_seen (roses_of ps))))) names)
    (drop_all c.particles.particle-index c.args.particles.now c.particles-test.false) (c.particles.invariant T first names lead)
