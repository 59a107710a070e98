use Rattle.std.proofs.Common.{◌+◌, [], ◌∷◌, map, drop, sym, ap, subst, ◌∙◌}
use Rattle.std.proofs.lemmas.List.{drop_all}
use Rattle.map_subjects.proofs.Finding.{drop-next}
use Rattle.map_assignments.specs.Plans.{attribute}
use Rattle.map_assignments.specs.Naming.{wanted}
use Rattle.map_assignments.specs.Private.Building.{LeadsToScope}
use Rattle.map_assignments.proofs.orders.take_attributes.Goals as goal

pub uses-preserved : goal.uses-preserved
uses-preserved c =
    let us = c.args.uses.now in
    let i = c.uses.attribute-index in
    let u = c.attribute-item.result in
    λ names lead.
    c.in_ok-take.ensures _ names
    (subst (λ ns. LeadsToScope c.uses.scope ns names)
    (ap (λ vs. map wanted (map (λ v. attribute v.name v.standard) vs)) (drop-next us i u c.uses-test.true c.attribute-item.is)
    ∙ ap (λ n. n ∷ map wanted (map (λ v. attribute v.name v.standard) (drop (i + 1) us))) (sym c.in_ok-name.ensures))
    (c.uses.invariant names lead))

pub returns : goal.returns
returns c =
    λ names lead.
    subst (λ vs. LeadsToScope c.uses.scope (map wanted (map (λ v. attribute v.name v.standard) vs)) names) (drop_all c.uses.attribute-index c.args.uses.now c.uses-test.false) (c.uses.invariant names lead)
