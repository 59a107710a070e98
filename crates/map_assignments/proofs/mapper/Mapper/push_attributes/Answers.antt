use Rattle.std.proofs.Common.{not, subst}
use Rattle.std.proofs.lemmas.List.{drop_all}
use Rattle.map_assignments.specs.Plans.{attribute}
use Rattle.map_assignments.specs.Planning.{attributes, simple_type}
use Rattle.map_assignments.specs.Private.Placing.{place_of}
use Rattle.map_assignments.specs.Private.Building.{LeadsToNamed}
use Rattle.map_assignments.proofs.Building.{adds-next}
use Rattle.map_subjects.proofs.Finding.{drop-next}
use Rattle.map_assignments.proofs.mapper.Mapper.push_attributes.Goals as goal

pub uses-preserved : goal.uses-preserved
uses-preserved c =
    let s = c.args.self.set.now in
    let u = c.attribute-item.result in
    let i = c.uses.attribute-index in
    let place = place_of c.args.self.places.now in
    λ rest whole lead.
    adds-next place c.uses.parts c.push_attribute.new.self (attribute u.name u.standard) (not u.required) (simple_type s u.simple) c.in_ok-kid.kid _ whole
    c.in_ok-push_attribute.ensures
    c.in_ok-kid.ensures
    (subst (λ us. LeadsToNamed place c.uses.parts (attributes s us rest) whole) (drop-next c.args.uses.now i u c.uses-test.true c.attribute-item.is) (c.uses.invariant rest whole lead))

pub returns : goal.returns
returns c =
    let s = c.args.self.set.now in
    let place = place_of c.args.self.places.now in
    λ rest whole lead.
    subst (λ us. LeadsToNamed place c.uses.parts (attributes s us rest) whole) (drop_all c.uses.attribute-index c.args.uses.now c.uses-test.false) (c.uses.invariant rest whole lead)
