use Rattle.std.proofs.Common.{not, ap, ◌∙◌}
use Rattle.map_assignments.specs.Plans.{attribute}
use Rattle.map_assignments.specs.Naming.{component_with, part_marks}
use Rattle.map_assignments.proofs.parts.PartList.attribute_part.Goals as goal

pub returns : goal.returns
returns c =
    let g = c.in_ok-identifier.identifier in
    let u = c.args.attribute.now in
    let l = attribute u.name u.standard in
    record {
      identifier = g;
      taken = c.in_ok-identifier.ensures.taken;
      noted = c.in_ok-identifier.ensures.noted;
      is = ap (λ m. component_with g (not u.required) c.in_ok-standard.standard m) c.in_ok-marks.ensures
          ∙ ap (λ x. component_with g (not u.required) x (part_marks l g)) c.in_ok-standard.ensures;
      components = c.in_ok-identifier.ensures.components;
      kids = c.in_ok-identifier.ensures.kids;
    }
