use Rattle.std.proofs.Common.{ap}
use Rattle.simple_types.specs.declared.standards.Standard.TheVariants.{Free}
use Rattle.map_assignments.specs.Naming.{component_with}
use Rattle.map_assignments.proofs.parts.PartList.element_part.Goals as goal

pub returns : goal.returns
returns c =
    let g = c.in_ok-identifier.identifier in
    record {
      identifier = g;
      taken = c.in_ok-identifier.ensures.taken;
      noted = c.in_ok-identifier.ensures.noted;
      is = ap (λ m. component_with g c.args.optional Free m) c.in_ok-marks.ensures;
      components = c.in_ok-identifier.ensures.components;
      kids = c.in_ok-identifier.ensures.kids;
    }
