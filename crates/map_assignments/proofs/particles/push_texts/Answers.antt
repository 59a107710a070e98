use Rattle.std.proofs.Common.{false, refl, ◌∙◌}
use Rattle.map_assignments.specs.Plans.{texts}
use Rattle.map_assignments.specs.Planning.{texts_type}
use Rattle.map_assignments.proofs.Building.{on_ok, adds-marked, adds-next}
use Rattle.map_assignments.proofs.particles.push_texts.Goals as goal

pub returns : goal.returns
returns c =
    on_ok c.push_marked.result _ _
    (λ added place rest whole lead.
    adds-next place c.args.parts.now c.push_marked.new.self texts false texts_type c.in_ok-kid.kid rest whole
    (adds-marked c.args.parts.now c.push_marked.new.self texts _ c.of-marks.result false c.in_ok-kid.kid refl refl (λ g. c.of-marks.ensures ∙ c.new.ensures.items) added)
    (c.in_ok-kid.ensures place) lead)
    c.push_marked.ensures
