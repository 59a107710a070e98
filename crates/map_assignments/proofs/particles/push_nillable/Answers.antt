use Rattle.std.proofs.Common.{true, refl, ◌∙◌}
use Rattle.map_assignments.specs.Plans.{content, finish}
use Rattle.map_assignments.proofs.Building.{on_ok, adds-marked, adds-next}
use Rattle.map_assignments.proofs.particles.push_nillable.Goals as goal

pub returns : goal.returns
returns c =
    on_ok c.push_marked.result _ _
    (λ added place type whole named lead.
    adds-next place c.args.parts.now c.push_marked.new.self content true type c.args.kid finish whole
    (adds-marked c.args.parts.now c.push_marked.new.self content _ _ true c.args.kid refl refl (λ g. c.of-marks.ensures ∙ c.new.ensures.items) added)
    named lead)
    c.push_marked.ensures
