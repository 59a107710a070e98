use Rattle.std.proofs.Common.{sym, ◌∙◌}
use Rattle.content_models.specs.Seen.{term_seen}
use Rattle.map_assignments.proofs.Building.{on_ok, particle-once, particle-optional, particle-several}
use Rattle.map_assignments.proofs.particles.push_particle.Goals as goal

pub returns-then-is_once : goal.returns-then-is_once
returns-then-is_once c =
    let l = c.args.label.now in
    on_ok c.push_one.result _ _
    (λ added place ps type rest whole named lead.
    particle-once place c.args.parts.now c.push_one.new.parts c.args.in_choice (term_seen l.kind ps) type l.min l.max rest whole c.args.kid
    (sym c.is_once.ensures ∙ c.if-is_once.true) (added ps) named lead)
    c.push_one.ensures

pub returns-then-is_optional_part : goal.returns-then-is_optional_part
returns-then-is_optional_part c =
    let l = c.args.label.now in
    on_ok c.push_one-then-is_optional_part.result _ _
    (λ added place ps type rest whole named lead.
    particle-optional place c.args.parts.now c.push_one-then-is_optional_part.new.parts c.args.in_choice (term_seen l.kind ps) type l.min l.max rest whole c.args.kid
    (sym c.is_once.ensures ∙ c.if-is_once.false) (sym c.is_optional_part.ensures ∙ c.if-is_optional_part.true) (added ps) named lead)
    c.push_one-then-is_optional_part.ensures

pub returns-else-is_optional_part : goal.returns-else-is_optional_part
returns-else-is_optional_part c =
    let l = c.args.label.now in
    on_ok c.push_several.result _ _
    (λ added place ps type rest whole named lead.
    let several = added ps in
    particle-several place c.args.parts.now c.push_several.new.parts c.args.in_choice (term_seen l.kind ps) type l.min l.max rest whole c.args.kid several.0
    (sym c.is_once.ensures ∙ c.if-is_once.false) (sym c.is_optional_part.ensures ∙ c.if-is_optional_part.false) several.1 several.2 named lead)
    c.push_several.ensures
