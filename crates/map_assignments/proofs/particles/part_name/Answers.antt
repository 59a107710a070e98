use Rattle.std.proofs.Common.{sym, ◌∙◌}
use Rattle.content_models.specs.Seen.{term_seen}
use Rattle.map_assignments.proofs.Building.{if_ok}
use Rattle.map_assignments.proofs.Ordering.{name-once, name-optional, name-several}
use Rattle.map_assignments.proofs.particles.part_name.Goals as goal

pub returns-then-is_once : goal.returns-then-is_once
returns-then-is_once c =
    let l = c.args.label.now in
    if_ok c.name_of.result _ _
    (λ made is ps type rest. name-once (term_seen l.kind ps) type l.min l.max rest made (sym c.is_once.ensures ∙ c.if-is_once.true) (is ps))
    c.name_of.ensures

pub returns-then-is_optional_part : goal.returns-then-is_optional_part
returns-then-is_optional_part c =
    let l = c.args.label.now in
    if_ok c.name_of-then-is_optional_part.result _ _
    (λ made is ps type rest.
    name-optional (term_seen l.kind ps) type l.min l.max rest made (sym c.is_once.ensures ∙ c.if-is_once.false)
    (sym c.is_optional_part.ensures ∙ c.if-is_optional_part.true) (is ps))
    c.name_of-then-is_optional_part.ensures

pub returns-else-is_optional_part : goal.returns-else-is_optional_part
returns-else-is_optional_part c =
    let l = c.args.label.now in
    if_ok c.list_name_of.result _ _
    (λ made is ps type rest.
    name-several (term_seen l.kind ps) type l.min l.max rest made (sym c.is_once.ensures ∙ c.if-is_once.false)
    (sym c.is_optional_part.ensures ∙ c.if-is_optional_part.false) (is ps))
    c.list_name_of.ensures
