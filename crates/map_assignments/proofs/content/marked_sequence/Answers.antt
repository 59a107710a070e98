use Rattle.std.proofs.Common.{ap, ◌∙◌}
use Rattle.map_assignments.specs.Planning.{is_mixed, is_ordered}
use Rattle.map_assignments.specs.Naming.{sequence_marks}
use Rattle.map_assignments.proofs.Building.{named-sequence}
use Rattle.map_assignments.proofs.content.marked_sequence.Goals as goal

pub returns : goal.returns
returns c =
    let nillable = c.args.nillable in
    let k = c.args.content.now in
    λ place whole lead.
    named-sequence place c.args.parts c.into_sequence.result c.in_ok-marks.marks nillable (is_mixed k) (is_ordered k) whole c.into_sequence.ensures
    (c.in_ok-marks.ensures ∙ ap (λ b. sequence_marks nillable b c.is_ordered.result) c.is_mixed.ensures ∙ ap (sequence_marks nillable (is_mixed k)) c.is_ordered.ensures)
    lead
