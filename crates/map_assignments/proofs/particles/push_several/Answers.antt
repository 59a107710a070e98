use Rattle.std.proofs.Common.{false, ◌∙◌}
use Rattle.content_models.specs.Seen.{term_seen}
use Rattle.map_assignments.specs.Planning.{list_label_of}
use Rattle.map_assignments.proofs.Building.{on_ok, adds-marked, list-marks, list-free}
use Rattle.map_assignments.proofs.particles.push_several.Goals as goal

pub returns : goal.returns
returns c =
    on_ok c.push_untagged.result _ _
    (λ added ps. (
      c.in_ok-made.made,
      c.in_ok-made.ensures ps,
      adds-marked c.args.parts.now c.push_untagged.new.parts (list_label_of (term_seen c.args.label.now.kind ps)) c.as_str.result.now _ false c.in_ok-made.made
          (c.as_str.ensures ∙ c.in_ok-name.ensures ps) (list-free c.args.label.now.kind ps) (list-marks c.args.label.now.kind ps) added,
    ))
    c.push_untagged.ensures
