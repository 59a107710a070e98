use Rattle.std.proofs.Common.{refl}
use Rattle.map_assignments.proofs.Building.{on_ok, adds-same}
use Rattle.map_assignments.proofs.particles.push_untagged.Goals as goal

pub returns : goal.returns
returns c =
    on_ok c.push_marked.result _ _
    (adds-same c.args.parts.now c.push_marked.new.self c.args.word.now c.args.word.now c.in_ok-marks.marks _ c.args.optional c.args.kid refl c.in_ok-marks.ensures)
    c.push_marked.ensures
