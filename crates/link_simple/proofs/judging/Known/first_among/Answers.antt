use Rattle.std.proofs.Common.{ap, sym, ◌∙◌}
use Rattle.std.specs.Option.{option_map}
use Rattle.link_names.specs.WalkSeen.{part_of}
use Rattle.link_names.specs.Order.{place, fault}
use Rattle.link_names.specs.Tables.{told_by}
use Rattle.link_simple.specs.Answering.{made_of}
use Rattle.link_simple.specs.Found.{found_in}
use Rattle.link_simple.specs.Standards as rule
use Rattle.link_simple.proofs.Misfits.{wrong_one, right_one}
use Rattle.link_simple.proofs.judging.Known.first_among.Goals as goal
use Rattle.link_simple.proofs.judging.Known.first_among.Goals.{in-Some, in_default}

pub parts-preserved : goal.parts-preserved
parts-preserved c =
    let self = c.args.self.now in
    let F = rule.fault_of (told_by self.numbers) (made_of self.simples.now) (found_in self.declared) in
    let p = c.part-item.result in
    let at = ap (option_map (λ w. fault w (place p.file p.at))) (sym c.in_ok-misfit.ensures) in
    elim c.match-misfit.branch [
      | in-Some w ↦
          rw (w.found-is, w.earlier-found.ensures)
          (wrong_one F part_of c.args.parts.now c.parts.part-index p c.parts-test.true c.part-item.is c.parts.found c.parts.invariant
          (fault w.in-Some.why (place p.file p.at)) (at ∙ ap (option_map (λ w. fault w (place p.file p.at))) w.in-Some.is))
      | in_default w ↦
          rw w.found-is
          (right_one F part_of c.args.parts.now c.parts.part-index p c.parts-test.true c.part-item.is c.parts.found c.parts.invariant
          (at ∙ ap (option_map (λ w. fault w (place p.file p.at))) w.in_default.is))
    ]
