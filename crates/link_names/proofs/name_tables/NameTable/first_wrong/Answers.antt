use Rattle.std.proofs.Common.{ap, sym, ◌∙◌}
use Rattle.std.specs.Option.{option_map}
use Rattle.link_names.specs.Private.NameTables.{told_by}
use Rattle.link_names.specs.Order.{fault}
use Rattle.link_names.specs.Resolution.{fault_of}
use Rattle.link_names.proofs.Resolving.{wrong_one, right_one}
use Rattle.link_names.proofs.name_tables.NameTable.first_wrong.Goals as goal
use Rattle.link_names.proofs.name_tables.NameTable.first_wrong.Goals.{in-Some, in_default}

pub mentions-preserved : goal.mentions-preserved
mentions-preserved c =
    let F = fault_of (told_by c.args.self.now) in
    let m = c.mention-item.result in
    let at = ap (option_map (λ w. fault w m.place)) (sym c.wrong.ensures) in
    elim c.match-wrong.branch [
      | in-Some w ↦
          rw (w.found-is, w.earlier-found.ensures)
          (wrong_one F c.args.mentions.now c.mentions.mention-index m c.mentions-test.true c.mention-item.is c.mentions.found c.mentions.invariant
          (fault w.in-Some.why m.place) (at ∙ ap (option_map (λ w. fault w m.place)) w.in-Some.is))
      | in_default w ↦
          rw w.found-is
          (right_one F c.args.mentions.now c.mentions.mention-index m c.mentions-test.true c.mention-item.is c.mentions.found c.mentions.invariant (at ∙ ap (option_map (λ w. fault w m.place)) w.in_default.is))
    ]
