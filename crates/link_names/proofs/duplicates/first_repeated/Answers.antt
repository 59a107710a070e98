use Rattle.std.proofs.Common.{◌≡◌, ap, sym, ◌∙◌}
use Rattle.link_names.specs.Globals.{is_repeated}
use Rattle.link_names.specs.Seen.{globals_of, global_of}
use Rattle.link_names.specs.Private.Tables.{stands_before}
use Rattle.link_names.proofs.Placing.{repeats_by_first, with_fault, without_fault}
use Rattle.link_names.proofs.duplicates.first_repeated.Goals as goal
use Rattle.link_names.proofs.duplicates.first_repeated.Goals.{then-is_repeated, else-is_repeated}

pub globals-preserved : goal.globals-preserved
globals-preserved c fs first =
    let gs = c.args.globals.now in
    let g = c.global-item.result in
    let tells : c.is_repeated.result ≡ is_repeated (globals_of gs) (global_of g) =
    c.is_repeated.ensures ∙ ap (λ p. stands_before p g.place) (c.in_ok-places.ensures g.name.now) ∙ sym (repeats_by_first (globals_of gs) g.name.now g.place) in
    elim c.if-is_repeated.branch [
      | then-is_repeated w ↦
          rw (w.first-is, w.earlier-first.ensures)
          (with_fault c.args.why (globals_of gs) gs c.globals.global-index g c.globals-test.true c.global-item.is fs c.globals.first (sym tells ∙ w.if-is_repeated.true) (c.globals.invariant fs first))
      | else-is_repeated w ↦
          rw w.first-is
          (without_fault c.args.why (globals_of gs) gs c.globals.global-index g c.globals-test.true c.global-item.is fs c.globals.first (sym tells ∙ w.if-is_repeated.false) (c.globals.invariant fs first))
    ]
