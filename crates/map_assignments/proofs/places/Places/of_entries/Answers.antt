use Rattle.std.proofs.Common.{◌-◌, if◌then◌else◌, sym, ap, ◌∙◌, arith}
use Rattle.map_subjects.specs.Subjects.{same_subject}
use Rattle.map_assignments.specs.Private.Placing.{place_of}
use Rattle.map_assignments.proofs.Numbers.{place-next}
use Rattle.map_assignments.proofs.places.Places.of_entries.Goals as goal

pub entries-preserved : goal.entries-preserved
entries-preserved c =
    let inv = c.entries.invariant in
    let left = c.entries.left in
    let some = c.entries-test.true in
    let within = inv.0 in (
      omega (arith, within),
      c.set.ensures.lists c.args.set.now inv.1,
      λ w. place-next c.args.entries.now left (left - 1) c.index-entries-left.result w (place_of c.entries.made w) (place_of c.set.new.self w)
          (omega (arith, some)) (omega (arith, within, some)) c.index-entries-left.is (inv.2 w)
          (c.set.ensures.number w ∙ ap (λ e. if same_subject e.subject w then left - 1 else place_of c.entries.made w) (sym c.index-entries-left.is)),
    )
