use Rattle.std.proofs.Common.{[], ◌∷◌, ◌++◌, ap, sym, subst, ◌∙◌}
use Rattle.map_assignments.specs.Mapped.{IsMapped}
use Rattle.map_assignments.specs.Private.Placing.{place_of, references_of}
use Rattle.map_assignments.proofs.Mapping.{references-push, mapped-next, mapped-end}
use Rattle.map_assignments.proofs.mapper.Mapper.push_assignments.Goals as goal

pub entries-preserved : goal.entries-preserved
entries-preserved c =
    let place = place_of c.args.self.places.now in
    let s = c.args.self.set.now in
    let next = c.in_ok-next.next in
    let more = c.in_ok-push.ensures.items in
    let lent = c.deref.ensures.value in
    let inv = c.entries.invariant in (
      c.in_ok-next.ensures.noted ∙ ap (λ m. references_of m ++ next.reference ∷ []) lent ∙ sym (references-push c.entries.made.items next) ∙ ap references_of (sym more),
      mapped-next place s c.entries.made.items c.push.new.self.items c.args.entries.now c.entries.entry-index c.entry-item.result next
          c.entries-test.true c.entry-item.is (subst (λ m. IsMapped place s (references_of m) c.entry-item.result next) lent c.in_ok-next.ensures.mapped) more inv.1,
    )

pub returns : goal.returns
returns c =
    mapped-end (place_of c.args.self.places.now) c.args.self.set.now c.entries.made.items c.args.entries.now c.entries.entry-index c.entries-test.false c.entries.invariant.1
