use Rattle.std.proofs.Common.{ℕ, arith, subst}
use Rattle.std.specs.Prelude.{IfSome}
use Rattle.std.proofs.lemmas.List.{length-map}
use Rattle.simple_types.specs.Sound.{Sound}
use Rattle.link_names.specs.Order.{IsFirstSuch}
use Rattle.link_simple.specs.Making.{entry_at, IsMaking, IsNotMadeOf}
use Rattle.link_simple.specs.Private.Parts.{entries_of, entry_of}
use Rattle.link_simple.proofs.Standing.{is_making, first_fault, each_sound}
use Rattle.link_simple.proofs.working.Work.end.Goals as goal

pub returns-in-Some : goal.returns-in-Some
returns-in-Some c =
    let w = c.args.self in
    λ ds h. subst (IsFirstSuch (IsNotMadeOf ds)) c.in-Some.is (first_fault ds (entries_of w.entries.items) h.0 w.found h.1.stands h.1.all)

pub all_made-requires : goal.all_made-requires
all_made-requires c =
    let w = c.args.self in
    let h = c.requires.1.1 in
    λ n lt.
    let long = h.stands.long in
    let marks = h.stands.marks in
    let entries = length-map w.entries.items entry_of in
    h.stands.filled c.in-None.is n (h.all n (omega (arith, lt, long, marks, entries)))

pub returns-in_ok-all_made-in-None : goal.returns-in_ok-all_made-in-None
returns-in_ok-all_made-in-None c =
    let w = c.args.self in
    let simples = c.in_ok-all_made-in-None.field-0 in
    let made = c.in_ok-all_made-in-None.ensures in
    λ ds h. (
      subst (IsMaking ds) made (is_making ds (entries_of w.entries.items) h.0 w.found h.1.stands h.1.all),
      each_sound simples.items (subst (λ m. (n : ℕ) → IfSome (entry_at m n) Sound) made h.1.stands.sound),
      subst (IsFirstSuch (IsNotMadeOf ds)) c.in-None.is (first_fault ds (entries_of w.entries.items) h.0 w.found h.1.stands h.1.all),
    )
