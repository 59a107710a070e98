use Rattle.std.proofs.Common.{arith, length, ap}
use Rattle.std.proofs.lemmas.List.{length-map}
use Rattle.link_set.specs.Numbering.{element_entry}
use Rattle.link_set.specs.Private.Seen.{written_of, elements_of}
use Rattle.link_set.proofs.Numbering.{as_many}
use Rattle.link_set.proofs.tables.numbers_of_locals.Goals as goal

pub by_place-requires : goal.by_place-requires
by_place-requires c =
    let many = as_many c.in_ok-entries.entries.items element_entry (elements_of c.args.locals.now) c.in_ok-entries.ensures in
    let long = length-map c.args.locals.now written_of in
    let same = ap length c.deref.ensures.value in
    let few = c.requires in
    let first = c.count-first.ensures in
    omega (arith, many, long, same, few, first)
