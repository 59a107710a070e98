use Rattle.std.proofs.Common.{arith, length, ap}
use Rattle.std.proofs.lemmas.List.{length-map}
use Rattle.link_names.specs.CyclesSeen.{definition_of, definitions_of}
use Rattle.link_set.specs.Numbering.{simple_entry}
use Rattle.link_set.proofs.Numbering.{as_many}
use Rattle.link_set.proofs.tables.numbers_of_simples.Goals as goal

pub of-requires : goal.of-requires
of-requires c =
    let many = as_many c.in_ok-entries.entries.items simple_entry (definitions_of c.args.types.now) c.in_ok-entries.ensures in
    let long = length-map c.args.types.now definition_of in
    let same = ap length c.deref.ensures.value in
    let few = c.requires in
    omega (arith, many, long, same, few)
