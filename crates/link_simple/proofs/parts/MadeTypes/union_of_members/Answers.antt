use Rattle.std.proofs.Common.{◌<◌, arith, length, sym, ap, ◌∙◌}
use Rattle.std.specs.Option.{option_map}
use Rattle.schema_components.specs.Seen.{bases_in}
use Rattle.link_names.specs.Tables.{told_by}
use Rattle.link_simple.specs.Private.Parts.{entries_of, seen_all}
use Rattle.link_simple.proofs.Varied.{some_part}
use Rattle.link_simple.proofs.parts.MadeTypes.union_of_members.Goals as goal

pub union-requires-clause-some : goal.union-requires-clause-some
union-requires-clause-some c =
    let ps = c.in-Some.members.items in
    let spaces = sym (ap (option_map (λ l. seen_all l.items)) c.in-Some.is) ∙ c.in_ok-members.ensures.spaces in
    let some : 0 < length ps = some_part (told_by c.args.self.numbers.now) (entries_of c.args.self.entries.now) c.args.file (bases_in c.args.members.now) c.requires.some ps spaces in
    let same = ap length c.deref.ensures.value in
    omega (arith, some, same)
