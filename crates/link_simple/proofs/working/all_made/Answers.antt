use Rattle.std.proofs.Common.{length, ◌∙◌, subst}
use Rattle.std.specs.Prelude.{IsSome}
use Rattle.std.proofs.lemmas.Iterator.Consumers.{YieldsList-turn}
use Rattle.std.proofs.lemmas.Iterator.Adapters.{YieldsList-from_vec}
use Rattle.link_simple.proofs.Lending.{entry_read, is_entry}
use Rattle.link_simple.proofs.working.all_made.Goals as goal

pub unwrap-requires : goal.unwrap-requires
unwrap-requires c =
    let es = c.args.entries.items in
    let n = length c.entries.yielded in
    let o = c.in-Some.entry in
    let gives = c.into_iter-entry-iterator.ensures.into_iter_gives in
    let turn = YieldsList-turn (YieldsList-from_vec {s = c.into_iter-entry-iterator.result} es gives.0 (gives.1 ∙ c.args.entries.ok.0))
    c.entries.yielded c.entries.entry-iterator c.entries.yielded_by c.next.result c.next.new.self o c.in-Some.is c.next.ensures.steps in
    is_entry o (subst IsSome (entry_read es n o turn.0 turn.1) (c.requires n turn.0))
