use Rattle.std.proofs.Common.{sym, ap, ◌∙◌, Some}
use Rattle.std.specs.Prelude.{cond}
use Rattle.link_names.specs.Tables.{named_in, names}
use Rattle.link_names.proofs.Numbering.{put_named}
use Rattle.link_set.proofs.numbers.put_name.Goals as goal

pub returns-in_ok-insert-in-Some : goal.returns-in_ok-insert-in-Some
returns-in_ok-insert-in-Some c = λ a.
    put_named c.args.table.now c.insert.new.self c.in-Some.name c.args.n c.in_ok-insert-in-Some.ensures.updates a
    ∙ ap (λ o. cond (names o a) (Some c.args.n) (named_in c.args.table.now a)) (sym c.in-Some.is)
