use Rattle.std.proofs.Common.{sym, ap, ◌∙◌, subst}
use Rattle.std.specs.Prelude.{IfSome}
use Rattle.std.specs.Option.{option_map}
use Rattle.simple_types.specs.Seen.{space_of}
use Rattle.simple_types.specs.Sound.{Sound}
use Rattle.link_simple.specs.Making.{space_at}
use Rattle.link_simple.specs.Private.Parts.{entries_of}
use Rattle.link_simple.proofs.Lending.{entry_read, entry_past}
use Rattle.link_simple.proofs.parts.lent.Goals as goal

pub returns-then-n-entries-clause-space : goal.returns-then-n-entries-clause-space
returns-then-n-entries-clause-space c =
    let es = c.args.entries.now in
    sym (ap (space_at (entries_of es)) c.in_ok-n.was ∙ entry_past es c.in_ok-n.n c.if-n-entries.true)

pub returns-in-Some-clause-space : goal.returns-in-Some-clause-space
returns-in-Some-clause-space c =
    let es = c.args.entries.now in
    sym
    (ap (space_at (entries_of es)) c.in_ok-n.was ∙ entry_read es c.in_ok-n.n c.index-entries-n.result c.if-n-entries.false c.index-entries-n.is
    ∙ ap (option_map space_of) c.in-Some.is)

pub returns-in-Some-clause-sound : goal.returns-in-Some-clause-sound
returns-in-Some-clause-sound c =
    let es = c.args.entries.now in
    subst (λ o. IfSome o Sound)
    (entry_read es c.in_ok-n.n c.index-entries-n.result c.if-n-entries.false c.index-entries-n.is ∙ ap (option_map space_of) c.in-Some.is)
    (c.requires c.in_ok-n.n)

pub returns-in-None-clause-space : goal.returns-in-None-clause-space
returns-in-None-clause-space c =
    let es = c.args.entries.now in
    sym
    (ap (space_at (entries_of es)) c.in_ok-n.was ∙ entry_read es c.in_ok-n.n c.index-entries-n.result c.if-n-entries.false c.index-entries-n.is
    ∙ ap (option_map space_of) c.in-None.is)
