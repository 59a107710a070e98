use Rattle.std.proofs.Common.{◌≡◌, true, length, sym, ap, subst, ◌∙◌, rules}
use Rattle.std.specs.Prelude.{OnOk, IfErr, reverse, nat_eq}
use Rattle.xml_pieces.specs.Pieces.{Tag, Start}
use Rattle.xml_pieces.specs.Found.{tag_seen}
use Rattle.xml_read.specs.Contexts.{reason}
use Rattle.xml_read.specs.Private.Entering.{Stopped}
use Rattle.xml_read.specs.Private.Noting.{bare}
use Rattle.xml_read.specs.Private.States.{context}
use Rattle.xml_read.specs.Private.Building.{state, Takes}
use Rattle.xml_read.proofs.Noted.{bare_is}
use Rattle.xml_read.proofs.builder.Builder.start.Goals as goal

pub open_by-requires-clause-known : goal.open_by-requires-clause-known
open_by-requires-clause-known c = c.in-Some.ensures.known (reverse c.args.self.now.scope) c.args.self.now.items.names c.requires.scoped.noted

pub returns-in-Some-clause-ok : goal.returns-in-Some-clause-ok
returns-in-Some-clause-ok c =
    let none : nat_eq (length c.args.tag.attributes.items) 0 ≡ true = search rules in
    let same : bare c.in-Some.note.written.now ≡ tag_seen c.args.tag = ap bare c.in-Some.ensures.same ∙ sym (bare_is c.args.tag none) in
    subst (λ (t : Tag). OnOk c.open_by.result (Takes (Start t) c.args.at c.args.self.now c.open_by.new.self)) same c.open_by.ensures.ok

pub returns-in-Some-clause-err : goal.returns-in-Some-clause-err
returns-in-Some-clause-err c =
    let none : nat_eq (length c.args.tag.attributes.items) 0 ≡ true = search rules in
    let same : bare c.in-Some.note.written.now ≡ tag_seen c.args.tag = ap bare c.in-Some.ensures.same ∙ sym (bare_is c.args.tag none) in
    subst (λ (t : Tag). IfErr c.open_by.result (Stopped (reason (Start t) (context (state c.args.self.now))) c.args.at)) same c.open_by.ensures.err
