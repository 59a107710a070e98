use Rattle.std.proofs.Common.{◌≡◌, ℕ, List, true, length, sym, subst, rules}
use Rattle.std.specs.Prelude.{OnOk, IfErr, reverse, nat_eq}
use Rattle.xml_pieces.specs.Pieces.{Tag, Empty}
use Rattle.xml_read.specs.Contexts.{reason}
use Rattle.xml_read.specs.Private.Entering.{Stopped}
use Rattle.xml_read.specs.Private.Noting.{KnownAs}
use Rattle.xml_read.specs.Private.States.{context}
use Rattle.xml_read.specs.Private.Building.{state, Takes}
use Rattle.xml_read.proofs.Noted.{bare_is}
use Rattle.xml_read.proofs.builder.Builder.empty.Goals as goal

pub empty_noted-requires-clause-known : goal.empty_noted-requires-clause-known
empty_noted-requires-clause-known c = subst (λ (w : List ℕ). KnownAs (reverse c.args.self.now.scope) c.args.self.now.items.names w c.in-Some.note.name) c.in-Some.ensures.same (c.in-Some.ensures.known (reverse c.args.self.now.scope) c.args.self.now.items.names c.requires.scoped.noted)

pub returns-in-Some-clause-ok : goal.returns-in-Some-clause-ok
returns-in-Some-clause-ok c =
    let none : nat_eq (length c.args.tag.attributes.items) 0 ≡ true = search rules in
    subst (λ (t : Tag). OnOk c.empty_noted.result (Takes (Empty t) c.args.at c.args.self.now c.empty_noted.new.self)) (sym (bare_is c.args.tag none)) c.empty_noted.ensures.ok

pub returns-in-Some-clause-err : goal.returns-in-Some-clause-err
returns-in-Some-clause-err c =
    let none : nat_eq (length c.args.tag.attributes.items) 0 ≡ true = search rules in
    subst (λ (t : Tag). IfErr c.empty_noted.result (Stopped (reason (Empty t) (context (state c.args.self.now))) c.args.at)) (sym (bare_is c.args.tag none)) c.empty_noted.ensures.err
