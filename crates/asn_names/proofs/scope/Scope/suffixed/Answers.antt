use Rattle.std.proofs.Common.{ℕ, List, ◌∙◌, ap, subst, Option, Some, cond}
use Rattle.std.specs.Prelude.{bytes_eq}
use Rattle.std.specs.List.{Contains}
use Rattle.std.specs.HashMap.{get}
use Rattle.asn_names.proofs.Apart.{tried_noted, least_of}
use Rattle.asn_names.proofs.scope.Scope.suffixed.Goals as goal

pub invariant_of-self-in_err-insert : goal.invariant_of-self-in_err-insert
invariant_of-self-in_err-insert c = λ name n is. c.self.invariant name n (rw c.in_err-insert.ensures.err at is)

pub invariant_of-self-2 : goal.invariant_of-self-2
invariant_of-self-2 c =
    let s = c.self.inside in
    let look : List ℕ → Option ℕ = λ q. get bytes_eq s.suffixes q in
    let new : List ℕ → Option ℕ = λ q. get bytes_eq c.insert.new.self q in
    let e = c.in_ok-text.ensures in
    tried_noted s.names.keys look new c.args.name.now c.in_ok-text.n e.1 e.4
    (λ q. c.in_ok-insert.ensures.updates.0 q ∙ ap (λ k. cond (bytes_eq k q) (Some c.in_ok-text.n) (get bytes_eq s.suffixes q)) c.in_ok-copy.ensures) c.self.invariant

pub returns-clause-least : goal.returns-clause-least
returns-clause-least c =
    let s = c.self.inside in
    let e = c.in_ok-text.ensures in
    rw (← c.self.view_is) (c.in_ok-text.n, (λ kind. least_of kind s.names.keys c.args.name.now c.in_ok-text.n e.1 e.2 (subst (λ t. ¬ Contains s.names.keys t) e.0 e.3) e.4), e.0)
