use Rattle.std.proofs.Common.{◌≡◌, ℕ, List, sym, ◌∙◌, ap, subst, ◌++◌, ◌∷◌, [], Option}
use Rattle.std.specs.Prelude.{bytes_eq}
use Rattle.std.specs.List.{Contains}
use Rattle.std.specs.HashMap.{get}
use Rattle.asn_names.proofs.Apart.{Tried, tried_further, taken_fresh, insert_fresh}
use Rattle.asn_names.proofs.scope.Scope.take.Goals as goal

pub invariant_of-self-in_err-insert : goal.invariant_of-self-in_err-insert
invariant_of-self-in_err-insert c =
    let look : List ℕ → Option ℕ = λ q. get bytes_eq c.self.inside.suffixes q in
    subst (λ keys. Tried keys look) (sym c.in_err-insert.ensures.err) c.self.invariant

pub invariant_of-self-2 : goal.invariant_of-self-2
invariant_of-self-2 c =
    let look : List ℕ → Option ℕ = λ q. get bytes_eq c.self.inside.suffixes q in
    let keys = c.self.inside.names.keys in
    let same : keys ≡ c.args.self.now = c.self.view_is ∙ c.in_ok-name.ensures.same in
    let fresh : ¬ Contains keys c.in_ok-name.name = subst (λ l. ¬ Contains l c.in_ok-name.name) (sym same) (taken_fresh c.args.kind c.args.self.now c.args.converted.now c.in_ok-name.name c.in_ok-name.ensures.taken) in
    let grown : c.insert.new.self.keys ≡ keys ++ c.in_ok-name.name ∷ [] = c.in_ok-insert.ensures.keys ∙ insert_fresh keys c.in_ok-name.name _ c.in_ok-copy.ensures fresh in
    subst (λ l. Tried l look) (sym grown) (tried_further keys (c.in_ok-name.name ∷ []) look c.self.invariant)

pub returns-clause-fresh : goal.returns-clause-fresh
returns-clause-fresh c = taken_fresh c.args.kind c.args.self.now c.args.converted.now c.in_ok-name.name c.in_ok-name.ensures.taken

pub returns-clause-noted : goal.returns-clause-noted
returns-clause-noted c =
    let keys = c.self.inside.names.keys in
    let same : keys ≡ c.args.self.now = c.self.view_is ∙ c.in_ok-name.ensures.same in
    let fresh : ¬ Contains keys c.in_ok-name.name = subst (λ l. ¬ Contains l c.in_ok-name.name) (sym same) (taken_fresh c.args.kind c.args.self.now c.args.converted.now c.in_ok-name.name c.in_ok-name.ensures.taken) in
    let grown : c.insert.new.self.keys ≡ keys ++ c.in_ok-name.name ∷ [] = c.in_ok-insert.ensures.keys ∙ insert_fresh keys c.in_ok-name.name _ c.in_ok-copy.ensures fresh in
    grown ∙ ap (λ l. l ++ c.in_ok-name.name ∷ []) same
