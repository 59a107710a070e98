use Rattle.std.proofs.Common.{◌≡◌, ◌∙◌, true, sym, ap}
use Rattle.std.proofs.lemmas.Slice.Eq.{bytes_eq-Decides}
use Rattle.xml_write.specs.Telling.{space_of}
use Rattle.xml_write.specs.Private.Binding.{before_local, is_bound, with_space}
use Rattle.xml_write.proofs.Entries.{bound-same}
use Rattle.xml_write.proofs.prefixes.Prefixes.declared_text.Goals as goal

pub returns-then-eq-clause-table : goal.returns-then-eq-clause-table
returns-then-eq-clause-table c =
    let table = c.args.self.now in
    let last = c.in-Some-last.last.now in
    let space = c.in-Some.space.now in
    let same : last ≡ space = (bytes_eq-Decides last space).0 (sym c.eq.ensures ∙ c.if-eq.true) in
    let bound : is_bound table space ≡ true =
    ap (is_bound table) (sym same) ∙ ap (λ t. is_bound t last) (sym c.self.view_is) ∙ c.self.invariant.last_bound c.in-Some-last.last c.in-Some-last.qualifier c.in-Some-last.is in
    bound-same table space bound ∙ ap (λ o. with_space table (space_of o)) (sym c.in-Some.is)

pub returns-then-eq-clause-qualifier : goal.returns-then-eq-clause-qualifier
returns-then-eq-clause-qualifier c =
    let table = c.args.self.now in
    let last = c.in-Some-last.last.now in
    let space = c.in-Some.space.now in
    let same : last ≡ space = (bytes_eq-Decides last space).0 (sym c.eq.ensures ∙ c.if-eq.true) in
    c.self.invariant.last_named c.in-Some-last.last c.in-Some-last.qualifier c.in-Some-last.is
    ∙ ap (λ t. before_local t last) c.self.view_is ∙ ap (before_local table) same ∙ ap (λ o. before_local table (space_of o)) (sym c.in-Some.is)
