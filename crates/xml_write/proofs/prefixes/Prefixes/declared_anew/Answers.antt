use Rattle.std.proofs.Common.{◌≡◌, ◌∙◌, true, sym, ap}
use Rattle.xml_write.specs.Private.Binding.{before_local, is_bound, with_space}
use Rattle.xml_write.proofs.Entries.{indexed-last}
use Rattle.xml_write.proofs.Telling.{now-bound}
use Rattle.xml_write.proofs.prefixes.Prefixes.declared_anew.Goals as goal

pub invariant_of-self : goal.invariant_of-self
invariant_of-self c =
    let old = c.args.self.now in
    let new = c.declared.new.self in
    let space = c.args.space.now in
    let q = c.in_ok-qualifier.qualifier in
    let grown : new ≡ with_space old space = c.in_ok-qualifier.ensures.table ∙ ap (with_space old) c.bytes.ensures.bytes in
    let bound : is_bound new space ≡ true = ap (λ t. is_bound t space) grown ∙ now-bound old space in
    indexed-last c.self.inside.found.items c.self.inside.by_space c.self.inside.last c.args.space q c.self.invariant
    (ap (λ t. is_bound t space) c.self.view_is ∙ bound)
    (c.in_ok-qualifier.ensures.qualifier ∙ ap (before_local new) c.bytes.ensures.bytes ∙ ap (λ t. before_local t space) (sym c.self.view_is))
