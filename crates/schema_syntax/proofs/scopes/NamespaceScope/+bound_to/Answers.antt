use Rattle.std.proofs.Common.{◌∙◌}
use Rattle.schema_syntax.specs.Scopes.{bindings_in}
use Rattle.schema_syntax.proofs.Scoped.{found_inside, found_outside}
use Rattle.schema_syntax.proofs.scopes.NamespaceScope.+bound_to.Goals as goal

pub returns-in-Some : goal.returns-in-Some
returns-in-Some t c =
    rw c.in-Element.is (found_inside c.args.prefix.now c.in-Element.declared (bindings_in c.in-Element.outer.now) c.in-Some.space.now c.in-Some.ensures)

pub returns-in-None : goal.returns-in-None
returns-in-None t c =
    rw c.in-Element.is (c.bound_to-in-None.ensures ∙ found_outside c.args.prefix.now c.in-Element.declared (bindings_in c.in-Element.outer.now) c.in-None.ensures)
