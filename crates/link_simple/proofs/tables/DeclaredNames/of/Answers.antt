use Rattle.std.proofs.Common.{ap, ◌∙◌, subst}
use Rattle.link_simple.specs.StandardsSeen.{declared_of, HasNames}
use Rattle.link_simple.specs.Standards as rule
use Rattle.link_simple.proofs.Declaring.{found_first}
use Rattle.link_simple.proofs.tables.DeclaredNames.of.Goals as goal

pub returns : goal.returns
returns c =
    let ds = c.in_ok-declared.declared.items in
    let table = c.in_ok-named.named in
    let has : HasNames table (declared_of ds) = subst (λ xs. HasNames table (declared_of xs)) c.deref.ensures.value c.in_ok-named.ensures in
    λ a. found_first ds table has a ∙ ap (λ xs. rule.named xs a) c.in_ok-declared.ensures
