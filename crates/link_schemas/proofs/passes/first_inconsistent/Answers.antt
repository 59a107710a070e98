use Rattle.std.proofs.Common.{map}
use Rattle.schema_components.specs.Documents.{doc_of}
use Rattle.std.proofs.Common.{inl, inr}
use Rattle.base_texts.specs.Lists.{HasItem}
use Rattle.link_names.proofs.Firsts.{first_such, such_joined}
use Rattle.link_complex.specs.Uses.{double_uses}
use Rattle.link_complex.specs.ElementTypes.{Differs}
use Rattle.link_schemas.specs.Passes.{IsFault, Comparing}
use Rattle.link_schemas.proofs.passes.first_inconsistent.Goals as goal

pub returns : goal.returns
returns c =
    let docs = map doc_of c.args.docs.now in
    let double = c.in_ok-double.double in
    rw c.first_of.ensures
    (such_joined (HasItem (double_uses docs)) (Differs docs) (IsFault docs Comparing) (λ f r. r) (λ f p. inl p) (λ f q. inr q) double c.in_ok-other.other
    (first_such (double_uses docs) double c.in_ok-double.ensures) c.in_ok-other.ensures)
