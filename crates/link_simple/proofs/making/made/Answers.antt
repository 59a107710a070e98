use Rattle.std.proofs.Common.{map, sym, ap, ◌∙◌, subst}
use Rattle.schema_components.specs.Documents.{doc_of}
use Rattle.link_names.specs.Cycles.{edges}
use Rattle.link_names.specs.CyclesSeen.{definitions_of}
use Rattle.link_simple.specs.Private.Ordering.{IsAcyclic}
use Rattle.link_simple.specs.Private.Told.{AreTold}
use Rattle.link_simple.specs.Private.Varied.{AreVaried}
use Rattle.link_simple.proofs.Told.{are_told}
use Rattle.link_simple.proofs.Uniqueness.{not_circular}
use Rattle.link_simple.proofs.Varied.{are_varied}
use Rattle.link_simple.proofs.making.made.Goals as goal

pub made_of-requires-clause-varied : goal.made_of-requires-clause-varied
made_of-requires-clause-varied c =
    subst AreVaried (sym (ap definitions_of c.deref-2.ensures.value ∙ c.in_ok-definitions.ensures)) (are_varied c.args.docs.now)

pub made_of-requires-clause-told : goal.made_of-requires-clause-told
made_of-requires-clause-told c =
    subst AreTold (sym (ap definitions_of c.deref-2.ensures.value ∙ c.in_ok-definitions.ensures)) (are_told (map doc_of c.args.docs.now) c.requires.resolved)

pub made_of-requires-clause-acyclic : goal.made_of-requires-clause-acyclic
made_of-requires-clause-acyclic c =
    subst (λ ds. IsAcyclic (edges ds)) (sym (ap definitions_of c.deref-2.ensures.value ∙ c.in_ok-definitions.ensures)) (not_circular (map doc_of c.args.docs.now) c.requires.acyclic)
