use Rattle.schema_components.specs.Documents.{doc_of}
use Rattle.link_names.specs.Order.{IsFirstSuch, OneHas}
use Rattle.link_complex.specs.ComplexTypes.{of_document}
use Rattle.link_complex.specs.ElementTypes.{HasOtherOf}
use Rattle.link_complex.specs.Private.Identities.{types_in}
use Rattle.link_complex.specs.Seen.{definition_of}
use Rattle.link_complex.proofs.Stepping.{one_mapped, at_end}
use Rattle.link_complex.proofs.differing.first_in_document.Goals as goal

pub complexes-preserved : goal.complexes-preserved
complexes-preserved c =
    rw c.first_of-found.ensures
    (one_mapped (HasOtherOf (types_in c.args.types.now c.args.doc.now)) definition_of c.deref-complex-items.result.now c.complexes.complex-index c.complex-item.result c.complexes-test.true c.complex-item.is
    c.complexes.found c.in_ok-here.here c.complexes.invariant c.in_ok-here.ensures)

pub returns : goal.returns
returns c =
    at_end (λ cs. IsFirstSuch (OneHas (HasOtherOf (types_in c.args.types.now c.args.doc.now)) cs) c.complexes.found) definition_of c.deref-complex-items.result.now c.in_ok-complexes.complexes.items
    c.complexes.complex-index (of_document (doc_of c.args.doc.now)) c.complexes-test.false c.deref-complex-items.ensures.value c.in_ok-complexes.ensures c.complexes.invariant
