use Rattle.std.proofs.Common.{map}
use Rattle.schema_components.specs.Documents.{doc_of}
use Rattle.link_names.specs.Order.{IsFirstSuch, OneHas}
use Rattle.link_complex.specs.ComplexTypes.{complex_types}
use Rattle.link_complex.specs.Content.{IsUnclearType}
use Rattle.link_complex.specs.Seen.{definition_of}
use Rattle.link_complex.proofs.Stepping.{one_mapped, at_end}
use Rattle.link_complex.proofs.content.first_unclear.Goals as goal

pub complexes-preserved : goal.complexes-preserved
complexes-preserved c =
    rw c.first_of-found.ensures
    (one_mapped IsUnclearType definition_of c.deref-complex-items.result.now c.complexes.complex-index c.complex-item.result c.complexes-test.true c.complex-item.is
    c.complexes.found c.in_ok-here.here c.complexes.invariant c.in_ok-here.ensures)

pub returns : goal.returns
returns c =
    at_end (λ cs. IsFirstSuch (OneHas IsUnclearType cs) c.complexes.found) definition_of c.deref-complex-items.result.now c.in_ok-complexes.complexes.items
    c.complexes.complex-index (complex_types (map doc_of c.args.docs.now)) c.complexes-test.false c.deref-complex-items.ensures.value c.in_ok-complexes.ensures c.complexes.invariant
