use Rattle.std.proofs.Common.{map, take, sym, subst}
use Rattle.schema_components.specs.Documents.{doc_of}
use Rattle.link_complex.specs.ComplexTypes.{complex_types}
use Rattle.link_complex.proofs.Stepping.{at_end}
use Rattle.std.specs.List.{flat_map}
use Rattle.link_names.specs.Order.{IsFirstOf}
use Rattle.link_names.proofs.Flat.{mapped_more}
use Rattle.link_complex.specs.Uses.{double_uses_of}
use Rattle.link_complex.specs.Seen.{definition_of, definitions_of}
use Rattle.link_complex.proofs.uses.first_double_use.Goals as goal

pub complexes-preserved : goal.complexes-preserved
complexes-preserved c =
    let items = c.deref-complex-items.result.now in
    subst (λ fs. IsFirstOf fs c.in_ok-found.found)
    (sym (mapped_more definition_of double_uses_of items c.complexes.complex-index c.complex-item.result c.complexes-test.true c.complex-item.is))
    (c.in_ok-found.ensures (flat_map double_uses_of (definitions_of (take c.complexes.complex-index items))) c.complexes.invariant)

pub returns : goal.returns
returns c =
    at_end (λ cs. IsFirstOf (flat_map double_uses_of cs) c.complexes.found) definition_of c.deref-complex-items.result.now c.in_ok-complexes.complexes.items
    c.complexes.complex-index (complex_types (map doc_of c.args.docs.now)) c.complexes-test.false c.deref-complex-items.ensures.value c.in_ok-complexes.ensures
    c.complexes.invariant
