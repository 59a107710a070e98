use Rattle.std.proofs.Common.{◌++◌, ap, sym, ◌∙◌}
use Rattle.schema_components.specs.Documents.{doc_of}
use Rattle.link_names.proofs.Flat.{mapped_more}
use Rattle.link_complex.specs.ComplexTypes.{of_document}
use Rattle.link_complex.proofs.definitions.complex_types.Goals as goal

pub docs-preserved : goal.docs-preserved
docs-preserved c =
    c.in_ok-push_document.ensures ∙ ap (λ ms. ms ++ of_document (doc_of c.doc-item.result)) c.docs.invariant
    ∙ sym (mapped_more doc_of of_document c.args.docs.now c.docs.doc-index c.doc-item.result c.docs-test.true c.doc-item.is)
