use Rattle.std.proofs.Common.{◌≡◌, map, take}
use Rattle.schema_components.specs.Documents.{doc_of}
use Rattle.link_complex.specs.ElementTypes.{typed_elements}
use Rattle.link_complex.specs.Private.Identities.{elements_of}
use Rattle.link_complex.proofs.element_types.typed_elements.Given as goal

-- those of the documents before this one
abbrev pub invariant-docs : goal.invariant-docs
invariant-docs l = elements_of l.found.items ≡ typed_elements (map doc_of (take l.doc-index l.docs))
