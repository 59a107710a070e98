use Rattle.std.proofs.Common.{◌≡◌, map, take}
use Rattle.schema_components.specs.Documents.{doc_of}
use Rattle.link_complex.specs.ComplexTypes.{complex_types}
use Rattle.link_complex.specs.Seen.{definitions_of}
use Rattle.link_complex.proofs.definitions.complex_types.Given as goal

-- those of the documents before this one
abbrev pub invariant-docs : goal.invariant-docs
invariant-docs l = definitions_of l.found.items ≡ complex_types (map doc_of (take l.doc-index l.docs))
