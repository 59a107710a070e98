use Rattle.std.proofs.Common.{◌≡◌, map, take}
use Rattle.schema_components.specs.Documents.{doc_of}
use Rattle.link_set.specs.Written.{global_attributes}
use Rattle.link_set.specs.Private.Seen.{attributes_of}
use Rattle.link_set.proofs.written.global_attributes.Given as goal

-- those of the documents before this one
abbrev pub invariant-docs : goal.invariant-docs
invariant-docs l = attributes_of l.found.items ≡ global_attributes (map doc_of (take l.doc-index l.docs))
