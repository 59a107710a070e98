use Rattle.std.proofs.Common.{◌≡◌, map, take}
use Rattle.schema_components.specs.Documents.{doc_of}
use Rattle.link_set.specs.Written.{global_elements, local_elements}
use Rattle.link_set.specs.Private.Seen.{elements_of}
use Rattle.link_set.proofs.listing.ListedElements.of.Given as goal

-- those of the documents before this one
abbrev pub invariant-docs : goal.invariant-docs
invariant-docs l =
    (elements_of l.globals.items ≡ global_elements (map doc_of (take l.doc-index l.docs)))
    × (elements_of l.locals.items ≡ local_elements (map doc_of (take l.doc-index l.docs)))
