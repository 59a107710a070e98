use Rattle.std.proofs.Common.{◌≡◌, map, take}
use Rattle.schema_components.specs.Documents.{doc_of}
use Rattle.link_names.specs.Parts.{parts}
use Rattle.link_names.specs.WalkSeen.{parts_of}
use Rattle.link_names.proofs.walk.all_parts.Given as goal

-- those of the documents before this one
abbrev pub invariant-docs : goal.invariant-docs
invariant-docs l = parts_of l.found.items ≡ parts (map doc_of (take l.doc-index l.docs))
