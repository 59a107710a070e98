use Rattle.std.proofs.Common.{◌≡◌, map, drop, slice_get}
use Rattle.schema_components.specs.Documents.{doc_of}
use Rattle.link_names.specs.Limits.{counted_places}
use Rattle.link_names.proofs.limits.first_beyond_limit.Given as goal

-- so many are left to be counted in the documents that are left
abbrev pub invariant-docs : goal.invariant-docs
invariant-docs l =
    slice_get (counted_places (map doc_of l.docs)) 10000 ≡ slice_get (counted_places (map doc_of (drop l.doc-index l.docs))) l.left
