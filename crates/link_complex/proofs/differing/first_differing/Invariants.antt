use Rattle.std.proofs.Common.{map, take}
use Rattle.schema_components.specs.Documents.{doc_of}
use Rattle.link_names.specs.Order.{OneHas, IsFirstSuch}
use Rattle.link_complex.specs.ElementTypes.{DiffersIn}
use Rattle.link_complex.specs.Private.Identities.{type_in}
use Rattle.link_complex.proofs.differing.first_differing.Given as goal

-- the first of the documents before this one
abbrev pub invariant-docs : goal.invariant-docs
invariant-docs l = IsFirstSuch (OneHas (DiffersIn (type_in l.types)) (map doc_of (take l.doc-index l.docs))) l.found
