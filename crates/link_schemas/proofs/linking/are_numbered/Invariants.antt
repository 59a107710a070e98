use Rattle.std.proofs.Common.{map}
use Rattle.schema_components.specs.Documents.{doc_of}
use Rattle.link_schemas.proofs.Numbered.{NumberedBefore}
use Rattle.link_schemas.proofs.linking.are_numbered.Given as goal

abbrev pub invariant-docs : goal.invariant-docs
invariant-docs l = NumberedBefore (map doc_of l.docs) l.n
