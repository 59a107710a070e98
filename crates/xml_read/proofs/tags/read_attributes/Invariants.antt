use Rattle.std.proofs.Common.{◌≡◌, ◌++◌, true, length, map}
use Rattle.std.specs.Prelude.{reverse}
use Rattle.xml_pieces.specs.Found.{attribute_of}
use Rattle.xml_pieces.specs.Namespaces.{attributes_of}
use Rattle.xml_read.specs.Private.Entering.{are_named}
use Rattle.xml_read.proofs.tags.read_attributes.Given as goal

abbrev pub invariant-each : goal.invariant-each
invariant-each l = record {
  so_far : l.all.items ++ attributes_of (reverse l.scope) (map attribute_of l.rest) ≡ attributes_of (reverse l.scope) (map attribute_of l.attributes);
  named : are_named (map attribute_of l.rest) ≡ true;
}

abbrev pub decreases-each : goal.decreases-each
decreases-each l = length l.rest
