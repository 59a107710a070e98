use Rattle.std.proofs.Common.{◌≡◌, ◌++◌, true, length, map}
use Rattle.xml_pieces.specs.Found.{attribute_of}
use Rattle.xml_pieces.specs.Namespaces.{bindings_of}
use Rattle.xml_read.specs.Private.Entering.{are_named}
use Rattle.xml_read.proofs.tags.read_bindings.Given as goal

abbrev pub invariant-each : goal.invariant-each
invariant-each l = record {
  so_far : l.all.items ++ bindings_of (map attribute_of l.rest) ≡ bindings_of (map attribute_of l.attributes);
  named : are_named (map attribute_of l.rest) ≡ true;
}

abbrev pub decreases-each : goal.decreases-each
decreases-each l = length l.rest
