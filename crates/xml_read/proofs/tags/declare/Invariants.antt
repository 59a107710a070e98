use Rattle.std.proofs.Common.{◌≡◌, ◌≤◌, ◌++◌, length, take, map}
use Rattle.std.specs.Prelude.{reverse}
use Rattle.xml_pieces.specs.Found.{attribute_of}
use Rattle.xml_pieces.specs.Namespaces.{bindings_of}
use Rattle.xml_read.proofs.tags.declare.Given as goal

abbrev pub invariant-last_first : goal.invariant-last_first
invariant-last_first l = record {
  within : l.at ≤ length l.attributes;
  so_far : l.scope ++ reverse (bindings_of (map attribute_of (take l.at l.attributes))) ≡ l.fn.scope ++ reverse (bindings_of (map attribute_of l.attributes));
}

abbrev pub decreases-last_first : goal.decreases-last_first
decreases-last_first l = l.at
