use Rattle.std.proofs.Common.{◌≡◌, ◌++◌}
use Rattle.base_trees.specs.Rose.{kids_of}
use Rattle.der_encode.proofs.nodes.kids_of.Given as goal

abbrev pub invariant-kids : goal.invariant-kids
invariant-kids l = record { whole : l.kids.items ++ l.kid-iterator ≡ kids_of l.value }
