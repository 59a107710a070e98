use Rattle.std.proofs.Common.{◌≡◌, drop}
use Rattle.std.specs.List.{list_any}
use Rattle.base_trees.specs.Rose.{label_of}
use Rattle.schema_faults.specs.Reasons.{occurs}
use Rattle.schema_faults.proofs.reasons.one_occurs.Given as goal

abbrev pub invariant-loop-kid : goal.invariant-loop-kid
invariant-loop-kid l = list_any (λ kid. occurs (label_of kid)) (drop l.kid-index l.kids) ≡ list_any (λ kid. occurs (label_of kid)) l.kids
