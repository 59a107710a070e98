use Rattle.std.proofs.Common.{◌≡◌, ℕ, List, take}
use Rattle.std.specs.Prelude.{bytes_eq}
use Rattle.indexmap.specs.IndexMap.{get}
use Rattle.module_text.specs.Resolving.{number_of}
use Rattle.module_check.proofs.references.References.of.Given as goal

abbrev pub invariant-assignments : goal.invariant-assignments
invariant-assignments l = (r : List ℕ) → get bytes_eq l.numbers r ≡ number_of (take l.i l.assignments) r
