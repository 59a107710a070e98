use Rattle.std.proofs.Common.{◌≤◌, length, drop}
use Rattle.schema_syntax.specs.Private.Finding.{Finds}
use Rattle.schema_syntax.proofs.scopes.spaces_of.Given as goal

-- the table has those from this place on
abbrev pub invariant-last_first : goal.invariant-last_first
invariant-last_first l = (l.i ≤ length l.bindings) × Finds (drop l.i l.bindings) l.spaces

abbrev pub decreases-last_first : goal.decreases-last_first
decreases-last_first l = l.i
