use Rattle.std.proofs.Common.{◌≡◌, ◌+◌, drop}
use Rattle.content_match.specs.Private.Alls.{needed, wanted_in}
use Rattle.content_match.proofs.alls.count_needed.Given as goal

abbrev pub invariant-kids : goal.invariant-kids
invariant-kids l = l.count + wanted_in (needed (drop l.kid-index l.kids)) ≡ wanted_in (needed l.kids)
