use Rattle.std.proofs.Common.{◌≡◌, map}
use Rattle.link_set.specs.Sets.{named_spaces, spelled_use}
use Rattle.link_set.proofs.spelling.spelled_uses.Given as goal

-- those of the ones before this one
abbrev pub invariant-uses : goal.invariant-uses
invariant-uses l = l.made.items ≡ map (spelled_use (named_spaces l.simples)) l.yielded
