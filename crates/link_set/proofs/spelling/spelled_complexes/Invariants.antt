use Rattle.std.proofs.Common.{◌≡◌, map}
use Rattle.link_set.specs.Sets.{named_spaces, spelled_complex}
use Rattle.link_set.proofs.spelling.spelled_complexes.Given as goal

-- those of the ones before this one
abbrev pub invariant-complexes : goal.invariant-complexes
invariant-complexes l = l.made.items ≡ map (spelled_complex (named_spaces l.simples)) l.yielded
