use Rattle.std.proofs.Common.{◌≡◌, map}
use Rattle.link_set.specs.Sets.{named_spaces, spelled_attribute}
use Rattle.link_set.proofs.spelling.spelled_attributes.Given as goal

-- those of the ones before this one
abbrev pub invariant-attributes : goal.invariant-attributes
invariant-attributes l = l.made.items ≡ map (spelled_attribute (named_spaces l.simples)) l.yielded
