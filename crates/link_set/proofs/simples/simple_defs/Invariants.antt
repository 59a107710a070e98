use Rattle.std.proofs.Common.{◌≡◌, map}
use Rattle.link_set.specs.Private.Made.{made_of}
use Rattle.link_set.specs.Sets.{named_spaces, space_of_made}
use Rattle.link_set.proofs.simples.simple_defs.Given as goal

-- those of the types before this one
abbrev pub invariant-types : goal.invariant-types
invariant-types l = named_spaces l.simples.items ≡ map space_of_made (made_of l.yielded)
