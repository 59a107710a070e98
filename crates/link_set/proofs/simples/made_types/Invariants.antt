use Rattle.std.proofs.Common.{◌≡◌, ℕ, ◌≤◌, ◌⊎◌, List, map, length}
use Rattle.simple_types.specs.declared.simples.Simple.{Simple}
use Rattle.simple_types.specs.Seen.{space_of}
use Rattle.link_names.specs.declared.definitions.SimpleType.{SimpleType}
use Rattle.link_names.specs.CyclesSeen.{definitions_of}
use Rattle.link_set.specs.Private.Made.{made_of}
use Rattle.link_set.specs.Sets.{MadeType, made_types}
use Rattle.link_set.proofs.simples.made_types.Given as goal

-- those of these spaces, of which so many have a definition
abbrev pub AreMade : List SimpleType → List Simple → List MadeType → ℕ → Type 0
AreMade definitions spaces made n =
    (made ≡ made_types (definitions_of definitions) (map space_of spaces))
    × (n ≤ length spaces) × (n ≤ length definitions)
    × ((n ≡ length definitions) ⊎ (n ≡ length spaces))

-- the spaces before this one
abbrev pub invariant-spaces : goal.invariant-spaces
invariant-spaces l = AreMade l.definitions l.yielded (made_of l.made.items) l.n
