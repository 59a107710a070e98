-- For private contracts only: the types that the code has made, and those that one is made from.
use Rattle.std.specs.Prelude.{ℕ, List, [], ◌∷◌, map, Option, Some, None, IfSome}
use Rattle.std.specs.Option.{option_map}
use Rattle.simple_types.specs.declared.simples.Simple.{Simple}
use Rattle.simple_types.specs.Seen.{space_of}
use Rattle.simple_types.specs.Sound.{Sound}
use Rattle.simple_types.specs.Joining.{joined}
use Rattle.simple_types.specs.Space.{Space, Spaces, none, more}
use Rattle.link_simple.specs.declared.parts.Part.{Part}
pub use Rattle.link_simple.specs.Seen.{seen}
use Rattle.link_simple.specs.Making.{entry_at}

abbrev pub entry_of : Option Simple → Option Space
entry_of o = option_map space_of o

abbrev pub entries_of : List (Option Simple) → List (Option Space)
entries_of entries = map entry_of entries

abbrev pub AreEntriesSound : List (Option Space) → Type 0
AreEntriesSound made = (n : ℕ) → IfSome (entry_at made n) Sound

abbrev pub seen_all : List Part → Spaces
seen_all [] = none
seen_all (p ∷ ps) = more (seen p) (seen_all ps)

-- The first members followed by the others, if all of those are there.
abbrev pub with_front : Spaces → Option Spaces → Option Spaces
with_front front None = None
with_front front (Some rest) = Some (joined front rest)
