-- The simple type that the code makes of a type, and the texts that it appends.
use Rattle.std.specs.Prelude.{◌≡◌, ℕ, Bool, true, false, Option, Some, None, List, ◌++◌}
use Rattle.simple_types.specs.declared.simples.Simple.{Simple}
use Rattle.simple_types.specs.Seen.{space_of, spaces_in}
use Rattle.simple_types.specs.Sound.{Sound, AreSound}
use Rattle.simple_types.specs.Space.{Space, Spaces}

-- The space of a simple type, if there is one.
abbrev pub made_space : Option Simple → Option Space
made_space None = None
made_space (Some simple) = Some (space_of simple)

-- The simple type, if there is one, is sound.
abbrev pub IsMade : Option Simple → Type 0
IsMade None = Unit {0}
IsMade (Some simple) = Sound (space_of simple)

-- The simple type found has this space and is sound, or none is found and there is no space.
abbrev pub Makes : Option Simple → Option Space → Type 0
Makes found due = (due ≡ made_space found) × IsMade found

-- The simple types have these spaces, and each is sound.
abbrev pub AreMade : Option Spaces → List Simple → Type 0
AreMade due simples = (due ≡ Some (spaces_in simples)) × AreSound (spaces_in simples)

-- ---- what is written after the text so far

-- The text after an append that wrote something; none otherwise.
abbrev pub if_told : Bool → List ℕ → Option (List ℕ)
if_told true after = Some after
if_told false after = None

abbrev pub behind_it : List ℕ → Option (List ℕ) → Option (List ℕ)
behind_it before None = None
behind_it before (Some text) = Some (before ++ text)
