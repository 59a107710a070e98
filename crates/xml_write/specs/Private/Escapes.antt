-- The text that is written for a byte at its place. Only private contracts use this.
use Rattle.std.specs.Prelude.{ℕ, List}
use Rattle.xml_write.specs.declared.writing.CharacterPlace.{CharacterPlace}
use Rattle.xml_write.specs.declared.writing.CharacterPlace.TheVariants as places
use Rattle.xml_write.specs.Written.{text_escape, value_escape}

abbrev pub escape_in : CharacterPlace → ℕ → List ℕ
escape_in places.Content = text_escape
escape_in places.Value = value_escape
