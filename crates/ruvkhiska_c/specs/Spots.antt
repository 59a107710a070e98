-- The line and the column of an offset in a text.
use Rattle.std.specs.Prelude.{◌≤◌, ℕ, List, length, take}
use Rattle.people_complaints.specs.Lines.{EndsInLine}
use Rattle.people_complaints.specs.Places.{IsColumn}

-- what precedes the offset ends in the line with this number, and has this column after it
pub record IsSpot (text : List ℕ) (at line column : ℕ) : Type 0 where
  pub within : at ≤ length text
  pub before : List ℕ
  pub ends : EndsInLine (take at text) line before
  pub counted : IsColumn before column
