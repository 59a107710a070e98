-- The place of a byte of a text.
use Rattle.std.specs.Prelude.{◌≡◌, ◌+◌, ℕ, List, ◌++◌, length, take, drop, codes, decimal, IsUtf8}
use Rattle.std.specs.Str.{chars}
use Rattle.people_complaints.specs.Lines.{EndsInLine, BeginsInLine}
use Rattle.people_complaints.specs.Excerpts.{IsExcerpt}

-- The column after these bytes of a line, from 1: in code points, or in bytes where they aren't UTF-8.
pub record IsColumn (before : List ℕ) (column : ℕ) : Type 0 where
  pub of_chars : IsUtf8 before → column ≡ 1 + length (chars before)
  pub of_bytes : (IsUtf8 before → ⊥) → column ≡ 1 + length before

-- Byte number `at` of the text: its line and its column, as they follow the text's name, and its excerpt.
pub record IsPlaced (contents : List ℕ) (at : ℕ) (place excerpt : List ℕ) : Type 0 where
  pub line : ℕ
  pub column : ℕ
  pub before : List ℕ
  pub after : List ℕ
  pub begins : EndsInLine (take at contents) line before
  pub goes_on : BeginsInLine (drop at contents) after
  pub counted : IsColumn before column
  pub shown : IsExcerpt before after excerpt
  pub text : place ≡ codes ":" ++ decimal line ++ codes ":" ++ decimal column
