-- A small language that uses each reader: lines of an x in parentheses, each with its place.
use mathlib.Core.Logic.{inl, inr}
use Rattle.std.specs.Prelude.{◌≡◌, ℕ, zero, suc, ◌⊎◌, ◌==◌, ◌||◌, Bool, Option, Some, None, List, ◌++◌, length, codes}
use Rattle.std.specs.Option.{option_map}
use Rattle.module_grammar.specs.Reading.{Reader, word_at, byte_at, or_at, many_at, as_at, behind_at, before_at, sunk_at}
use Rattle.module_grammar.specs.Shapes.{Sunk, moved, EachFine, each_written, each_deep}
use Rattle.module_grammar.specs.Verdicts.{Verdict, Exact, judged}

-- ---- the language

-- An x in this number of parentheses.
abbrev pub nested : ℕ → List ℕ
nested zero = codes "x"
nested (suc levels) = codes "(" ++ (nested levels ++ codes ")")

-- The first node with this number of others around it.
abbrev pub nested_deep : ℕ → ℕ → Option Sunk
nested_deep zero levels = Some (record { at = 0; told = 1 })
nested_deep (suc depth) zero = None
nested_deep (suc depth) (suc levels) = option_map (moved 1) (nested_deep depth levels)

pub record Line : Type 0 where
  pub place : ℕ
  pub levels : ℕ

abbrev pub IsLine : ℕ → Line → Type 0
IsLine place line = line.place ≡ place

abbrev pub line_text : Line → List ℕ
line_text line = nested line.levels ++ codes ";"

abbrev pub line_deep : ℕ → Line → Option Sunk
line_deep depth line = nested_deep depth line.levels

-- ---- its reader

abbrev pub is_opening : ℕ → Bool
is_opening b = b == 40 || b == 120

abbrev pub levels_of : ℕ → Unit {0} ⊎ ℕ → ℕ
levels_of place (inl x) = 0
levels_of place (inr levels) = suc levels

abbrev pub nested_at : ℕ → Reader ℕ
nested_at zero = sunk_at (byte_at is_opening)
nested_at (suc depth) = as_at levels_of (or_at (word_at (codes "x")) (behind_at (codes "(") (before_at (nested_at depth) (codes ")"))))

abbrev pub line_of : ℕ → ℕ → Line
line_of place levels = record { place = place; levels = levels }

abbrev pub line_at : ℕ → Reader Line
line_at depth = as_at line_of (before_at (nested_at depth) (codes ";"))

abbrev pub lines_at : ℕ → Reader (List Line)
lines_at depth = many_at (line_at depth)

abbrev pub verdict : ℕ → List ℕ → Verdict (List Line)
verdict depth bs = judged (length bs) (lines_at depth 0 bs)

-- The law of readers, for this language.
abbrev pub NestedExact : Type 0
NestedExact = (depth : ℕ) → Exact (EachFine IsLine line_text) (each_deep line_text (line_deep depth)) (each_written line_text) (verdict depth)
