-- Schema files in memory, and the line of an outcome.
use Rattle.std.specs.Prelude.{◌≡◌, ℕ, List, [], ◌∷◌}
use Rattle.transcode_words.specs.declared.outcome.Outcome.{Outcome}
use Rattle.transcode_words.specs.declared.outcome.Outcome.TheVariants.{Usage}
use Rattle.transcode_words.specs.Lines.{line}

-- the names of files, in their order
abbrev pub names_of : List (List ℕ × List ℕ) → List (List ℕ)
names_of [] = []
names_of (file ∷ files) = file.0 ∷ names_of files

-- the line of the outcome; of `Usage`, whose line is about the program's words, nothing
abbrev pub IsLine : Outcome → List ℕ → Type 0
IsLine Usage text = text ≡ []
IsLine o text = text ≡ line o
