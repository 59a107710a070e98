-- Steps in an order, each of which passes with a value or refuses with an outcome.
use Rattle.std.specs.Prelude.{◌≡◌, ◌⊎◌, Option, Some, None, Result, Ok, Err}
use Rattle.transcode_words.specs.declared.outcome.Outcome.{Outcome}

-- this value, and no refusal
abbrev pub Give : {A : Type 0} → A → Result A Outcome → Type 0
Give a (Ok b) = b ≡ a
Give a (Err o) = ⊥

-- the value that is found, or this refusal where none is
abbrev pub Found : {A : Type 0} → Option A → Outcome → Result A Outcome → Type 0
Found found refusal (Ok a) = found ≡ Some a
Found found refusal (Err o) = (found ≡ None) × (o ≡ refusal)

-- the first step refuses, or it passes with a value and the next step decides
abbrev pub Then : {A B : Type 0} → (Result A Outcome → Type 0) → (A → Result B Outcome → Type 0) → Result B Outcome → Type 0
Then {A} first next (Ok b) = (a : A) × first (Ok a) × next a (Ok b)
Then {A} first next (Err o) = first (Err o) ⊎ ((a : A) × first (Ok a) × next a (Err o))
