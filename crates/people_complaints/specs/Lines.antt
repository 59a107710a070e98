-- Lines of a text of bytes, as editors count them: a line ends with a line feed, or with the text.
use Rattle.std.specs.Prelude.{◌≡◌, ◌⊎◌, ◌==◌, ℕ, ◌+◌, Bool, true, not, List, [], ◌∷◌, ◌++◌, length}
use Rattle.std.specs.List.{list_all}

-- no line feed
abbrev pub is_line : List ℕ → Bool
is_line bytes = list_all (λ b. not (b == 10)) bytes

-- lines, each with its line feed, and what follows them
abbrev pub lined : List (List ℕ) → List ℕ → List ℕ
lined [] here = here
lined (line ∷ lines) here = line ++ 10 ∷ lined lines here

-- the end of a prefix of a text: the line with this number, from 1, and these bytes of it
pub record EndsInLine (front : List ℕ) (number : ℕ) (here : List ℕ) : Type 0 where
  pub before : List (List ℕ)
  pub lines : list_all is_line before ≡ true
  pub begun : is_line here ≡ true
  pub split : front ≡ lined before here
  pub count : number ≡ 1 + length before

-- the line without the carriage return that ends it, if one does
abbrev pub WithoutReturn : List ℕ → List ℕ → Type 0
WithoutReturn line shown = (line ≡ shown ++ 13 ∷ []) ⊎ ((line ≡ shown) × ((front : List ℕ) → line ≡ front ++ 13 ∷ [] → ⊥))

-- the first line of a text, without the line's end
pub record BeginsInLine (rest after : List ℕ) : Type 0 where
  pub line : List ℕ
  pub behind : List ℕ
  pub split : rest ≡ line ++ behind
  pub within : is_line line ≡ true
  pub end : (behind ≡ []) ⊎ ((later : List ℕ) × (behind ≡ 10 ∷ later))
  pub shown : WithoutReturn line after
