-- Tests whether a number is in a space of whole numbers, and a treated text in a space of texts. They are false for all other
-- spaces. Private contracts use them.
use Rattle.std.specs.Prelude.{◌≡◌, ℕ, Bool, true, false, ◌&&◌, is_some, ℤ, Option, List, position, bytes_eq}
use Rattle.std.specs.Ordering.{int_eq}
use Rattle.base_texts.specs.declared.white_space.WhiteSpace.{WhiteSpace}
use Rattle.simple_types.specs.Space.{Space, Wholes, Numbers, Words, Characters}
use Rattle.simple_types.specs.Lexical.{is_from, is_to}
use Rattle.simple_types.specs.Reading.{has_characters}

abbrev pub has_number : Space → ℤ → Bool
has_number (Wholes least greatest) z = is_from least z && is_to greatest z
has_number (Numbers numbers) z = is_some (position (λ n. int_eq n z) numbers)
has_number _ z = false

abbrev pub has_word : Space → List ℕ → Bool
has_word (Words how words) word = is_some (position (λ w. bytes_eq w word) words)
has_word (Characters how least most class) word = has_characters least most class word
has_word _ word = false

-- a space of texts with this treatment
abbrev pub IsTexts : WhiteSpace → Space → Type 0
IsTexts how (Words made words) = made ≡ how
IsTexts how (Characters made least most class) = made ≡ how
IsTexts how _ = ⊥
