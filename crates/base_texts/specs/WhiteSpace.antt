-- White space, by XML Schema Part 2, section 4.3.6. A text is the list of its bytes: white space is ASCII.
use Rattle.std.specs.Prelude.{◌≡◌, ℕ, Bool, true, false, ◌==◌, ◌||◌, List, [], ◌∷◌, map, filter, if◌then◌else◌}
use Rattle.std.specs.List.{list_all, slice_split, join_with_byte, All}
use Rattle.base_texts.specs.declared.white_space.WhiteSpace.{WhiteSpace}
use Rattle.base_texts.specs.declared.white_space.WhiteSpace.TheVariants.{Preserve, Replace, Collapse}

-- XML 1.0, production [3] S: a space, a tab, a line feed, a carriage return
unfoldable pub is_white_space : ℕ → Bool
is_white_space b = b == 0x20 || b == 0x9 || b == 0xA || b == 0xD

-- Only white space, or nothing.
abbrev pub is_blank : List ℕ → Bool
is_blank bytes = list_all is_white_space bytes

-- One byte under `replace`.
abbrev pub spaced : ℕ → ℕ
spaced b = if is_white_space b then 0x20 else b

abbrev pub has_bytes : List ℕ → Bool
has_bytes [] = false
has_bytes (b ∷ bs) = true

-- the words, from left to right: the parts between white space that have bytes
unfoldable pub words_of : List ℕ → List (List ℕ)
words_of bytes = filter has_bytes (slice_split is_white_space bytes)

-- a word: it has bytes, and none of them is white space
pub record IsWord (word : List ℕ) : Type 0 where
  pub has : has_bytes word ≡ true
  pub plain : All (λ b. is_white_space b ≡ false) word

-- The text after the facet `whiteSpace` is applied.
unfoldable pub treated : WhiteSpace → List ℕ → List ℕ
treated Preserve bytes = bytes
treated Replace bytes = map spaced bytes
treated Collapse bytes = join_with_byte 0x20 (words_of bytes)

-- The treatment leaves the text unchanged.
abbrev pub IsTreated : WhiteSpace → List ℕ → Type 0
IsTreated how bytes = treated how bytes ≡ bytes
