-- The text of elements that have only a text. Only private contracts use this.
use Rattle.std.specs.Prelude.{◌≡◌, ◌≤◌, ℕ, ◌+◌, List, [], ◌∷◌, ◌++◌, length, vec_len}
use Rattle.std.specs.Global.{Vec}
use Rattle.std.specs.List.{flat_map}
use Rattle.std.specs.Vec.{vec_capacity}
use Rattle.xml_write.specs.Written.{text_escape}

-- An element with this qualified name, without attributes, with this content.
abbrev pub element_text : List ℕ → List ℕ → List ℕ
element_text called inner = 60 ∷ called ++ 62 ∷ inner ++ 60 ∷ 47 ∷ called ++ 62 ∷ []

-- An element with this qualified name that has only a text, or no content if the text is empty.
abbrev pub written_words : List ℕ → List ℕ → List ℕ
written_words called [] = 60 ∷ called ++ 47 ∷ 62 ∷ []
written_words called (byte ∷ bytes) = element_text called (flat_map text_escape (byte ∷ bytes))

-- The vector has capacity for `count` more bytes.
abbrev pub HasRoom : Vec ℕ → ℕ → Type 0
HasRoom out count = vec_len out + count ≤ vec_capacity out

-- These bytes were appended without an allocation.
pub record Puts (old new : Vec ℕ) (bytes : List ℕ) : Type 0 where
  pub items : new.items ≡ old.items ++ bytes
  pub len : vec_len new ≡ vec_len old + length bytes
  pub capacity : vec_capacity new ≡ vec_capacity old
