-- The plain grammar as a language: the texts of plain trees, and the faults of bytes that are not such a text.
use Rattle.std.specs.Prelude.{◌≡◌, ℕ, ◌≤◌, List, [], ◌∷◌, ◌++◌, length}
use Rattle.module_text.specs.declared.modules.PlainAssignment.{PlainAssignment}
use Rattle.module_text.specs.Texts.{text_of}
use Rattle.module_text.specs.Plain.{IsPlain}
use Rattle.module_text.specs.Places.{placed}
use Rattle.module_text.specs.Depth.{Start, too_deep}

-- The bytes are the text of these assignments, each thing has the place where it is in the text, and none is nested too deep.
pub record IsTextOf (bytes : List ℕ) (assignments : List PlainAssignment) : Type 0 where
  pub plain : IsPlain assignments
  pub text : text_of assignments ≡ bytes
  pub places : placed assignments ≡ assignments
  pub shallow : too_deep assignments ≡ []

-- The first n of these bytes begin a text of the grammar.
pub record Begins (bytes : List ℕ) (n : ℕ) : Type 0 where
  pub front : List ℕ
  pub rest : List ℕ
  pub more : List ℕ
  pub assignments : List PlainAssignment
  pub is : bytes ≡ front ++ rest
  pub long : length front ≡ n
  pub plain : IsPlain assignments
  pub begins : text_of assignments ≡ front ++ more

-- The first n of these bytes begin a text of the grammar, and no more of them do.
pub record IsLongest (bytes : List ℕ) (n : ℕ) : Type 0 where
  pub begins : Begins bytes n
  pub most : (m : ℕ) → Begins bytes m → m ≤ n

-- Some text of the grammar begins as the bytes do, and in it this is the first node that is nested too deep. The bytes agree with
-- the text up to where the node is shown.
pub record Sinks (bytes : List ℕ) (at : ℕ) : Type 0 where
  pub front : List ℕ
  pub rest : List ℕ
  pub more : List ℕ
  pub assignments : List PlainAssignment
  pub start : Start
  pub others : List Start
  pub is : bytes ≡ front ++ rest
  pub plain : IsPlain assignments
  pub begins : text_of assignments ≡ front ++ more
  pub deep : too_deep (placed assignments) ≡ start ∷ others
  pub told : start.told ≤ length front
  pub place : start.at ≡ at

-- Syntax: the bytes are not a text, and nothing in them is nested too deep before that shows. The fault is after their longest
-- prefix that begins a text.
pub record IsBroken (bytes : List ℕ) (at : ℕ) : Type 0 where
  pub longest : IsLongest bytes at
  pub no_text : (assignments : List PlainAssignment) → IsPlain assignments → text_of assignments ≡ bytes → ⊥
  pub shallow : (n : ℕ) → Sinks bytes n → ⊥
