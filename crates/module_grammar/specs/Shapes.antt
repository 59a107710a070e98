-- Texts that are composed of others: what holds of their values, how they are written, and where a node in them is nested too deep.
use mathlib.Core.Logic.{inl, inr}
use Rattle.std.specs.Prelude.{ℕ, ◌+◌, ◌⊎◌, ⊤, Option, Some, None, List, [], ◌∷◌, ◌++◌, length}
use Rattle.std.specs.Option.{option_map}
use Rattle.module_grammar.specs.Reading.{Answer, Found, Fails, Deep, Reader}

-- A node that is nested too deep: the byte of the text at which it begins, and how many bytes of the text show it.
pub record Sunk : Type 0 where
  pub at : ℕ
  pub told : ℕ

-- The node, after `size` bytes more.
abbrev pub moved : ℕ → Sunk → Sunk
moved size s = record { at = size + s.at; told = size + s.told }

-- Any value is allowed, at any place.
abbrev pub Anything : {A : Type 0} → ℕ → A → Type 0
Anything place a = ⊤

-- Any bytes may follow.
abbrev pub AnyRest : List ℕ → Type 0
AnyRest rest = ⊤

-- No node is nested too deep.
abbrev pub never : {A : Type 0} → A → Option Sunk
never a = None

abbrev pub word_of : List ℕ → Unit {0} → List ℕ
word_of word x = word

abbrev pub IsFailed : {A : Type 0} → Answer A → Type 0
IsFailed (Found a size n) = ⊥
IsFailed (Fails n) = ⊤
IsFailed (Deep at n) = ⊥

-- The node in the first text, or else the node in the text after these bytes.
abbrev pub deeper : ℕ → Option Sunk → Option Sunk → Option Sunk
deeper size None other = option_map (moved size) other
deeper size (Some s) other = Some s

-- The second text follows the text of the first value.
abbrev pub BothFine : {A B : Type 0} → (ℕ → A → Type 0) → (A → List ℕ) → (A → ℕ → B → Type 0) → ℕ → A × B → Type 0
BothFine FineA writeA FineB place x = FineA place x.0 × FineB x.0 (place + length (writeA x.0)) x.1

abbrev pub both_written : {A B : Type 0} → (A → List ℕ) → (A → B → List ℕ) → A × B → List ℕ
both_written writeA writeB x = writeA x.0 ++ writeB x.0 x.1

abbrev pub both_deep : {A B : Type 0} → (A → List ℕ) → (A → Option Sunk) → (A → B → Option Sunk) → A × B → Option Sunk
both_deep writeA deepA deepB x = deeper (length (writeA x.0)) (deepA x.0) (deepB x.0 x.1)

abbrev pub EitherFine : {A B : Type 0} → (ℕ → A → Type 0) → (ℕ → B → Type 0) → ℕ → A ⊎ B → Type 0
EitherFine FineA FineB place (inl a) = FineA place a
EitherFine FineA FineB place (inr b) = FineB place b

abbrev pub either_deep : {A B : Type 0} → (A → Option Sunk) → (B → Option Sunk) → A ⊎ B → Option Sunk
either_deep deepA deepB (inl a) = deepA a
either_deep deepA deepB (inr b) = deepB b

abbrev pub either_written : {A B : Type 0} → (A → List ℕ) → (B → List ℕ) → A ⊎ B → List ℕ
either_written writeA writeB (inl a) = writeA a
either_written writeA writeB (inr b) = writeB b

abbrev pub EachFine : {A : Type 0} → (ℕ → A → Type 0) → (A → List ℕ) → ℕ → List A → Type 0
EachFine Fine write place [] = ⊤
EachFine Fine write place (a ∷ xs) = Fine place a × EachFine Fine write (place + length (write a)) xs

abbrev pub each_written : {A : Type 0} → (A → List ℕ) → List A → List ℕ
each_written write [] = []
each_written write (a ∷ xs) = write a ++ each_written write xs

abbrev pub each_deep : {A : Type 0} → (A → List ℕ) → (A → Option Sunk) → List A → Option Sunk
each_deep write deep [] = None
each_deep write deep (a ∷ xs) = deeper (length (write a)) (deep a) (each_deep write deep xs)

-- The text follows a word.
abbrev pub BehindFine : {A : Type 0} → List ℕ → (ℕ → A → Type 0) → ℕ → A → Type 0
BehindFine word Fine place a = Fine (place + length word) a

abbrev pub shifted : {A : Type 0} → List ℕ → (A → Option Sunk) → A → Option Sunk
shifted word deep a = option_map (moved (length word)) (deep a)

abbrev pub behind_word : {A : Type 0} → List ℕ → (A → List ℕ) → A → List ℕ
behind_word word write a = word ++ write a

abbrev pub before_word : {A : Type 0} → (A → List ℕ) → List ℕ → A → List ℕ
before_word write word a = write a ++ word

-- The reader reads no text at the beginning of these bytes.
abbrev pub IsUnread : {A : Type 0} → Reader A → List ℕ → Type 0
IsUnread read rest = (place : ℕ) → IsFailed (read place rest)

-- These bytes may follow the last item: they may follow an item, and no item begins them.
pub record Stops {A : Type 0} (FollowItem : List ℕ → Type 0) (read : Reader A) (rest : List ℕ) : Type 0 where
  pub item : FollowItem rest
  pub fails : IsUnread read rest
