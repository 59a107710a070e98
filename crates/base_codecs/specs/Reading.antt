-- Reading a list from left to right, up to the first stop. E is the type of the list's elements: bits, or octets. S is the type
-- of a stop.
use Rattle.std.specs.Prelude.{ℕ, ◌+◌, Bool, List, ◌++◌, length, take, drop, Result, Ok, Err, nat_lt, if◌then◌else◌}
use Rattle.base_codecs.specs.declared.spots.Spot.{Spot}

infixl 10 ◌>>=◌
abbrev pub ◌>>=◌ : {S A B : Type 0} → Result A S → (A → Result B S) → Result B S
(Ok x) >>= f = f x
(Err e) >>= f = Err e

-- From a list and a spot in it: the value read and the spot after it, or the first stop.
abbrev pub Reader : Type 0 → Type 0 → Type 0 → Type 0
Reader E S A = List E → Spot → Result (A × Spot) S

-- The list that is written at a position.
abbrev pub Writer : Type 0 → Type 0
Writer E = ℕ → List E

abbrev pub then_write : {E : Type 0} → List E → Writer E → Writer E
then_write front others p = front ++ others (p + length front)

-- The spot moved by this distance and this number of nodes.
abbrev pub moved : Spot → ℕ → ℕ → Spot
moved s far nodes = record { at = s.at + far; nodes = s.nodes + nodes }

-- The result, unless a test finds a fault in it.
abbrev pub stop_if : {S A : Type 0} → Bool → S → Result A S → Result A S
stop_if holds stop others = if holds then Err stop else others

abbrev pub with_spot : {S A : Type 0} → A → Spot → Result (A × Spot) S
with_spot a s = Ok (a, s)

-- A BOUNDED WINDOW: only the next n elements. Places are still those of the complete list, and the list ends where the window
-- does. It stops where the list ends inside the window.
unfoldable pub window_at : {E S A : Type 0} → S → ℕ → Reader E S A → Reader E S A
window_at stop n read X s = stop_if (nat_lt (length X) (s.at + n)) stop (read (take (s.at + n) X) s)

-- The value read, unless something follows it.
unfoldable pub ended_at : {E S A : Type 0} → (Spot → S) → Reader E S A → Reader E S A
ended_at stop read X s = do
  a ← read X s
  stop_if (nat_lt a.1.at (length X)) (stop a.1) (Ok a)

-- The rest of the list.
unfoldable pub left_at : {E S : Type 0} → Reader E S (List E)
left_at X s = Ok (drop s.at X, moved s (length (drop s.at X)) 0)

-- One more node, if the limit allows it.
unfoldable pub entered_at : {E S A : Type 0} → (Spot → Bool) → (Spot → S) → Reader E S A → Reader E S A
entered_at is_over stop read X s = stop_if (is_over s) (stop s) (read X (moved s 0 1))
