-- The values that clauses use for sources, sinks and libraries in memory.
use Rattle.std.specs.Prelude.{ℕ, List, [], ◌∷◌, min}

-- a source: the bytes left, and the sizes of the pieces to come
pub record Feed : Type 0 where
  pub left : List ℕ
  pub pieces : List ℕ

-- A source that may fail: the fields of `Feed` with the numbers of the calls that fail, the number of calls so far, and the count
-- of faults.
pub record FaultyFeed : Type 0 where
  pub left : List ℕ
  pub pieces : List ℕ
  pub fails : List ℕ
  pub calls : ℕ
  pub faults : ℕ

-- a sink: the bytes written, the room, the sizes of the pieces to come, and the count of faults
pub record Tray : Type 0 where
  pub written : List ℕ
  pub room : ℕ
  pub pieces : List ℕ
  pub faults : ℕ

-- A sink that may fail: the fields of `Tray` with the numbers of the calls that fail, and the number of calls so far.
pub record FaultyTray : Type 0 where
  pub written : List ℕ
  pub room : ℕ
  pub pieces : List ℕ
  pub fails : List ℕ
  pub calls : ℕ
  pub faults : ℕ

-- a library: its names with their contents, and the count of faults
pub record Shelf : Type 0 where
  pub entries : List (List ℕ × List ℕ)
  pub faults : ℕ

-- A library that may fail: the fields of `Shelf` with the numbers of the calls that fail, and the number of calls so far.
pub record FaultyShelf : Type 0 where
  pub entries : List (List ℕ × List ℕ)
  pub fails : List ℕ
  pub calls : ℕ
  pub faults : ℕ

-- The number of bytes that a call moves, if it could move `most`: at most the next piece size.
abbrev pub piece_of : List ℕ → ℕ → ℕ
piece_of [] most = most
piece_of (size ∷ sizes) most = min size most

-- The piece sizes after the next.
abbrev pub later_pieces : List ℕ → List ℕ
later_pieces [] = []
later_pieces (size ∷ sizes) = sizes
