-- What is known of pieces.
use Rattle.std.proofs.Common.{◌≡◌, ℕ, ◌≤◌, Bool, List, length, Some}
use Rattle.std.specs.Prelude.{IsUtf8, encode_utf8}
use Rattle.xml_read.proofs.Keeping.{IsFine}
use Rattle.xml_read.proofs.Soundness.{AreFine}
use Rattle.xml_pieces.specs.Pieces.{Piece, Declaration, Start, Empty, End, Comment, Instruction, CData, Reference, Character, Begins, PieceForm}
use Rattle.xml_pieces.specs.Reading.{piece_at}
use Rattle.xml_pieces.specs.Reasons.{NoneReason}
use Rattle.xml_pieces.specs.declared.reason.NoneWhy.{NoneWhy}

-- the parts of a piece are UTF-8 of XML characters
abbrev pub Fine : Piece → Type 0
Fine Declaration = Unit {0}
Fine (Start tag) = AreFine tag
Fine (Empty tag) = AreFine tag
Fine (End name) = Unit {0}
Fine Comment = Unit {0}
Fine Instruction = Unit {0}
Fine (CData text) = IsFine text
Fine (Reference code) = IsFine (encode_utf8 code)
Fine (Character code) = IsFine (encode_utf8 code)

pub record PieceLaws : Type 0 where
  pub takes : (bytes rest : List ℕ) (p : Piece) → IsUtf8 bytes → piece_at bytes ≡ Some (p, rest) → Begins p bytes rest
  pub again : (p : Piece) (bytes rest : List ℕ) → IsUtf8 bytes → Begins p bytes rest → piece_at bytes ≡ Some (p, rest)
  pub utf8 : (p : Piece) (bytes rest : List ℕ) → IsUtf8 bytes → Begins p bytes rest → IsUtf8 rest
  pub nonempty : (p : Piece) (front : List ℕ) → PieceForm p front → 1 ≤ length front
  pub fine : (p : Piece) (bytes rest : List ℕ) → IsUtf8 bytes → Begins p bytes rest → Fine p
  pub none_one : (first : Bool) (bytes : List ℕ) (a b : NoneWhy) → IsUtf8 bytes → NoneReason first bytes a → NoneReason first bytes b → a ≡ b
  pub none_some : (first : Bool) (bytes : List ℕ) → IsUtf8 bytes → (why : NoneWhy) × NoneReason first bytes why
