-- The reason why no piece begins: the first that holds. Runs of characters that need no test.
use Rattle.std.specs.Prelude.{◌≡◌, ◌⊎◌, ℕ, ◌==◌, ◌||◌, ◌&&◌, not, nat_le, Bool, true, false, List, [], ◌∷◌, ◌++◌, codes, Option, IsUtf8, chars, if◌then◌else◌}
use Rattle.std.specs.List.{list_all}
use Rattle.base_texts.specs.Characters.{is_xml_char}
use Rattle.xml_pieces.specs.declared.reason.NoneWhy.{NoneWhy}
use Rattle.xml_pieces.specs.declared.reason.NoneWhy.TheVariants as why
use Rattle.xml_pieces.specs.Pieces.{Piece, Loose, behind, is_version, is_encoding, IsDoctype, WouldBeDeclaration, WouldBeTag}
use Rattle.xml_pieces.specs.Reading.{◌>>=◌, ahead, declared_at, tag_at}

-- at the very first place, a declaration with another version would begin
abbrev pub IsBadVersion : Bool → List ℕ → Type 0
IsBadVersion is_first bytes = (is_first ≡ true) × (version : List ℕ) × (encoding : Option (List ℕ)) × WouldBeDeclaration bytes version encoding × (is_version version ≡ false)

-- at the very first place, a declaration with another encoding would begin
abbrev pub IsBadEncoding : Bool → List ℕ → Type 0
IsBadEncoding is_first bytes = (is_first ≡ true) × (version : List ℕ) × (encoding : Option (List ℕ)) × WouldBeDeclaration bytes version encoding × (is_encoding encoding ≡ false)

-- `&` is at the start, or a tag would begin if each `&` within its values were a plain character.
abbrev pub IsBadReference : List ℕ → Type 0
IsBadReference bytes = ((rest : List ℕ) × (bytes ≡ codes "&" ++ rest)) ⊎ WouldBeTag bytes

-- the first reason that holds, in this order, where no piece begins
abbrev pub NoneReason : Bool → List ℕ → NoneWhy → Type 0
NoneReason is_first bytes why.Doctype = IsDoctype bytes
NoneReason is_first bytes why.Version = (IsDoctype bytes → ⊥) × IsBadVersion is_first bytes
NoneReason is_first bytes why.Encoding = (IsDoctype bytes → ⊥) × (IsBadVersion is_first bytes → ⊥) × IsBadEncoding is_first bytes
NoneReason is_first bytes why.BadReference = (IsDoctype bytes → ⊥) × (IsBadVersion is_first bytes → ⊥) × (IsBadEncoding is_first bytes → ⊥) × IsBadReference bytes
NoneReason is_first bytes why.NoPiece = (IsDoctype bytes → ⊥) × (IsBadVersion is_first bytes → ⊥) × (IsBadEncoding is_first bytes → ⊥) × (IsBadReference bytes → ⊥)

-- ---- the reasons, computed from the bytes

abbrev pub declared_in : List ℕ → Option (List ℕ × Option (List ℕ) × List ℕ)
declared_in bytes = behind (codes "<?xml") bytes >>= declared_at

abbrev pub loose_tag_in : List ℕ → Option (Piece × List ℕ)
loose_tag_in bytes = behind (codes "<") bytes >>= tag_at Loose

unfoldable pub reference_why : List ℕ → NoneWhy
reference_why bytes = ahead (behind (codes "&") bytes) (ahead (loose_tag_in bytes) why.NoPiece (λ r. why.BadReference)) (λ r. why.BadReference)

unfoldable pub declared_why : Bool → List ℕ → NoneWhy
declared_why false bytes = reference_why bytes
declared_why true bytes = ahead (declared_in bytes) (reference_why bytes) (λ d. if is_version d.0 then (if is_encoding d.1 then reference_why bytes else why.Encoding) else why.Version)

unfoldable pub why_at : Bool → List ℕ → NoneWhy
why_at is_first bytes = ahead (behind (codes "<!DOCTYPE") bytes) (declared_why is_first bytes) (λ r. why.Doctype)

-- ---- plain characters

-- A character except `<`, `&`, `>`, `]` and CR.
abbrev pub is_plain : ℕ → Bool
is_plain c = is_xml_char c && not (c == 60 || c == 38 || c == 62 || c == 93 || c == 13)

-- a run of plain characters
pub record IsPlainRun (run : List ℕ) : Type 0 where
  pub utf8 : IsUtf8 run
  pub each : list_all is_plain (chars run) ≡ true

-- A byte of a plain character, except 0xEF, which may begin U+FFFE or U+FFFF.
unfoldable pub is_plain_byte : ℕ → Bool
is_plain_byte b = b == 9 || b == 10 || (nat_le 32 b && not (b == 60 || b == 38 || b == 62 || b == 93 || b == 0xEF))
