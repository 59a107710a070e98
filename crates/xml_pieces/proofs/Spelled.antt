-- Tests of names on bytes.
use Rattle.std.proofs.Common.{◌≡◌, ℕ, Bool, true, false, List, refl}
use Rattle.std.specs.Prelude.{◌&&◌, IsUtf8}
use Rattle.std.specs.Str.{chars, is_utf8}
use Rattle.std.proofs.lemmas.Str.{IsUtf8-from_is_utf8, is_utf8-from_IsUtf8, IsUtf8-from_ascii, chars-IsAscii}
use Rattle.base_texts.specs.Characters.{is_ncname}
use Rattle.base_texts.specs.Limits.{spells_ncname}
use Rattle.xml_pieces.specs.Reading.{is_ascii_ncname}
use Rattle.xml_pieces.proofs.AsciiNames.{ascii, named, ncname_named, ncname_colons}

pub spelled : (bytes : List ℕ) (b : Bool) → IsUtf8 bytes → b ≡ is_ncname (chars bytes) → b ≡ spells_ncname bytes
spelled bytes b utf8 e = rw (is_utf8-from_IsUtf8 bytes utf8) e

by_test : (bytes : List ℕ) (b : Bool) → is_utf8 bytes ≡ b → ¬ IsUtf8 bytes → false ≡ (b && is_ncname (chars bytes))
by_test bytes true e bad = absurd (bad (IsUtf8-from_is_utf8 bytes e))
by_test bytes false e bad = refl

pub unspelled : (bytes : List ℕ) → ¬ IsUtf8 bytes → false ≡ spells_ncname bytes
unspelled bytes bad = by_test bytes (is_utf8 bytes) refl bad

-- ---- of ASCII characters without a colon

pub ascii_spelled : (bytes : List ℕ) → is_ascii_ncname bytes ≡ true → true ≡ spells_ncname bytes
ascii_spelled bytes e =
    let is = ncname_named bytes e in
    let a = ascii bytes is in
    rw (is_utf8-from_IsUtf8 bytes (IsUtf8-from_ascii bytes a), chars-IsAscii bytes a, named bytes is, ncname_colons bytes e) refl
