-- Texts of XML characters, put together of parts.
use Rattle.std.proofs.Common.{◌≡◌, ℕ, ◌+◌, ◌<◌, ◌≤◌, Bool, true, false, List, [], ◌∷◌, ◌++◌, refl, sym, ap, subst, ◌∙◌, arith}
use Rattle.std.specs.Prelude.{◌&&◌, ◌/◌, ◌%◌, chars, encode_utf8, nat_le, nat_lt}
use Rattle.std.specs.List.{list_all}
use Rattle.std.specs.Char.{IsScalar}
use Rattle.std.specs.Str.{all_scalars, is_utf8}
use Rattle.std.proofs.lemmas.List.{append-nil}
use Rattle.std.proofs.lemmas.Str.{chars-nil, chars-append, chars-encodes, encode_ascii, IsUtf8-nil, IsUtf8-append, IsUtf8-encode, IsUtf8-from_is_utf8}
use Rattle.std.proofs.Math.Utf8.{encode}
use Rattle.std.proofs.Common.{cond}
use Rattle.base_texts.specs.Characters.{is_xml_char}
use Rattle.base_texts.specs.Limits.{has_xml_chars}
use Rattle.xml_pieces.specs.Pieces.{IsText}
use Rattle.xml_pieces.proofs.Tools.{and_true}
use Rattle.xml_pieces.proofs.Numbers.{xml_scalar}
use Rattle.xml_pieces.proofs.Names.{list_all-append}

pub text_nil : IsText []
text_nil = record { utf8 = IsUtf8-nil; each = ap (list_all is_xml_char) chars-nil }

pub text_append : (xs ys : List ℕ) → IsText xs → IsText ys → IsText (xs ++ ys)
text_append xs ys a b = record {
  utf8 = IsUtf8-append xs ys a.utf8 b.utf8;
  each = ap (list_all is_xml_char) (chars-append xs ys a.utf8) ∙ list_all-append is_xml_char (chars xs) (chars ys) a.each b.each;
}

pub text_char : (c : ℕ) → is_xml_char c ≡ true → IsText (encode_utf8 c)
text_char c e =
    let s : IsScalar c = xml_scalar c e in
    let one : all_scalars (c ∷ []) ≡ true = rw s refl in
    let is : chars (encode_utf8 c) ≡ c ∷ [] = ap chars (sym (append-nil (encode_utf8 c))) ∙ chars-encodes (c ∷ []) one in
    record { utf8 = IsUtf8-encode c s; each = ap (list_all is_xml_char) is ∙ (let r : list_all is_xml_char (c ∷ []) ≡ true = rw e refl in r) }

pub text_cons : (b : ℕ) (bytes : List ℕ) → b < 128 → is_xml_char b ≡ true → IsText bytes → IsText (b ∷ bytes)
text_cons b bytes low e t = text_append (b ∷ []) bytes (subst IsText (encode_ascii b low) (text_char b e)) t

-- a character of ASCII that XML has
abbrev pub is_low : ℕ → Bool
is_low b = nat_lt b 128 && is_xml_char b

low_is : (b : ℕ) → nat_lt b 128 ≡ true → b < 128
low_is b e = grind (arith, e)

pub low_text : (bytes : List ℕ) → list_all is_low bytes ≡ true → IsText bytes
low_text [] e = text_nil
low_text (b ∷ bs) e =
    let both = and_true (is_low b) (list_all is_low bs) e in
    let parts = and_true (nat_lt b 128) (is_xml_char b) both.0 in
    text_cons b bs (low_is b parts.0) parts.1 (low_text bs both.1)

-- ---- bytes of characters behind ASCII

abbrev pub is_high : ℕ → Bool
is_high b = nat_le 128 b

lead : (k x : ℕ) → 128 ≤ k → is_high (k + x) ≡ true
lead k x le = let more : 128 ≤ k + x = omega (arith, le) in grind (arith, more)

high_cond : (w x : Bool) (c : ℕ) → list_all is_high (cond w ((192 + c / 64) ∷ (128 + c % 64) ∷ []) (cond x ((224 + c / 4096) ∷ (128 + c / 64 % 64) ∷ (128 + c % 64) ∷ []) ((240 + c / 262144) ∷ (128 + c / 4096 % 64) ∷ (128 + c / 64 % 64) ∷ (128 + c % 64) ∷ []))) ≡ true
high_cond true x c = rw (lead 192 (c / 64) (omega arith), lead 128 (c % 64) (omega arith)) refl
high_cond false true c = rw (lead 224 (c / 4096) (omega arith), lead 128 (c / 64 % 64) (omega arith), lead 128 (c % 64) (omega arith)) refl
high_cond false false c = rw (lead 240 (c / 262144) (omega arith), lead 128 (c / 4096 % 64) (omega arith), lead 128 (c / 64 % 64) (omega arith), lead 128 (c % 64) (omega arith)) refl

pub high_bytes : (c : ℕ) → 128 ≤ c → list_all is_high (encode_utf8 c) ≡ true
unfolding encode
high_bytes c ge = let apart : nat_lt c 128 ≡ false = grind (arith, ge) in rw apart (high_cond (nat_lt c 2048) (nat_lt c 65536) c)

-- what a tree of items keeps of a text
pub text_of : (text : List ℕ) → has_xml_chars text ≡ true → IsText text
text_of text sound =
    let both = and_true (is_utf8 text) (list_all is_xml_char (chars text)) sound in
    record { utf8 = IsUtf8-from_is_utf8 text both.0; each = both.1 }
