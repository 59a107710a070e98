-- Names, read and read again.
use Rattle.std.proofs.Common.{◌≡◌, ℕ, ◌+◌, ◌<◌, ◌≤◌, Bool, true, false, cond, List, [], ◌∷◌, ◌++◌, length, take, drop, Some, refl, sym, subst, ◌∙◌, inl, inr, arith}
use Rattle.std.specs.Prelude.{◌⊎◌, ◌||◌, not, IsUtf8, chars, nat_lt, ◌/◌, ◌%◌, encode_utf8, encode_utf8_all}
use Rattle.std.specs.List.{prefix_len, list_all}
use Rattle.std.proofs.lemmas.List.{take_at, drop_at, take-append-drop}
use Rattle.std.proofs.lemmas.Str.{encodes-chars, encode_ascii, chars-nil}
use Rattle.base_texts.specs.Characters.{is_name, is_name_start, is_name_char}
use Rattle.xml_pieces.specs.Pieces.{IsName}
use Rattle.xml_pieces.specs.Reading.{is_name_byte, name_at}
use Rattle.xml_pieces.proofs.Tools.{pairs, only_some, and_true, below_or, below, implied}
use Rattle.std.proofs.Math.Utf8.{encode}
use Rattle.xml_pieces.proofs.Runs.{prefix_again}
use Rattle.xml_pieces.proofs.Utf8.{name_utf8}

pub name_takes : (bytes name rest : List ℕ) → name_at bytes ≡ Some (name, rest) → IsUtf8 bytes → IsName name × (bytes ≡ name ++ rest)
unfolding name_at
name_takes bytes name rest e u =
    let n = prefix_len is_name_byte bytes in
    let o = only_some (is_name (chars (take n bytes))) (Some (take n bytes, drop n bytes)) (name, rest) e in
    let both = pairs (take n bytes, drop n bytes) (name, rest) o.1 in (
      record { utf8 = subst IsUtf8 both.0 (name_utf8 bytes u).0; named = subst (λ (x : List ℕ). is_name (chars x) ≡ true) both.0 o.0 },
      sym (take-append-drop n bytes) ∙ (λ i. both.0 i ++ both.1 i),
    )

pub list_all-append : (p : ℕ → Bool) (xs ys : List ℕ) → list_all p xs ≡ true → list_all p ys ≡ true → list_all p (xs ++ ys) ≡ true
list_all-append p [] ys a b = b
list_all-append p (x ∷ xs) ys a b = let both = and_true (p x) (list_all p xs) a in rw both.0 (list_all-append p xs ys both.1 b)

high : (b : ℕ) → 128 ≤ b → is_name_byte b ≡ true
unfolding is_name_byte
high b le = grind (arith, le)

lead : (k x : ℕ) → 128 ≤ k → is_name_byte (k + x) ≡ true
lead k x le = high (k + x) (omega (arith, le))

-- each byte of a character behind ASCII is one of a name
high_cond : (w x : Bool) (c : ℕ) → list_all is_name_byte (cond w ((192 + c / 64) ∷ (128 + c % 64) ∷ []) (cond x ((224 + c / 4096) ∷ (128 + c / 64 % 64) ∷ (128 + c % 64) ∷ []) ((240 + c / 262144) ∷ (128 + c / 4096 % 64) ∷ (128 + c / 64 % 64) ∷ (128 + c % 64) ∷ []))) ≡ true
high_cond true x c = rw (lead 192 (c / 64) (omega arith), lead 128 (c % 64) (omega arith)) refl
high_cond false true c = rw (lead 224 (c / 4096) (omega arith), lead 128 (c / 64 % 64) (omega arith), lead 128 (c % 64) (omega arith)) refl
high_cond false false c = rw (lead 240 (c / 262144) (omega arith), lead 128 (c / 4096 % 64) (omega arith), lead 128 (c / 64 % 64) (omega arith), lead 128 (c % 64) (omega arith)) refl

high_bytes : (c : ℕ) → 128 ≤ c → list_all is_name_byte (encode_utf8 c) ≡ true
unfolding encode
high_bytes c ge = let apart : nat_lt c 128 ≡ false = grind (arith, ge) in rw apart (high_cond (nat_lt c 2048) (nat_lt c 65536) c)

name_table : below 128 (λ x. not (is_name_char x) || is_name_byte x) ≡ true
unfolding is_name_byte is_name_char is_name_start
name_table = refl

low_byte : (c : ℕ) → c < 128 → is_name_char c ≡ true → is_name_byte c ≡ true
low_byte c lt e = implied 128 is_name_char is_name_byte c lt name_table e

tells_low : (c : ℕ) → (c < 128) ⊎ (128 ≤ c)
tells_low c = below_or c 128

char_bytes : (c : ℕ) → is_name_char c ≡ true → list_all is_name_byte (encode_utf8 c) ≡ true
char_bytes c e = elim (tells_low c) [
  | inl lt ↦ rw (encode_ascii c lt, low_byte c lt e) refl
  | inr ge ↦ high_bytes c ge
]

chars_bytes : (cs : List ℕ) → list_all is_name_char cs ≡ true → list_all is_name_byte (encode_utf8_all cs) ≡ true
chars_bytes [] e = refl
chars_bytes (c ∷ cs) e =
    let both = and_true (is_name_char c) (list_all is_name_char cs) e in
    list_all-append is_name_byte (encode_utf8 c) (encode_utf8_all cs) (char_bytes c both.0) (chars_bytes cs both.1)

start_char : (c : ℕ) → is_name_start c ≡ true → is_name_char c ≡ true
unfolding is_name_char is_name_start
start_char c e = rw e refl

name_chars : (cs : List ℕ) → is_name cs ≡ true → list_all is_name_char cs ≡ true
name_chars [] e = absurd cc
name_chars (c ∷ cs) e = let both = and_true (is_name_start c) (list_all is_name_char cs) e in rw (start_char c both.0) both.1

pub name_bytes : (name : List ℕ) → IsName name → list_all is_name_byte name ≡ true
name_bytes name n = subst (λ (x : List ℕ). list_all is_name_byte x ≡ true) (encodes-chars name n.utf8) (chars_bytes (chars name) (name_chars (chars name) n.named))

pub name_again : (name rest : List ℕ) (b : ℕ) → IsName name → is_name_byte b ≡ false → name_at (name ++ b ∷ rest) ≡ Some (name, b ∷ rest)
unfolding name_at
name_again name rest b n stop =
    let k = prefix_again is_name_byte name rest b (name_bytes name n) stop in
    rw (k, take_at name (b ∷ rest) (length name) refl, drop_at name (b ∷ rest) (length name) refl, n.named) refl

pub name_some : (name : List ℕ) → IsName name → 1 ≤ length name
name_some [] n = absurd (let e : is_name [] ≡ true = subst (λ (x : List ℕ). is_name x ≡ true) chars-nil n.named in cc)
name_some (b ∷ name) n = omega arith
