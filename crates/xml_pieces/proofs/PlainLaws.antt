-- Runs of plain characters.
use Rattle.std.proofs.Common.{◌≡◌, ◌≢◌, ℕ, ◌<◌, ◌≤◌, Bool, true, false, List, [], ◌∷◌, ◌++◌, length, take, drop, get_or, Some, refl, sym, ap, subst, ◌∙◌, inl, inr, arith}
use Rattle.std.specs.Prelude.{◌⊎◌, ◌||◌, ◌==◌, not, IsUtf8, IsCharBoundary, chars, encode_utf8, encode_utf8_all}
use Rattle.std.specs.Char.{IsScalar}
use Rattle.std.specs.Str.{all_scalars}
use Rattle.std.specs.List.{prefix_len, list_all}
use Rattle.std.proofs.lemmas.List.Sums.{prefix_len-le-length, prefix_len_stops}
use Rattle.std.proofs.lemmas.Str.{IsUtf8-take, IsUtf8-drop, encode_ascii, encodes-chars, scalars-chars}
use Rattle.std.proofs.Math.Utf8.{encode, scalar, scalar_cases}
use Rattle.base_texts.specs.Characters.{is_xml_char}
use Rattle.xml_pieces.specs.Pieces.{Character}
use Rattle.xml_pieces.specs.Reading.{piece_at}
use Rattle.xml_pieces.specs.Reasons.{is_plain, IsPlainRun, is_plain_byte}
use Rattle.xml_pieces.proofs.Tools.{and_true, below, implied, below_or, tells}
use Rattle.xml_pieces.proofs.Runs.{all_front}
use Rattle.xml_pieces.proofs.PieceLaws.{literal_again}

high_stop : (b : ℕ) → is_plain_byte b ≡ false → 128 ≤ b → 192 ≤ b
unfolding is_plain_byte
high_stop b e ge = grind (arith, e, ge)

boundary_go : (bytes : List ℕ) (n : ℕ) → n ≤ length bytes → (n < length bytes → is_plain_byte (get_or bytes n 0) ≡ false) → IsCharBoundary bytes n
boundary_go bytes n le stops = (le, λ lt ge. high_stop (get_or bytes n 0) (stops lt) ge)

run_boundary : (bytes : List ℕ) → IsCharBoundary bytes (prefix_len is_plain_byte bytes)
run_boundary bytes = boundary_go bytes (prefix_len is_plain_byte bytes) (prefix_len-le-length is_plain_byte bytes) (prefix_len_stops is_plain_byte bytes 0)

pub all-append_left : (p : ℕ → Bool) (xs ys : List ℕ) → list_all p (xs ++ ys) ≡ true → (list_all p xs ≡ true) × (list_all p ys ≡ true)
all-append_left p [] ys e = (refl, e)
all-append_left p (x ∷ xs) ys e =
    let both = and_true (p x) (list_all p (xs ++ ys)) e in
    let more = all-append_left p xs ys both.1 in
    (rw both.0 more.0, more.1)

plain_table : below 128 (λ x. not (is_plain_byte x) || is_plain x) ≡ true
unfolding is_plain_byte is_xml_char
plain_table = refl

xml_low : (c : ℕ) → 128 ≤ c → c < 55296 → is_xml_char c ≡ true
unfolding is_xml_char
xml_low c ge lt = grind (arith, ge, lt)

xml_middle : (c : ℕ) → 57344 ≤ c → c < 65534 → is_xml_char c ≡ true
unfolding is_xml_char
xml_middle c ge lt = grind (arith, ge, lt)

xml_top : (c : ℕ) → 65536 ≤ c → c < 1114112 → is_xml_char c ≡ true
unfolding is_xml_char
xml_top c ge lt = grind (arith, ge, lt)

two_between : (c : ℕ) → 65534 ≤ c → c < 65536 → (c ≡ 0xFFFE) ⊎ (c ≡ 0xFFFF)
two_between c ge lt = elim (below_or c 65535) [ inl less ↦ inl (omega (arith, less, ge)) | inr more ↦ inr (omega (arith, more, lt)) ]

clash : (c : ℕ) → is_xml_char c ≡ true → is_xml_char c ≡ false → true ≡ false
clash c a b = sym a ∙ b

other_high : (c : ℕ) → IsScalar c → 128 ≤ c → is_xml_char c ≡ false → (c ≡ 0xFFFE) ⊎ (c ≡ 0xFFFF)
other_high c s ge e = elim (scalar_cases c s) [
  | inl low ↦ absurd (let never_so = clash c (xml_low c ge low) e in cc)
  | inr h ↦ elim (below_or c 65534) [
    | inl less ↦ absurd (let never_so = clash c (xml_middle c h.0 less) e in cc)
    | inr from ↦ elim (below_or c 65536) [
      | inl lt ↦ two_between c from lt
      | inr top ↦ absurd (let never_so = clash c (xml_top c top h.1) e in cc)
    ]
  ]
]

bad_bytes : (c : ℕ) → (c ≡ 0xFFFE) ⊎ (c ≡ 0xFFFF) → list_all is_plain_byte (encode_utf8 c) ≡ false
unfolding is_plain_byte encode
bad_bytes c (inl e) = ap (λ (x : ℕ). list_all is_plain_byte (encode_utf8 x)) e
bad_bytes c (inr e) = ap (λ (x : ℕ). list_all is_plain_byte (encode_utf8 x)) e

high_xml : (c : ℕ) → IsScalar c → 128 ≤ c → list_all is_plain_byte (encode_utf8 c) ≡ true → is_xml_char c ≡ true
high_xml c s ge e = elim (tells (is_xml_char c)) [
  | inl h ↦ h
  | inr h ↦ absurd (let never_so : true ≡ false = sym e ∙ bad_bytes c (other_high c s ge h) in cc)
]

high_plain : (c : ℕ) → 128 ≤ c → is_xml_char c ≡ true → is_plain c ≡ true
high_plain c ge e = grind (arith, e, ge)

plain_char : (c : ℕ) → IsScalar c → list_all is_plain_byte (encode_utf8 c) ≡ true → is_plain c ≡ true
plain_char c s e = elim (below_or c 128) [
  | inl lt ↦ (
      let one : list_all is_plain_byte (c ∷ []) ≡ true = subst (λ (x : List ℕ). list_all is_plain_byte x ≡ true) (encode_ascii c lt) e in
      implied 128 is_plain_byte is_plain c lt plain_table (and_true (is_plain_byte c) true one).0)
  | inr ge ↦ high_plain c ge (high_xml c s ge e)
]

pub scalar_cons : (c : ℕ) (cs : List ℕ) → all_scalars (c ∷ cs) ≡ true → IsScalar c × (all_scalars cs ≡ true)
scalar_cons c cs e = and_true (scalar c) (all_scalars cs) e

plain_chars : (cs : List ℕ) → all_scalars cs ≡ true → list_all is_plain_byte (encode_utf8_all cs) ≡ true → list_all is_plain cs ≡ true
plain_chars [] s e = refl
plain_chars (c ∷ cs) s e =
    let both = all-append_left is_plain_byte (encode_utf8 c) (encode_utf8_all cs) e in
    let scalar = scalar_cons c cs s in
    rw (plain_char c scalar.0 both.0) (plain_chars cs scalar.1 both.1)

pub run_is_plain : (bytes : List ℕ) → IsUtf8 bytes → IsPlainRun (take (prefix_len is_plain_byte bytes) bytes) × IsUtf8 (drop (prefix_len is_plain_byte bytes) bytes)
run_is_plain bytes u =
    let n = prefix_len is_plain_byte bytes in
    let run = take n bytes in
    let front : IsUtf8 run = IsUtf8-take bytes n u (run_boundary bytes) in
    let each : list_all is_plain_byte (encode_utf8_all (chars run)) ≡ true = subst (λ (x : List ℕ). list_all is_plain_byte x ≡ true) (sym (encodes-chars run front)) (all_front is_plain_byte bytes) in
    (record { utf8 = front; each = plain_chars (chars run) (scalars-chars run front) each }, IsUtf8-drop bytes n u (run_boundary bytes))

plain_apart : (c a : ℕ) → is_plain c ≡ true → not (a == 60 || a == 38 || a == 62 || a == 93 || a == 13) ≡ false → c ≢ a
plain_apart c a e stop is =
    let other = (and_true (is_xml_char c) (not (c == 60 || c == 38 || c == 62 || c == 93 || c == 13)) e).1 in
    let same : not (c == 60 || c == 38 || c == 62 || c == 93 || c == 13) ≡ false = ap (λ (x : ℕ). not (x == 60 || x == 38 || x == 62 || x == 93 || x == 13)) is ∙ stop in
    let clash : true ≡ false = sym other ∙ same in
    absurd cc

-- a plain character is a piece, whatever follows
pub plain_piece : (c : ℕ) (rest : List ℕ) → is_plain c ≡ true → IsUtf8 (encode_utf8 c ++ rest) → piece_at (encode_utf8 c ++ rest) ≡ Some (Character c, rest)
plain_piece c rest e u =
    let both = and_true (is_xml_char c) (not (c == 60 || c == 38 || c == 62 || c == 93 || c == 13)) e in
    let apart : (c ≢ 60) × (c ≢ 38) × (c ≢ 13) = (plain_apart c 60 e refl, plain_apart c 38 e refl, plain_apart c 13 e refl) in
    literal_again c rest both.0 apart.0 apart.1 apart.2 u
