-- Values and CDATA texts are texts of XML characters.
use Rattle.std.proofs.Common.{◌≡◌, ℕ, ◌+◌, ◌<◌, ◌≤◌, Bool, true, false, cond, eqb, List, [], ◌∷◌, ◌++◌, map, refl, sym, ap, subst, ◌∙◌, append_assoc, inl, inr, arith}
use Rattle.std.specs.Prelude.{◌/◌, ◌%◌, chars, encode_utf8, encode_utf8_all, nat_le, nat_lt}
use Rattle.std.specs.List.{list_all}
use Rattle.std.specs.Char.{IsScalar}
use Rattle.std.specs.Str.{all_scalars}
use Rattle.std.proofs.lemmas.List.{append-nil}
use Rattle.std.proofs.lemmas.Str.{chars-nil, chars-append, chars-encodes, chars_past_char, encode_ascii, encodes-chars, IsUtf8-nil, IsUtf8-append, IsUtf8-encode}
use Rattle.std.proofs.Math.Utf8.{encode}
use Rattle.base_texts.specs.Characters.{is_xml_char}
use Rattle.base_texts.specs.WhiteSpace.{is_white_space, spaced}
use Rattle.xml_pieces.specs.Pieces.{starts, line_ends, spaced_ends, IsText, Mention, AreMentions, written_mentions, read_mentions, IsValue, Exact, AreAttributes, IsCData}
use Rattle.xml_pieces.proofs.Tools.{and_true, below_or}
use Rattle.xml_pieces.proofs.Numbers.{xml_scalar}
use Rattle.xml_pieces.proofs.Utf8.{cut_utf8}
use Rattle.xml_pieces.proofs.Names.{list_all-append}
use Rattle.xml_pieces.proofs.PlainLaws.{all-append_left}
use Rattle.xml_pieces.proofs.Facts.{reference_ends, reference_xml}

-- ---- texts put together and cut

text_nil : IsText []
text_nil = record { utf8 = IsUtf8-nil; each = ap (list_all is_xml_char) chars-nil }

text_append : (xs ys : List ℕ) → IsText xs → IsText ys → IsText (xs ++ ys)
text_append xs ys a b = record {
  utf8 = IsUtf8-append xs ys a.utf8 b.utf8;
  each = ap (list_all is_xml_char) (chars-append xs ys a.utf8) ∙ list_all-append is_xml_char (chars xs) (chars ys) a.each b.each;
}

text_char : (c : ℕ) → is_xml_char c ≡ true → IsText (encode_utf8 c)
text_char c e =
    let s : IsScalar c = xml_scalar c e in
    let one : all_scalars (c ∷ []) ≡ true = rw s refl in
    let is : chars (encode_utf8 c) ≡ c ∷ [] = ap chars (sym (append-nil (encode_utf8 c))) ∙ chars-encodes (c ∷ []) one in
    record { utf8 = IsUtf8-encode c s; each = ap (list_all is_xml_char) is ∙ (let r : list_all is_xml_char (c ∷ []) ≡ true = rw e refl in r) }

text_cons : (b : ℕ) (bytes : List ℕ) → b < 128 → is_xml_char b ≡ true → IsText bytes → IsText (b ∷ bytes)
text_cons b bytes low e t = text_append (b ∷ []) bytes (subst IsText (encode_ascii b low) (text_char b e)) t

text_cut : (bytes xs ys : List ℕ) (b : ℕ) → IsText bytes → bytes ≡ xs ++ b ∷ ys → b < 128 → IsText xs × IsText ys
text_cut bytes xs ys b t is low =
    let u = cut_utf8 bytes xs ys b t.utf8 is low in
    let whole : list_all is_xml_char (chars xs ++ chars (b ∷ ys)) ≡ true = ap (list_all is_xml_char) (sym (ap chars is ∙ chars-append xs (b ∷ ys) u.0)) ∙ t.each in
    let parts = all-append_left is_xml_char (chars xs) (chars (b ∷ ys)) whole in
    let at : b ∷ ys ≡ encode_utf8 b ++ ys = ap (λ (x : List ℕ). x ++ ys) (sym (encode_ascii b low)) in
    let tail : list_all is_xml_char (b ∷ chars ys) ≡ true = ap (list_all is_xml_char) (sym (chars_past_char (b ∷ ys) ys b u.1 at)) ∙ parts.1 in
    (record { utf8 = u.0; each = parts.0 }, record { utf8 = u.2; each = (and_true (is_xml_char b) (list_all is_xml_char (chars ys)) tail).1 })

-- ---- bytes of characters behind ASCII stay

abbrev is_high : ℕ → Bool
is_high b = nat_le 128 b

lead : (k x : ℕ) → 128 ≤ k → is_high (k + x) ≡ true
lead k x le = let more : 128 ≤ k + x = omega (arith, le) in grind (arith, more)

high_cond : (w x : Bool) (c : ℕ) → list_all is_high (cond w ((192 + c / 64) ∷ (128 + c % 64) ∷ []) (cond x ((224 + c / 4096) ∷ (128 + c / 64 % 64) ∷ (128 + c % 64) ∷ []) ((240 + c / 262144) ∷ (128 + c / 4096 % 64) ∷ (128 + c / 64 % 64) ∷ (128 + c % 64) ∷ []))) ≡ true
high_cond true x c = rw (lead 192 (c / 64) (omega arith), lead 128 (c % 64) (omega arith)) refl
high_cond false true c = rw (lead 224 (c / 4096) (omega arith), lead 128 (c / 64 % 64) (omega arith), lead 128 (c % 64) (omega arith)) refl
high_cond false false c = rw (lead 240 (c / 262144) (omega arith), lead 128 (c / 4096 % 64) (omega arith), lead 128 (c / 64 % 64) (omega arith), lead 128 (c % 64) (omega arith)) refl

high_bytes : (c : ℕ) → 128 ≤ c → list_all is_high (encode_utf8 c) ≡ true
unfolding encode
high_bytes c ge = let apart : nat_lt c 128 ≡ false = grind (arith, ge) in rw apart (high_cond (nat_lt c 2048) (nat_lt c 65536) c)

high_no_cr : (b : ℕ) → is_high b ≡ true → eqb b 0xD ≡ false
high_no_cr b e = grind (arith, e)

high_spaced : (b : ℕ) → is_high b ≡ true → spaced b ≡ b
unfolding is_white_space
high_spaced b e = grind (arith, e)

lines_past : (xs ys : List ℕ) → list_all is_high xs ≡ true → line_ends (xs ++ ys) ≡ xs ++ line_ends ys
lines_past [] ys e = refl
lines_past (b ∷ xs) ys e =
    let both = and_true (is_high b) (list_all is_high xs) e in
    rw (high_no_cr b both.0) (ap (λ (x : List ℕ). b ∷ x) (lines_past xs ys both.1))

spaces_past : (xs ys : List ℕ) → list_all is_high xs ≡ true → map spaced (xs ++ ys) ≡ xs ++ map spaced ys
spaces_past [] ys e = refl
spaces_past (b ∷ xs) ys e =
    let both = and_true (is_high b) (list_all is_high xs) e in
    λ i. high_spaced b both.0 i ∷ spaces_past xs ys both.1 i

-- ---- line ends and white space

line_feed : is_xml_char 0xA ≡ true
unfolding is_xml_char
line_feed = refl

and_xml : is_xml_char 0x26 ≡ true
unfolding is_xml_char
and_xml = refl

a_space : is_xml_char 0x20 ≡ true
unfolding is_xml_char
a_space = refl

chosen_text : (v w : Bool) (b : ℕ) (t : List ℕ) → b < 128 → is_xml_char b ≡ true → IsText t → IsText (cond v (cond w t (0xA ∷ t)) (b ∷ t))
chosen_text true true b t low e i = i
chosen_text true false b t low e i = text_cons 0xA t (omega arith) line_feed i
chosen_text false w b t low e i = text_cons b t low e i

line_step : (c : ℕ) (rest : List ℕ) → is_xml_char c ≡ true → IsText (line_ends rest) → IsText (line_ends (encode_utf8 c ++ rest))
line_step c rest e t = elim (below_or c 128) [
  | inl low ↦ subst (λ (x : List ℕ). IsText (line_ends (x ++ rest))) (sym (encode_ascii c low)) (chosen_text (eqb c 0xD) (starts (0xA ∷ []) rest) c (line_ends rest) low e t)
  | inr high ↦ subst IsText (sym (lines_past (encode_utf8 c) rest (high_bytes c high))) (text_append (encode_utf8 c) (line_ends rest) (text_char c e) t)
]

lines_of : (cs : List ℕ) → list_all is_xml_char cs ≡ true → IsText (line_ends (encode_utf8_all cs))
lines_of [] e = text_nil
lines_of (c ∷ cs) e =
    let both = and_true (is_xml_char c) (list_all is_xml_char cs) e in
    line_step c (encode_utf8_all cs) both.0 (lines_of cs both.1)

lines_text : (bytes : List ℕ) → IsText bytes → IsText (line_ends bytes)
lines_text bytes t = subst (λ (x : List ℕ). IsText (line_ends x)) (encodes-chars bytes t.utf8) (lines_of (chars bytes) t.each)

spaced_text : (v : Bool) (b : ℕ) (t : List ℕ) → b < 128 → is_xml_char b ≡ true → IsText t → IsText (cond v 0x20 b ∷ t)
spaced_text true b t low e i = text_cons 0x20 t (omega arith) a_space i
spaced_text false b t low e i = text_cons b t low e i

space_step : (c : ℕ) (rest : List ℕ) → is_xml_char c ≡ true → IsText (map spaced rest) → IsText (map spaced (encode_utf8 c ++ rest))
space_step c rest e t = elim (below_or c 128) [
  | inl low ↦ subst (λ (x : List ℕ). IsText (map spaced (x ++ rest))) (sym (encode_ascii c low)) (spaced_text (is_white_space c) c (map spaced rest) low e t)
  | inr high ↦ subst IsText (sym (spaces_past (encode_utf8 c) rest (high_bytes c high))) (text_append (encode_utf8 c) (map spaced rest) (text_char c e) t)
]

spaces_of : (cs : List ℕ) → list_all is_xml_char cs ≡ true → IsText (map spaced (encode_utf8_all cs))
spaces_of [] e = text_nil
spaces_of (c ∷ cs) e =
    let both = and_true (is_xml_char c) (list_all is_xml_char cs) e in
    space_step c (encode_utf8_all cs) both.0 (spaces_of cs both.1)

spaced_ends_text : (bytes : List ℕ) → IsText bytes → IsText (spaced_ends bytes)
spaced_ends_text bytes t =
    let l = lines_text bytes t in
    subst (λ (x : List ℕ). IsText (map spaced x)) (encodes-chars (line_ends bytes) l.utf8) (spaces_of (chars (line_ends bytes)) l.each)

-- ---- values and CDATA texts

run_cut : (run : List ℕ) (ms : List Mention) → IsText (run ++ written_mentions ms) → IsText run × IsText (written_mentions ms)
run_cut run [] t = (subst IsText (append-nil run) t, text_nil)
run_cut run (m ∷ ms) t =
    let rest = m.text ++ m.run ++ written_mentions ms in
    let c = text_cut (run ++ 0x26 ∷ rest) run rest 0x26 t refl (omega arith) in
    (c.0, text_cons 0x26 rest (omega arith) and_xml c.1)

mentions_text : (ms : List Mention) → AreMentions ms → IsText (written_mentions ms) → IsText (read_mentions ms)
mentions_text [] are t = text_nil
mentions_text (m ∷ ms) are t =
    let e = reference_ends m.character m.text are.0 in
    let rest = m.run ++ written_mentions ms in
    let whole : written_mentions (m ∷ ms) ≡ (0x26 ∷ e.0) ++ 59 ∷ rest = ap (λ (x : List ℕ). 0x26 ∷ x ++ m.run ++ written_mentions ms) e.1 ∙ (simp append_assoc) in
    let behind = (text_cut (written_mentions (m ∷ ms)) (0x26 ∷ e.0) rest 59 t whole (omega arith)).1 in
    let parts = run_cut m.run ms behind in
    text_append (encode_utf8 m.character ++ spaced_ends m.run) (read_mentions ms)
    (text_append (encode_utf8 m.character) (spaced_ends m.run) (text_char m.character (reference_xml m.character m.text are.0)) (spaced_ends_text m.run parts.0))
    (mentions_text ms are.2 parts.1)

-- a value is a text of XML characters
pub value_fine : (written value : List ℕ) → IsValue Exact written value → IsText value
value_fine written value v =
    let r = v.gives in
    let parts = run_cut r.first r.mentions (subst IsText r.written_is v.text) in
    subst IsText (sym r.value_is) (text_append (spaced_ends r.first) (read_mentions r.mentions) (spaced_ends_text r.first parts.0) (mentions_text r.mentions r.are parts.1))

-- each value is a text of XML characters
abbrev pub AreFine : List (List ℕ × List ℕ) → Type 0
AreFine [] = Unit
AreFine (a ∷ attributes) = IsText a.1 × AreFine attributes

pub attributes_fine : (attributes : List (List ℕ × List ℕ)) (text : List ℕ) → AreAttributes Exact attributes text → AreFine attributes
attributes_fine [] text are = tt
attributes_fine (a ∷ attributes) text are = (value_fine are.2.written a.1 are.2.valued, attributes_fine attributes are.1 are.3)

-- the text of a CDATA section is a text of XML characters
pub cdata_fine : (value text : List ℕ) → IsCData value text → IsText value
cdata_fine value text c = subst IsText (sym c.value_is) (lines_text c.inner c.is_text)
