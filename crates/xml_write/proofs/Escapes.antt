-- Each character that is written, raw or as a reference, is read as itself.
use Rattle.std.proofs.Common.{◌≡◌, ℕ, ◌<◌, ◌≤◌, Bool, true, false, eqb, List, [], ◌∷◌, ◌++◌, length, refl, sym, ap, subst, ◌∙◌, append_assoc, inl, inr, arith}
use Rattle.std.specs.Prelude.{◌⊎◌, chars, encode_utf8, encode_utf8_all}
use Rattle.std.specs.List.{list_all, flat_map}
use Rattle.std.proofs.lemmas.List.{append-nil}
use Rattle.std.proofs.lemmas.List.Concat.{flat_map-append}
use Rattle.std.proofs.lemmas.Str.{encode_ascii, encode_same, encodes-chars}
use Rattle.std.proofs.lemmas.Bool.{eqb-true, eqb-false, cases_lt}
use Rattle.base_texts.specs.Characters.{is_xml_char}
use Rattle.base_texts.specs.WhiteSpace.{is_white_space, spaced}
use Rattle.xml_pieces.specs.Pieces.{has_byte, spaced_ends, Entity, Less, Greater, Ampersand, Apostrophe, Quotation, character_of, rest_of, is_digit, number, IsReference, written_mentions, read_mentions, IsReplaced, IsValue, Exact, IsText, IsCharacter}
use Rattle.xml_pieces.proofs.Tools.{and_true, or_false}
use Rattle.xml_write.specs.Written.{text_escape, value_escape}
use Rattle.xml_write.proofs.Texts.{text_nil, text_append, text_char, text_cons, is_low, low_text, is_high, high_bytes}

-- ---- one byte

-- a byte that is written as a reference to it
pub record IsMentioned (b : ℕ) (written : List ℕ) : Type 0 where
  pub inner : List ℕ
  pub reference : IsReference b inner
  pub written_is : written ≡ 38 ∷ inner
  pub low : b < 128
  pub text : IsText written
  pub no_tag : has_byte 0x3C written ≡ false
  pub no_quote : has_byte 0x22 written ≡ false

low_rest : (e : Entity) → list_all is_low (38 ∷ rest_of e) ≡ true
unfolding is_xml_char
low_rest Less = refl
low_rest Greater = refl
low_rest Ampersand = refl
low_rest Apostrophe = refl
low_rest Quotation = refl

named : (e : Entity) (b : ℕ) → b ≡ character_of e → character_of e < 128 → has_byte 0x3C (38 ∷ rest_of e) ≡ false → has_byte 0x22 (38 ∷ rest_of e) ≡ false → IsMentioned b (38 ∷ rest_of e)
named e b is low no_tag no_quote = record {
  inner = rest_of e;
  reference = inl (record { entity = e; character_is = is; text_is = refl });
  written_is = refl;
  low = subst (λ (x : ℕ). x < 128) (sym is) low;
  text = low_text (38 ∷ rest_of e) (low_rest e);
  no_tag = no_tag;
  no_quote = no_quote;
}

-- the digits of a character reference
record IsDigits (b : ℕ) (digits : List ℕ) : Type 0 where
  some : 0 < length digits
  each : list_all (is_digit 10) digits ≡ true
  number_is : number 10 0 digits ≡ b
  low : b < 128
  good : is_xml_char b ≡ true
  text : list_all is_low (38 ∷ 35 ∷ digits ++ 59 ∷ []) ≡ true
  no_tag : has_byte 0x3C (38 ∷ 35 ∷ digits ++ 59 ∷ []) ≡ false
  no_quote : has_byte 0x22 (38 ∷ 35 ∷ digits ++ 59 ∷ []) ≡ false

numbered : (b c : ℕ) (digits : List ℕ) → b ≡ c → IsDigits c digits → IsMentioned b (38 ∷ 35 ∷ digits ++ 59 ∷ [])
numbered b c digits is d = record {
  inner = 35 ∷ digits ++ 59 ∷ [];
  reference = inr (inl (record { digits = digits; some = d.some; each = d.each; number_is = is ∙ sym d.number_is; is_char = subst (λ (x : ℕ). is_xml_char x ≡ true) (sym is) d.good; text_is = refl }));
  written_is = refl;
  low = subst (λ (x : ℕ). x < 128) (sym is) d.low;
  text = low_text (38 ∷ 35 ∷ digits ++ 59 ∷ []) d.text;
  no_tag = d.no_tag;
  no_quote = d.no_quote;
}

tab_digits : IsDigits 9 (57 ∷ [])
unfolding is_xml_char
tab_digits = record { some = omega arith; each = refl; number_is = refl; low = omega arith; good = refl; text = refl; no_tag = refl; no_quote = refl }

line_digits : IsDigits 10 (49 ∷ 48 ∷ [])
unfolding is_xml_char
line_digits = record { some = omega arith; each = refl; number_is = refl; low = omega arith; good = refl; text = refl; no_tag = refl; no_quote = refl }

return_digits : IsDigits 13 (49 ∷ 51 ∷ [])
unfolding is_xml_char
return_digits = record { some = omega arith; each = refl; number_is = refl; low = omega arith; good = refl; text = refl; no_tag = refl; no_quote = refl }

-- a byte that stands in a text as itself
abbrev pub Plain : ℕ → Type 0
Plain b = (eqb b 38 ≡ false) × (eqb b 60 ≡ false) × (eqb b 62 ≡ false) × (eqb b 13 ≡ false)

text_by : (b : ℕ) (and less greater return : Bool) → eqb b 38 ≡ and → eqb b 60 ≡ less → eqb b 62 ≡ greater → eqb b 13 ≡ return → IsMentioned b (text_escape b) ⊎ (text_escape b ≡ b ∷ []) × Plain b
text_by b true l g r a_is l_is g_is r_is = inl (rw a_is (named Ampersand b (eqb-true b 38 a_is) (omega arith) refl refl))
text_by b false true g r a_is l_is g_is r_is = inl (rw (a_is, l_is) (named Less b (eqb-true b 60 l_is) (omega arith) refl refl))
text_by b false false true r a_is l_is g_is r_is = inl (rw (a_is, l_is, g_is) (named Greater b (eqb-true b 62 g_is) (omega arith) refl refl))
text_by b false false false true a_is l_is g_is r_is = inl (rw (a_is, l_is, g_is, r_is) (numbered b 13 (49 ∷ 51 ∷ []) (eqb-true b 13 r_is) return_digits))
text_by b false false false false a_is l_is g_is r_is = inr (rw (a_is, l_is, g_is, r_is) refl, (a_is, l_is, g_is, r_is))

pub text_cases : (b : ℕ) → IsMentioned b (text_escape b) ⊎ (text_escape b ≡ b ∷ []) × Plain b
text_cases b = text_by b (eqb b 38) (eqb b 60) (eqb b 62) (eqb b 13) refl refl refl refl

-- a byte that stands in a value as itself
abbrev Bare : ℕ → Type 0
Bare b = (eqb b 34 ≡ false) × (eqb b 9 ≡ false) × (eqb b 10 ≡ false) × Plain b

rest_by : (b : ℕ) → eqb b 34 ≡ false → eqb b 9 ≡ false → eqb b 10 ≡ false → IsMentioned b (text_escape b) ⊎ (text_escape b ≡ b ∷ []) × Plain b → IsMentioned b (value_escape b) ⊎ (value_escape b ≡ b ∷ []) × Bare b
rest_by b q t n (inl m) = inl (rw (q, t, n) m)
rest_by b q t n (inr k) = inr (rw (q, t, n) k.0, (q, t, n, k.1))

value_by : (b : ℕ) (quote tab line : Bool) → eqb b 34 ≡ quote → eqb b 9 ≡ tab → eqb b 10 ≡ line → IsMentioned b (value_escape b) ⊎ (value_escape b ≡ b ∷ []) × Bare b
value_by b true t n q_is t_is n_is = inl (rw q_is (named Quotation b (eqb-true b 34 q_is) (omega arith) refl refl))
value_by b false true n q_is t_is n_is = inl (rw (q_is, t_is) (numbered b 9 (57 ∷ []) (eqb-true b 9 t_is) tab_digits))
value_by b false false true q_is t_is n_is = inl (rw (q_is, t_is, n_is) (numbered b 10 (49 ∷ 48 ∷ []) (eqb-true b 10 n_is) line_digits))
value_by b false false false q_is t_is n_is = rest_by b q_is t_is n_is (text_cases b)

value_cases : (b : ℕ) → IsMentioned b (value_escape b) ⊎ (value_escape b ≡ b ∷ []) × Bare b
value_cases b = value_by b (eqb b 34) (eqb b 9) (eqb b 10) refl refl refl

-- ---- values

spaced_same : (b : ℕ) → eqb b 9 ≡ false → eqb b 10 ≡ false → eqb b 13 ≡ false → spaced b ≡ b
unfolding is_white_space
spaced_same b t n r = rw (t, n, r) (grind arith)

replaced_step : (b : ℕ) (bs rest : List ℕ) → IsMentioned b (value_escape b) ⊎ (value_escape b ≡ b ∷ []) × Bare b → IsReplaced rest bs → IsReplaced (value_escape b ++ rest) (b ∷ bs)
replaced_step b bs rest (inl m) r = record {
  first = [];
  mentions = record { character = b; text = m.inner; run = r.first } ∷ r.mentions;
  plain = refl;
  are = (m.reference, r.plain, r.are);
  written_is = ap (λ (x : List ℕ). x ++ rest) m.written_is ∙ ap (λ (x : List ℕ). 38 ∷ m.inner ++ x) r.written_is ∙ sym (append_assoc (38 ∷ m.inner) r.first (written_mentions r.mentions));
  value_is = ap (λ (x : List ℕ). b ∷ x) r.value_is ∙ ap (λ (x : List ℕ). x ++ spaced_ends r.first ++ read_mentions r.mentions) (sym (encode_ascii b m.low));
}
replaced_step b bs rest (inr (is, (q, t, n, (a, l, g, c)))) r = record {
  first = b ∷ r.first;
  mentions = r.mentions;
  plain = rw a r.plain;
  are = r.are;
  written_is = ap (λ (x : List ℕ). x ++ rest) is ∙ ap (λ (x : List ℕ). b ∷ x) r.written_is;
  value_is = rw c (λ i. sym (spaced_same b t n c) i ∷ r.value_is i);
}

value_replaced : (value : List ℕ) → IsReplaced (flat_map value_escape value) value
value_replaced [] = record { first = []; mentions = []; plain = refl; are = tt; written_is = refl; value_is = refl }
value_replaced (b ∷ bs) = replaced_step b bs (flat_map value_escape bs) (value_cases b) (value_replaced bs)

lacks : (a : ℕ) (xs ys : List ℕ) → has_byte a xs ≡ false → has_byte a ys ≡ false → has_byte a (xs ++ ys) ≡ false
lacks a [] ys e f = f
lacks a (x ∷ xs) ys e f = let h = or_false (eqb x a) (has_byte a xs) e in rw h.0 (lacks a xs ys h.1 f)

clean_step : (b : ℕ) (rest : List ℕ) → IsMentioned b (value_escape b) ⊎ (value_escape b ≡ b ∷ []) × Bare b → (has_byte 0x3C rest ≡ false) × (has_byte 0x22 rest ≡ false) → (has_byte 0x3C (value_escape b ++ rest) ≡ false) × (has_byte 0x22 (value_escape b ++ rest) ≡ false)
clean_step b rest (inl m) h = (lacks 0x3C (value_escape b) rest m.no_tag h.0, lacks 0x22 (value_escape b) rest m.no_quote h.1)
clean_step b rest (inr (is, (q, t, n, (a, l, g, c)))) h = rw is (rw l h.0, rw q h.1)

value_clean : (value : List ℕ) → (has_byte 0x3C (flat_map value_escape value) ≡ false) × (has_byte 0x22 (flat_map value_escape value) ≡ false)
value_clean [] = (refl, refl)
value_clean (b ∷ bs) = clean_step b (flat_map value_escape bs) (value_cases b) (value_clean bs)

-- bytes that no escape changes
high_value : (b : ℕ) → is_high b ≡ true → value_escape b ≡ b ∷ []
high_value b e = elim (value_cases b) [ inl m ↦ absurd (let low = m.low in grind (arith, e, low)) | inr k ↦ k.0 ]

high_text : (b : ℕ) → is_high b ≡ true → text_escape b ≡ b ∷ []
high_text b e = elim (text_cases b) [ inl m ↦ absurd (let low = m.low in grind (arith, e, low)) | inr k ↦ k.0 ]

all_same : (f : ℕ → List ℕ) → ((b : ℕ) → is_high b ≡ true → f b ≡ b ∷ []) → (bs : List ℕ) → list_all is_high bs ≡ true → flat_map f bs ≡ bs
all_same f same [] e = refl
all_same f same (b ∷ bs) e =
    let both = and_true (is_high b) (list_all is_high bs) e in
    ap (λ (x : List ℕ). x ++ flat_map f bs) (same b both.0) ∙ ap (λ (x : List ℕ). b ∷ x) (all_same f same bs both.1)

low_value_text : (c : ℕ) → is_xml_char c ≡ true → c < 128 → IsMentioned c (value_escape c) ⊎ (value_escape c ≡ c ∷ []) × Bare c → IsText (value_escape c)
low_value_text c good low (inl m) = m.text
low_value_text c good low (inr k) = subst IsText (sym k.0) (text_cons c [] low good text_nil)

value_char : (c : ℕ) → is_xml_char c ≡ true → IsText (flat_map value_escape (encode_utf8 c))
value_char c good = elim (cases_lt c 128) [
  | inl low ↦ (
      let is : flat_map value_escape (encode_utf8 c) ≡ value_escape c = ap (flat_map value_escape) (encode_ascii c low) ∙ append-nil (value_escape c) in
      subst IsText (sym is) (low_value_text c good low (value_cases c)))
  | inr high ↦ subst IsText (sym (all_same value_escape high_value (encode_utf8 c) (high_bytes c high))) (text_char c good)
]

value_chars : (cs : List ℕ) → list_all is_xml_char cs ≡ true → IsText (flat_map value_escape (encode_utf8_all cs))
value_chars [] e = text_nil
value_chars (c ∷ cs) e =
    let both = and_true (is_xml_char c) (list_all is_xml_char cs) e in
    subst IsText (sym (flat_map-append value_escape (encode_utf8 c) (encode_utf8_all cs))) (text_append (flat_map value_escape (encode_utf8 c)) (flat_map value_escape (encode_utf8_all cs)) (value_char c both.0) (value_chars cs both.1))

pub value_text : (value : List ℕ) → IsText value → IsText (flat_map value_escape value)
value_text value t = subst (λ (x : List ℕ). IsText (flat_map value_escape x)) (encodes-chars value t.utf8) (value_chars (chars value) t.each)

pub value_is : (value : List ℕ) → IsText value → IsValue Exact (flat_map value_escape value) value
value_is value t = record { text = value_text value t; no_tag = (value_clean value).0; gives = value_replaced value }

pub value_quoted : (value : List ℕ) → has_byte 0x22 (flat_map value_escape value) ≡ false
value_quoted value = (value_clean value).1

-- ---- texts

-- a character that stands in a text as itself
pub record IsLiteral (c : ℕ) (written : List ℕ) : Type 0 where
  pub form : IsCharacter c written
  pub not_greater : eqb c 62 ≡ false
  pub not_return : written ≡ 13 ∷ [] → ⊥
  pub text : IsText written

not_return : (c : ℕ) → (c ≡ 13 → ⊥) → encode_utf8 c ≡ 13 ∷ [] → ⊥
not_return c other e = other (encode_same c 13 [] [] (ap (λ (x : List ℕ). x ++ []) (e ∙ sym (encode_ascii 13 (omega arith))))).0

literal : (c : ℕ) → is_xml_char c ≡ true → Plain c → IsLiteral c (encode_utf8 c)
literal c good p = record { form = inl (good, eqb-false c 60 p.1, eqb-false c 38 p.0, eqb-false c 13 p.3, refl); not_greater = p.2; not_return = not_return c (eqb-false c 13 p.3); text = text_char c good }

high_plain : (c : ℕ) → 128 ≤ c → Plain c
high_plain c high = (grind (arith, high), grind (arith, high), grind (arith, high), grind (arith, high))

low_char : (c : ℕ) → is_xml_char c ≡ true → c < 128 → IsMentioned c (text_escape c) ⊎ (text_escape c ≡ c ∷ []) × Plain c → IsMentioned c (text_escape c) ⊎ IsLiteral c (text_escape c)
low_char c good low (inl m) = inl m
low_char c good low (inr k) = inr (subst (IsLiteral c) (encode_ascii c low ∙ sym k.0) (literal c good k.1))

pub char_cases : (c : ℕ) → is_xml_char c ≡ true → IsMentioned c (flat_map text_escape (encode_utf8 c)) ⊎ IsLiteral c (flat_map text_escape (encode_utf8 c))
char_cases c good = elim (cases_lt c 128) [
  | inl low ↦ (
      let is : flat_map text_escape (encode_utf8 c) ≡ text_escape c = ap (flat_map text_escape) (encode_ascii c low) ∙ append-nil (text_escape c) in
      subst (λ (x : List ℕ). IsMentioned c x ⊎ IsLiteral c x) (sym is) (low_char c good low (text_cases c)))
  | inr high ↦ inr (subst (IsLiteral c) (sym (all_same text_escape high_text (encode_utf8 c) (high_bytes c high))) (literal c good (high_plain c high)))
]
