-- What a type accepts is spelled in XML characters.
use Rattle.std.proofs.Common.{◌≡◌, ℕ, zero, suc, ◌<◌, ◌≤◌, ◌^◌, Bool, true, false, ◌&&◌, List, [], ◌∷◌, ◌++◌, take, drop, length, get_or, refl, sym, ap, ◌∙◌, subst, arith, Option, Ok, inl, inr}
use Rattle.std.specs.Prelude.{nat_le, nat_lt, ℤ, pos, negsuc, map, position, bytes_eq, IsUtf8, chars}
use Rattle.std.specs.List.{join_with_byte, list_all, All}
use Rattle.std.specs.Str.{IsAscii, IsCharBoundary}
use Rattle.std.specs.Fmt.{decimal, signed_decimal}
use Rattle.std.proofs.lemmas.Bool.{ltb-true, leb-true}
use Rattle.std.proofs.lemmas.Bool.Decides.{nat_tests}
use Rattle.std.proofs.lemmas.Fmt.{decimal_is_IsNumeral_wide}
use Rattle.std.proofs.lemmas.List.Elements.{All-nil, All-cons, All-head, All-tail}
use Rattle.std.proofs.lemmas.List.Folds.{list_all-append}
use Rattle.std.proofs.lemmas.List.Quantifiers.{position-Some}
use Rattle.std.proofs.lemmas.Str.{chars-nil, chars-append, chars-IsAscii, chars_past_char, encode_ascii, IsUtf8-take, IsUtf8-drop, IsCharBoundary-before_ascii, IsCharBoundary-after_ascii}
use Rattle.std.proofs.lemmas.Str.Ascii.{IsAscii-nil, IsAscii-cons}
use Rattle.base_texts.specs.Digits.{is_digit, is_numeral}
use Rattle.base_trees.specs.Rose.{Rose, label_of, kids_of}
use Rattle.base_trees.proofs.Roses.{kids_of-node}
use Rattle.base_texts.specs.declared.white_space.WhiteSpace.{WhiteSpace}
use Rattle.base_texts.specs.declared.white_space.WhiteSpace.TheVariants.{Collapse}
use Rattle.base_texts.specs.WhiteSpace.{treated, words_of}
use Rattle.base_texts.specs.Characters.{is_xml_char}
use Rattle.simple_types.specs.declared.simples.Class.{Class}
use Rattle.simple_types.specs.declared.labels.ValueLabel.{ValueLabel}
use Rattle.simple_types.specs.declared.labels.ValueLabel.TheVariants as label
use Rattle.simple_types.specs.Space.{Space, Spaces, none, more, Booleans, Wholes, Numbers, Words, Characters, ListOf, UnionOf, count_members}
use Rattle.simple_types.specs.Sound.{Sound, AreSound, AreWords}
use Rattle.simple_types.specs.Lexical.{boolean_of, boolean_text, whole_number, is_128_bits, in_class, is_at_most}
use Rattle.simple_types.specs.Reading.{Reading, Taking, read_characters, read_each, has_characters, spelled_word, reads, taken_by, spelled, spelled_by, Holds}
use Rattle.simple_types.proofs.Again.{is_whole, is_number, is_item, is_read, is_list, is_boolean, characters_spelled}
use Rattle.simple_types.proofs.Decimals.{numeral_from, short}
use Rattle.simple_types.proofs.OwnSpellings.{which, settles_so}
use Rattle.simple_types.proofs.Readings.{reads-ListOf, reads-UnionOf}
use Rattle.simple_types.proofs.Spellings.{spelled-ListOf}
use Rattle.simple_types.proofs.WholeNumbers.{and-first, and-second}

-- a text of XML characters, where it is UTF-8
abbrev pub IsXml : List ℕ → Type 0
IsXml text = IsUtf8 text → list_all is_xml_char (chars text) ≡ true

-- ---- texts of ASCII

ascii_xml : (text : List ℕ) → IsAscii text → list_all is_xml_char text ≡ true → IsXml text
ascii_xml text a e u = rw (chars-IsAscii text a) e

digit_low : (c : ℕ) → is_digit c ≡ true → c < 128
digit_low c e = let most : c ≤ 57 = leb-true c 57 (and-second (nat_le 48 c) (nat_le c 57) e) in omega (arith, most)

digit_xml : (c : ℕ) → is_digit c ≡ true → is_xml_char c ≡ true
unfolding is_xml_char
digit_xml c e = grind (arith, nat_tests, e)

digits_low : (cs : List ℕ) → list_all is_digit cs ≡ true → IsAscii cs
digits_low [] e = IsAscii-nil
digits_low (c ∷ cs) e = IsAscii-cons c cs (digit_low c (and-first (is_digit c) (list_all is_digit cs) e)) (digits_low cs (and-second (is_digit c) (list_all is_digit cs) e))

digits_xml : (cs : List ℕ) → list_all is_digit cs ≡ true → list_all is_xml_char cs ≡ true
digits_xml [] e = refl
digits_xml (c ∷ cs) e =
    rw (digit_xml c (and-first (is_digit c) (list_all is_digit cs) e), digits_xml cs (and-second (is_digit c) (list_all is_digit cs) e)) refl

numeral_digits : (cs : List ℕ) → is_numeral cs ≡ true → list_all is_digit cs ≡ true
numeral_digits [] e = refl
numeral_digits (c ∷ cs) e = e

minus_xml : is_xml_char 45 ≡ true
unfolding is_xml_char
minus_xml = refl

decimal_xml : (z : ℤ) → is_128_bits z ≡ true → IsXml (signed_decimal z)
decimal_xml (pos n) e =
    let below = short n (ltb-true n (2 ^ 127) e) in
    let digits = numeral_digits (decimal n) (numeral_from (decimal n) (decimal_is_IsNumeral_wide n (omega arith)).0) in
    ascii_xml (decimal n) (digits_low (decimal n) digits) (digits_xml (decimal n) digits)
decimal_xml (negsuc n) e =
    let below = short n (ltb-true n (2 ^ 127) e) in
    let digits = numeral_digits (decimal (suc n)) (numeral_from (decimal (suc n)) (decimal_is_IsNumeral_wide (suc n) (omega arith)).0) in
    ascii_xml (45 ∷ decimal (suc n)) (IsAscii-cons 45 (decimal (suc n)) (omega arith) (digits_low (decimal (suc n)) digits))
    (rw (minus_xml, digits_xml (decimal (suc n)) digits) refl)

all_low : (cs : List ℕ) → list_all (λ c. nat_lt c 128) cs ≡ true → IsAscii cs
all_low [] e = IsAscii-nil
all_low (c ∷ cs) e =
    IsAscii-cons c cs (ltb-true c 128 (and-first (nat_lt c 128) (list_all (λ d. nat_lt d 128) cs) e)) (all_low cs (and-second (nat_lt c 128) (list_all (λ d. nat_lt d 128) cs) e))

boolean_xml : (b : Bool) → IsXml (boolean_text b)
unfolding is_xml_char
boolean_xml true = ascii_xml (boolean_text true) (all_low (boolean_text true) refl) refl
boolean_xml false = ascii_xml (boolean_text false) (all_low (boolean_text false) refl) refl

-- ---- words joined by spaces

at_end : (x r : List ℕ) (b : ℕ) → get_or (x ++ b ∷ r) (length x) 0 ≡ b
at_end [] r b = refl
at_end (a ∷ x) r b = at_end x r b

below_end : (x r : List ℕ) (b : ℕ) → length x < length (x ++ b ∷ r)
below_end [] r b = omega arith
below_end (a ∷ x) r b = let h = below_end x r b in omega (arith, h)

take_end : (x r : List ℕ) → take (length x) (x ++ r) ≡ x
take_end [] r = refl
take_end (a ∷ x) r = ap (λ y. a ∷ y) (take_end x r)

drop_end : (x r : List ℕ) → drop (length x) (x ++ r) ≡ r
drop_end [] r = refl
drop_end (a ∷ x) r = drop_end x r

space_xml : is_xml_char 0x20 ≡ true
unfolding is_xml_char
space_xml = refl

-- a space between two texts
spaced_xml : (x r : List ℕ) → IsXml x → IsXml r → IsXml (x ++ 0x20 ∷ r)
spaced_xml x r hx hr u =
    let low : get_or (x ++ 0x20 ∷ r) (length x) 0 < 128 = rw (at_end x r 0x20) (omega arith) in
    let cut : IsCharBoundary (x ++ 0x20 ∷ r) (length x) = IsCharBoundary-before_ascii (x ++ 0x20 ∷ r) (length x) (below_end x r 0x20) low in
    let ux : IsUtf8 x = subst IsUtf8 (take_end x (0x20 ∷ r)) (IsUtf8-take (x ++ 0x20 ∷ r) (length x) u cut) in
    let us : IsUtf8 (0x20 ∷ r) = subst IsUtf8 (drop_end x (0x20 ∷ r)) (IsUtf8-drop (x ++ 0x20 ∷ r) (length x) u cut) in
    let ur : IsUtf8 r = IsUtf8-drop (0x20 ∷ r) 1 us (IsCharBoundary-after_ascii (0x20 ∷ r) 0 us (omega arith) (omega arith)) in
    let one : chars (0x20 ∷ r) ≡ 0x20 ∷ chars r = chars_past_char (0x20 ∷ r) r 0x20 us (ap (λ e. e ++ r) (sym (encode_ascii 0x20 (omega arith)))) in
    let both : chars (x ++ 0x20 ∷ r) ≡ chars x ++ 0x20 ∷ chars r = chars-append x (0x20 ∷ r) ux ∙ ap (λ cs. chars x ++ cs) one in
    ap (list_all is_xml_char) both ∙ list_all-append is_xml_char (chars x) (0x20 ∷ chars r) ∙ rw (hx ux, space_xml, hr ur) refl

join_xml : (ws : List (List ℕ)) → All IsXml ws → IsXml (join_with_byte 0x20 ws)
join_xml [] h u = rw chars-nil refl
join_xml (x ∷ []) h u = All-head IsXml x [] h u
join_xml (x ∷ y ∷ ws) h u = spaced_xml x (join_with_byte 0x20 (y ∷ ws)) (All-head IsXml x (y ∷ ws) h) (join_xml (y ∷ ws) (All-tail IsXml x (y ∷ ws) h)) u

-- ---- types

abbrev XmlFrom : (List ℕ → Reading) → (Rose ValueLabel → List ℕ) → Type 0
XmlFrom read spell = (text : List ℕ) (value : Rose ValueLabel) → read text ≡ Ok value → IsXml (spell value)

abbrev XmlTaken : (List ℕ → Taking) → (ℕ → Rose ValueLabel → List ℕ) → Type 0
XmlTaken take spell = (text : List ℕ) (i : ℕ) (value : Rose ValueLabel) → take text ≡ Ok (i, value) → IsXml (spell i value)

booleans_xml : XmlFrom (reads Booleans) (spelled Booleans)
unfolding reads spelled
booleans_xml text value e = let known = is_boolean (boolean_of (treated Collapse text)) value e in rw known.1 (boolean_xml known.0)

wholes_xml : (least greatest : _) → XmlFrom (reads (Wholes least greatest)) (spelled (Wholes least greatest))
unfolding reads spelled
wholes_xml least greatest text value e =
    let known = is_whole least greatest (whole_number (treated Collapse text)) value e in
    rw known.is (decimal_xml known.z known.bits)

numbers_xml : (numbers : _) → XmlFrom (reads (Numbers numbers)) (spelled (Numbers numbers))
unfolding reads spelled
numbers_xml numbers text value e =
    let known = is_number numbers (whole_number (treated Collapse text)) value e in
    rw known.spelled_is (decimal_xml known.z known.bits)

word_xml : (how : WhiteSpace) (words : List (List ℕ)) (i : ℕ) → AreWords how words → i < length words → list_all is_xml_char (chars (get_or words i [])) ≡ true
word_xml how [] i h l = absurd (omega (arith, l))
word_xml how (w ∷ words) zero h l = h.0.0
word_xml how (w ∷ words) (suc i) h l = word_xml how words i h.1 (omega (arith, l))

words_xml : (how : WhiteSpace) (words : List (List ℕ)) → AreWords how words → XmlFrom (reads (Words how words)) (spelled (Words how words))
unfolding reads spelled
words_xml how words h text value e u =
    let item = is_item (position (λ w. bytes_eq w (treated how text)) words) value e in
    let found = position-Some (λ w. bytes_eq w (treated how text)) words item.0 [] item.1 in
    ap (λ v. list_all is_xml_char (chars (spelled_word words (label_of v)))) item.2 ∙ word_xml how words item.0 h found.0

has_xml : (least : ℕ) (most : Option ℕ) (class : Class) (text : List ℕ) (value : Rose ValueLabel) → read_characters least most class text ≡ Ok value → list_all is_xml_char (chars text) ≡ true
has_xml least most class text value e = by (has_characters least most class text) refl
  where
    by : (has : Bool) → has_characters least most class text ≡ has → list_all is_xml_char (chars text) ≡ true
    by false refused = absurd (let f = rw refused at e in cc)
    by true holds =
        let xml = list_all is_xml_char (chars text) in
        let from = nat_le least (length (chars text)) in
        let to = is_at_most (length (chars text)) most in
        and-first xml from (and-first (xml && from) to (and-first (xml && from && to) (in_class class text) holds))

characters_xml : (how least most class : _) → XmlFrom (reads (Characters how least most class)) (spelled (Characters how least most class))
unfolding reads spelled
characters_xml how least most class text value e u =
    ap (λ t. list_all is_xml_char (chars t)) (characters_spelled least most class (treated how text) value e) ∙ has_xml least most class (treated how text) value e

each_xml : (read : List ℕ → Reading) (spell : Rose ValueLabel → List ℕ) → XmlFrom read spell
    → (texts : List (List ℕ)) (values : List (Rose ValueLabel)) → read_each read texts ≡ Ok values → All IsXml (map spell values)
each_xml read spell xml [] values e = let none : [] ≡ values = cc in rw (sym none) (All-nil IsXml)
each_xml read spell xml (text ∷ texts) values e =
    let known = is_read read text texts values e in
    rw known.is (All-cons IsXml (spell known.value) (map spell known.further) (xml text known.value known.first) (each_xml read spell xml texts known.further known.rest))

list_xml : (item : Space) (least : ℕ) (most : Option ℕ) → XmlFrom (reads item) (spelled item) → XmlFrom (reads (ListOf item least most)) (spelled (ListOf item least most))
list_xml item least most xml text value e =
    let known = is_list least most (read_each (reads item) (words_of text)) value (sym (reads-ListOf item least most text) ∙ e) in
    let kids : kids_of value ≡ known.values = ap kids_of known.is ∙ kids_of-node label.SequenceOf known.values in
    let same : spelled (ListOf item least most) value ≡ join_with_byte 0x20 (map (spelled item) known.values) =
    spelled-ListOf item least most value ∙ ap (λ ks. join_with_byte 0x20 (map (spelled item) ks)) kids in
    subst IsXml (sym same) (join_xml (map (spelled item) known.values) (each_xml (reads item) (spelled item) xml (words_of text) known.values known.read))

more_xml : (s : Space) (ss : Spaces) → XmlFrom (reads s) (spelled s) → XmlTaken (taken_by ss) (spelled_by ss) → XmlTaken (taken_by (more s ss)) (spelled_by (more s ss))
unfolding reads taken_by spelled spelled_by
more_xml s ss one others text i value e = elim (which (reads s text) (taken_by ss text) i value e) [
  | inl first ↦ subst (λ n. IsXml (spelled_by (more s ss) n value)) (sym first.0) (one text value first.1)
  | inr later ↦ subst (λ n. IsXml (spelled_by (more s ss) n value)) (sym later.1) (others text later.0 value later.2)
]

none_xml : XmlTaken (taken_by none) (spelled_by none)
unfolding taken_by spelled_by
none_xml text i value e = absurd (cc)

union_xml : (members : Spaces) → XmlTaken (taken_by members) (spelled_by members) → XmlFrom (reads (UnionOf members)) (spelled (UnionOf members))
unfolding spelled spelled_by
union_xml members xml text value e =
    let known = settles_so (taken_by members) (spelled_by members) (λ t. Unit {0}) IsXml (λ t is. tt) (λ t i v any taken. xml t i v taken) (count_members members) text value tt (sym (reads-UnionOf members text) ∙ e) in
    subst (λ v. IsXml (spelled (UnionOf members) v)) (sym known.2) known.3

mutual
  pub accepted_in_xml : (s : Space) → Sound s → XmlFrom (reads s) (spelled s)
  accepted_in_xml Booleans sound = booleans_xml
  accepted_in_xml (Wholes least greatest) sound = wholes_xml least greatest
  accepted_in_xml (Numbers numbers) sound = numbers_xml numbers
  accepted_in_xml (Words how words) sound = words_xml how words sound.2
  accepted_in_xml (Characters how least most class) sound = characters_xml how least most class
  accepted_in_xml (ListOf item least most) sound = list_xml item least most (accepted_in_xml item sound.0)
  accepted_in_xml (UnionOf members) sound = union_xml members (taken_in_xml members sound.1)

  taken_in_xml : (ss : Spaces) → AreSound ss → XmlTaken (taken_by ss) (spelled_by ss)
  taken_in_xml none sound = none_xml
  taken_in_xml (more s ss) sound = more_xml s ss (accepted_in_xml s sound.0) (taken_in_xml ss sound.2)

pub spelled_in_xml : (s : Space) → Sound s → (value : Rose ValueLabel) → Holds s value → IsXml (spelled s value)
spelled_in_xml s sound value h = accepted_in_xml s sound (spelled s value) value h
