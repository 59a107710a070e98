-- The spelling of a value of a simple type has XML characters alone, where it is UTF-8.
use Rattle.std.proofs.Common.{◌≡◌, ℕ, zero, suc, ◌<◌, ◌+◌, ◌^◌, Bool, true, false, Some, List, [], ◌∷◌, ◌++◌, map, length, refl, sym, ap, subst, ◌∙◌, arith, take, drop, get_or}
use Rattle.std.specs.Prelude.{ℤ, pos, negsuc, IsUtf8, chars, slice_get}
use Rattle.std.specs.List.{list_all, join_with_byte}
use Rattle.std.specs.Str.{IsAscii}
use Rattle.std.specs.Fmt.{decimal, signed_decimal}
use Rattle.std.proofs.lemmas.Bool.{true≢false, ltb-true}
use Rattle.std.proofs.lemmas.Bool.Decides.{nat_tests}
use Rattle.std.proofs.lemmas.Str.{IsUtf8-from_ascii, IsUtf8-take, IsUtf8-drop, IsCharBoundary-before_ascii, IsCharBoundary-after_ascii, chars-nil, chars-append, chars-IsAscii}
use Rattle.base_trees.specs.Rose.{Rose}
use Rattle.base_trees.proofs.Roses.{list_of-roses_of}
use Rattle.base_texts.specs.Characters.{is_xml_char}
use Rattle.base_texts.specs.Digits.{is_digit, is_numeral}
use Rattle.simple_types.specs.Sound.{Sound, AreSound, AreWords}
use Rattle.simple_types.specs.declared.labels.ValueLabel.{ValueLabel}
use Rattle.simple_types.specs.Space.{Space, Spaces, none, more, Booleans, Wholes, Numbers, Words, Characters, ListOf, UnionOf}
use Rattle.simple_types.specs.Lexical.{is_128_bits, boolean_text}
use Rattle.simple_types.specs.Reading.{spelled, spelled_by, spelled_if}
use Rattle.simple_types.proofs.Decimals.{short}
use Rattle.module_text.proofs.PrintedBounds.{and-first, and-second}
use Rattle.module_laws.proofs.Firsts.{index-is}
use Rattle.module_unique.proofs.Digits.{numeral}
use Rattle.module_unique.proofs.Shapes.{EachShaped, Shaped, ShapedBy}
use Rattle.module_unique.proofs.CleanForms.{both-so}

abbrev pub IsXml : List ℕ → Type 0
IsXml text = list_all is_xml_char (chars text) ≡ true

-- ---- ASCII

pub record Plain (text : List ℕ) : Type 0 where
  pub ascii : IsAscii text
  pub xml : list_all is_xml_char text ≡ true

pub no_ascii : IsAscii []
no_ascii i = omega arith

pub more_ascii : (b : ℕ) (bs : List ℕ) → b < 128 → IsAscii bs → IsAscii (b ∷ bs)
more_ascii b bs lt rest zero = lt
more_ascii b bs lt rest (suc i) = rest i

plain_none : Plain []
plain_none = record { ascii = no_ascii; xml = refl }

plain_more : (b : ℕ) (bs : List ℕ) → b < 128 → is_xml_char b ≡ true → Plain bs → Plain (b ∷ bs)
plain_more b bs lt xml rest = record { ascii = more_ascii b bs lt rest.ascii; xml = both-so (is_xml_char b) (list_all is_xml_char bs) xml rest.xml }

plain_xml : (text : List ℕ) → Plain text → IsXml text
plain_xml text is = ap (list_all is_xml_char) (chars-IsAscii text is.ascii) ∙ is.xml

digit_xml : (d : ℕ) → is_digit d ≡ true → is_xml_char d ≡ true
unfolding is_xml_char
digit_xml d e = grind (arith, nat_tests, e)

digit_ascii : (d : ℕ) → is_digit d ≡ true → d < 128
digit_ascii d e = grind (arith, nat_tests, e)

hyphen_xml : is_xml_char 45 ≡ true
unfolding is_xml_char
hyphen_xml = refl

digits_plain : (ds : List ℕ) → list_all is_digit ds ≡ true → Plain ds
digits_plain [] e = plain_none
digits_plain (d ∷ ds) e =
    let first = and-first (is_digit d) (list_all is_digit ds) e in
    plain_more d ds (digit_ascii d first) (digit_xml d first) (digits_plain ds (and-second (is_digit d) (list_all is_digit ds) e))

pub numeral_plain : (ds : List ℕ) → is_numeral ds ≡ true → Plain ds
numeral_plain [] e = absurd (true≢false (sym e))
numeral_plain (d ∷ ds) e = digits_plain (d ∷ ds) e

whole_plain : (z : ℤ) → is_128_bits z ≡ true → Plain (signed_decimal z)
whole_plain (pos n) e = let below = short n (ltb-true n (2 ^ 127) e) in numeral_plain (decimal n) (numeral n (omega (arith, below)))
whole_plain (negsuc n) e =
    let below = short n (ltb-true n (2 ^ 127) e) in
    plain_more 45 (decimal (suc n)) (omega arith) hyphen_xml (numeral_plain (decimal (suc n)) (numeral (suc n) (omega (arith, below))))

true_plain : Plain (boolean_text true)
unfolding is_xml_char
true_plain = plain_more 116 _ (omega arith) refl (plain_more 114 _ (omega arith) refl (plain_more 117 _ (omega arith) refl (plain_more 101 [] (omega arith) refl plain_none)))

false_plain : Plain (boolean_text false)
unfolding is_xml_char
false_plain =
    plain_more 102 _ (omega arith) refl
    (plain_more 97 _ (omega arith) refl (plain_more 108 _ (omega arith) refl (plain_more 115 _ (omega arith) refl (plain_more 101 [] (omega arith) refl plain_none))))

truth_xml : (b : Bool) → IsXml (boolean_text b)
truth_xml true = plain_xml (boolean_text true) true_plain
truth_xml false = plain_xml (boolean_text false) false_plain

-- ---- where a text of UTF-8 is cut at an ASCII byte

front_of : (xs ys : List ℕ) → take (length xs) (xs ++ ys) ≡ xs
front_of [] ys = refl
front_of (x ∷ xs) ys = ap (λ zs. x ∷ zs) (front_of xs ys)

rest_of : (xs : List ℕ) (c : ℕ) (ys : List ℕ) → drop (suc (length xs)) (xs ++ c ∷ ys) ≡ ys
rest_of [] c ys = refl
rest_of (x ∷ xs) c ys = rest_of xs c ys

byte_at : (xs : List ℕ) (c : ℕ) (ys : List ℕ) → get_or (xs ++ c ∷ ys) (length xs) 0 ≡ c
byte_at [] c ys = refl
byte_at (x ∷ xs) c ys = byte_at xs c ys

long_at : (xs : List ℕ) (c : ℕ) (ys : List ℕ) → length xs < length (xs ++ c ∷ ys)
long_at [] c ys = omega arith
long_at (x ∷ xs) c ys = let rest = long_at xs c ys in omega (arith, rest)

pub utf8_before : (xs : List ℕ) (c : ℕ) (ys : List ℕ) → c < 128 → IsUtf8 (xs ++ c ∷ ys) → IsUtf8 xs
utf8_before xs c ys lt utf8 =
    let at = byte_at xs c ys in
    subst IsUtf8 (front_of xs (c ∷ ys)) (IsUtf8-take (xs ++ c ∷ ys) (length xs) utf8 (IsCharBoundary-before_ascii (xs ++ c ∷ ys) (length xs) (long_at xs c ys) (omega (arith, at, lt))))

pub utf8_behind : (xs : List ℕ) (c : ℕ) (ys : List ℕ) → c < 128 → IsUtf8 (xs ++ c ∷ ys) → IsUtf8 ys
utf8_behind xs c ys lt utf8 =
    let at = byte_at xs c ys in
    let next : length xs + 1 ≡ suc (length xs) = omega arith in
    let there = IsUtf8-drop (xs ++ c ∷ ys) (length xs + 1) utf8 (IsCharBoundary-after_ascii (xs ++ c ∷ ys) (length xs) utf8 (long_at xs c ys) (omega (arith, at, lt))) in
    subst IsUtf8 (ap (λ n. drop n (xs ++ c ∷ ys)) next ∙ rest_of xs c ys) there

-- ---- lists

all_both : (xs ys : List ℕ) → list_all is_xml_char xs ≡ true → list_all is_xml_char ys ≡ true → list_all is_xml_char (xs ++ ys) ≡ true
all_both [] ys e f = f
all_both (x ∷ xs) ys e f =
    both-so (is_xml_char x) (list_all is_xml_char (xs ++ ys)) (and-first (is_xml_char x) (list_all is_xml_char xs) e) (all_both xs ys (and-second (is_xml_char x) (list_all is_xml_char xs) e) f)

space_plain : Plain (32 ∷ [])
unfolding is_xml_char
space_plain = plain_more 32 [] (omega arith) refl plain_none

space_utf8 : IsUtf8 (32 ∷ [])
space_utf8 = IsUtf8-from_ascii (32 ∷ []) space_plain.ascii

spaced_xml : (xs ys : List ℕ) → IsUtf8 xs → IsXml xs → IsXml ys → IsXml (xs ++ 32 ∷ ys)
spaced_xml xs ys utf8 first rest =
    ap (list_all is_xml_char) (chars-append xs (32 ∷ ys) utf8)
    ∙ all_both (chars xs) (chars (32 ∷ ys)) first
    (ap (list_all is_xml_char) (chars-append (32 ∷ []) ys space_utf8)
    ∙ all_both (chars (32 ∷ [])) (chars ys) (plain_xml (32 ∷ []) space_plain) rest)

abbrev EachXml : List (List ℕ) → Type 0
EachXml [] = Unit {0}
EachXml (text ∷ texts) = (IsUtf8 text → IsXml text) × EachXml texts

join_xml : (texts : List (List ℕ)) → IsUtf8 (join_with_byte 32 texts) → EachXml texts → IsXml (join_with_byte 32 texts)
join_xml [] utf8 each = ap (list_all is_xml_char) chars-nil
join_xml (x ∷ []) utf8 each = each.0 utf8
join_xml (x ∷ y ∷ texts) utf8 each =
    let rest = join_with_byte 32 (y ∷ texts) in
    let lt : 32 < 128 = omega arith in
    let front = utf8_before x 32 rest lt utf8 in
    spaced_xml x rest front (each.0 front) (join_xml (y ∷ texts) (utf8_behind x 32 rest lt utf8) each.1)

each_xml : (s : Space) → ((v : Rose ValueLabel) → Shaped s v → IsUtf8 (spelled s v) → IsXml (spelled s v)) → (vs : List (Rose ValueLabel)) → EachShaped (Shaped s) vs → EachXml (map (spelled s) vs)
each_xml s one [] are = tt
each_xml s one (v ∷ vs) are = ((λ utf8. one v are.0 utf8), each_xml s one vs are.1)

word_xml : (how : _) (words : List (List ℕ)) (i : ℕ) (word : List ℕ) → AreWords how words → slice_get words i ≡ Some word → IsXml word
word_xml how [] i word are e = absurd (cc)
word_xml how (w ∷ ws) zero word are e = let same : w ≡ word = cc in subst IsXml same are.0.0
word_xml how (w ∷ ws) (suc i) word are e = word_xml how ws i word are.1 e

-- ---- all

abbrev SpelledXml : Space → Type 0
SpelledXml s = (v : Rose ValueLabel) → Sound s → Shaped s v → IsUtf8 (spelled s v) → IsXml (spelled s v)

abbrev SpelledByXml : Spaces → Type 0
SpelledByXml ss = (i : ℕ) (v : Rose ValueLabel) → AreSound ss → ShapedBy ss i v → IsUtf8 (spelled_by ss i v) → IsXml (spelled_by ss i v)

booleans : SpelledXml Booleans
unfolding spelled
booleans v sound is utf8 = subst (λ x. IsXml (spelled Booleans x)) (sym is.1) (truth_xml is.0)

wholes : (least greatest : _) → SpelledXml (Wholes least greatest)
unfolding spelled
wholes least greatest v sound is utf8 = subst (λ x. IsXml (spelled (Wholes least greatest) x)) (sym is.2) (plain_xml (signed_decimal is.0) (whole_plain is.0 is.1))

numbers_ : (numbers : List ℤ) → SpelledXml (Numbers numbers)
unfolding spelled
numbers_ numbers v sound is utf8 =
    subst (λ x. IsXml (spelled (Numbers numbers) x)) (sym is.3) (subst (λ o. IsXml (spelled_if o)) (sym is.2) (plain_xml (signed_decimal is.1) (whole_plain is.1 is.4)))

words_ : (how : _) (words : List (List ℕ)) → SpelledXml (Words how words)
unfolding spelled
words_ how words v sound is utf8 =
    subst (λ x. IsXml (spelled (Words how words) x)) (sym is.3) (subst IsXml (sym (index-is words is.0 is.1 [] is.2)) (word_xml how words is.0 is.1 sound.2 is.2))

characters_ : (how : _) (least : ℕ) (most : _) (class : _) → SpelledXml (Characters how least most class)
unfolding spelled
characters_ how least most class v sound is utf8 = subst (λ x. IsXml (spelled (Characters how least most class) x)) (sym is.2) is.1

lists_ : (item : Space) (least : ℕ) (most : _) → SpelledXml item → SpelledXml (ListOf item least most)
unfolding spelled
lists_ item least most one v sound is utf8 =
    let vs = is.0 in
    let text : spelled (ListOf item least most) v ≡ join_with_byte 32 (map (spelled item) vs) =
    ap (spelled (ListOf item least most)) is.2 ∙ ap (λ ws. join_with_byte 32 (map (spelled item) ws)) (list_of-roses_of vs) in
    subst IsXml (sym text) (join_xml (map (spelled item) vs) (subst IsUtf8 text utf8) (each_xml item (λ w shape u. one w sound.0 shape u) vs is.1))

unions_ : (members : Spaces) → SpelledByXml members → SpelledXml (UnionOf members)
unfolding spelled
unions_ members one v sound is utf8 =
    let text : spelled (UnionOf members) v ≡ spelled_by members is.0 is.1 = ap (spelled (UnionOf members)) is.3 in
    subst IsXml (sym text) (one is.0 is.1 sound.1 is.2 (subst IsUtf8 text utf8))

none_ : SpelledByXml none
none_ i v sound is utf8 = absurd is

more_ : (s : Space) (ss : Spaces) → SpelledXml s → SpelledByXml ss → SpelledByXml (more s ss)
unfolding spelled_by
more_ s ss one others zero v sound is utf8 = one v sound.0 is utf8
more_ s ss one others (suc i) v sound is utf8 = others i v sound.2 is utf8

mutual
  pub spelled_xml : (s : Space) → SpelledXml s
  spelled_xml Booleans = booleans
  spelled_xml (Wholes least greatest) = wholes least greatest
  spelled_xml (Numbers numbers) = numbers_ numbers
  spelled_xml (Words how words) = words_ how words
  spelled_xml (Characters how least most class) = characters_ how least most class
  spelled_xml (ListOf item least most) = lists_ item least most (spelled_xml item)
  spelled_xml (UnionOf members) = unions_ members (spelled_by_xml members)

  spelled_by_xml : (ss : Spaces) → SpelledByXml ss
  spelled_by_xml none = none_
  spelled_by_xml (more s ss) = more_ s ss (spelled_xml s) (spelled_by_xml ss)
