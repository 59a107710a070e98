-- Pieces of a plain text are UTF-8, where the texts in them are.
use Rattle.std.proofs.Common.{◌≡◌, ℕ, zero, suc, ◌<◌, Bool, true, false, ◌&&◌, Option, Some, None, List, [], ◌∷◌, ◌++◌, map, refl, sym, ap, subst, arith}
use Rattle.std.specs.Prelude.{All, IsUtf8, ◌==◌, codes, nat_lt, if◌then◌else◌}
use Rattle.std.specs.List.{list_all, flat_map, join_with_byte}
use Rattle.std.specs.Str.{IsAscii}
use Rattle.std.proofs.lemmas.Bool.{true≢false, ltb-true}
use Rattle.std.proofs.lemmas.Bool.Decides.{nat_tests}
use Rattle.std.proofs.lemmas.Str.{IsUtf8-nil, IsUtf8-append, IsUtf8-from_ascii}
use Rattle.simple_types.specs.declared.simples.Class.{Class}
use Rattle.simple_types.specs.declared.simples.Class.TheVariants.{Any, Language, NmToken, Name, NcName}
use Rattle.base_texts.specs.Digits.{is_numeral}
use Rattle.module_print.specs.Notation.{doubled, quoted, commented, class_range, listed, enumerated, indent, new_line, block}
use Rattle.module_print.specs.Instructions.{bracketed}
use Rattle.module_print.specs.Values.{items}
use Rattle.module_text.specs.declared.bounds.PlainEnds.{PlainEnds}
use Rattle.module_text.specs.declared.bounds.PlainEnds.TheVariants as ends
use Rattle.module_text.specs.declared.bounds.PlainRange.{PlainRange}
use Rattle.module_text.specs.declared.bounds.PlainRange.TheVariants as range
use Rattle.module_text.specs.declared.values.PlainOctets.{PlainOctets}
use Rattle.module_text.specs.declared.types.NumberedItem.{NumberedItem}
use Rattle.module_text.specs.declared.types.PlainName.{PlainName}
use Rattle.module_text.specs.declared.types.PlainForm.{PlainForm}
use Rattle.module_text.specs.declared.types.PlainForm.TheVariants as form
use Rattle.module_text.specs.Names.{is_number, is_hexadecimal_digit, are_octets}
use Rattle.module_text.specs.Plain.{AreEnds, IsRange, IsSize, IsFixed, IsNumbered, IsName, IsForm}
use Rattle.module_text.specs.Texts.{ends_text, range_text, number_range_text, size_text, all_of, fixed_text, item_text, form_text}
use Rattle.module_text.proofs.Ascii.{identifier_utf8, reference_utf8}
use Rattle.module_text.proofs.PrintedBounds.{and-first, and-second}
use Rattle.module_unique.proofs.XmlSpelling.{no_ascii, more_ascii, numeral_plain, utf8_before, utf8_behind}

-- ---- ASCII

abbrev pub is_below : ℕ → Bool
is_below b = nat_lt b 128

all_below : (bs : List ℕ) → list_all is_below bs ≡ true → IsAscii bs
all_below [] e = no_ascii
all_below (b ∷ bs) e = more_ascii b bs (ltb-true b 128 (and-first (is_below b) (list_all is_below bs) e)) (all_below bs (and-second (is_below b) (list_all is_below bs) e))

pub constant : (bs : List ℕ) → list_all is_below bs ≡ true → IsUtf8 bs
constant bs e = IsUtf8-from_ascii bs (all_below bs e)

-- ---- texts behind one another

pub joined : (xs ys : List ℕ) → IsUtf8 xs → IsUtf8 ys → IsUtf8 (xs ++ ys)
joined xs ys u v = IsUtf8-append xs ys u v

pub three : (xs ys zs : List ℕ) → IsUtf8 xs → IsUtf8 ys → IsUtf8 zs → IsUtf8 (xs ++ ys ++ zs)
three xs ys zs u v w = joined (xs ++ ys) zs (joined xs ys u v) w

pub four : (ws xs ys zs : List ℕ) → IsUtf8 ws → IsUtf8 xs → IsUtf8 ys → IsUtf8 zs → IsUtf8 (ws ++ xs ++ ys ++ zs)
four ws xs ys zs t u v w = joined (ws ++ xs ++ ys) zs (three ws xs ys t u v) w

pub byte_utf8 : (b : ℕ) (xs : List ℕ) → b < 128 → IsUtf8 xs → IsUtf8 (b ∷ xs)
byte_utf8 b xs lt u = IsUtf8-append (b ∷ []) xs (IsUtf8-from_ascii (b ∷ []) (more_ascii b [] lt no_ascii)) u

abbrev pub AreUtf8 : List (List ℕ) → Type 0
AreUtf8 [] = Unit {0}
AreUtf8 (text ∷ texts) = IsUtf8 text × AreUtf8 texts

pub all_utf8 : (texts : List (List ℕ)) → AreUtf8 texts → IsUtf8 (all_of texts)
all_utf8 [] are = IsUtf8-nil
all_utf8 (text ∷ texts) are = joined text (all_of texts) are.0 (all_utf8 texts are.1)

join_utf8 : (b : ℕ) (texts : List (List ℕ)) → b < 128 → AreUtf8 texts → IsUtf8 (join_with_byte b texts)
join_utf8 b [] lt are = IsUtf8-nil
join_utf8 b (x ∷ []) lt are = are.0
join_utf8 b (x ∷ y ∷ texts) lt are = joined x (b ∷ join_with_byte b (y ∷ texts)) are.0 (byte_utf8 b (join_with_byte b (y ∷ texts)) lt (join_utf8 b (y ∷ texts) lt are.1))

pub parts_utf8 : (b : ℕ) (texts : List (List ℕ)) → b < 128 → IsUtf8 (join_with_byte b texts) → AreUtf8 texts
parts_utf8 b [] lt u = tt
parts_utf8 b (x ∷ []) lt u = (u, tt)
parts_utf8 b (x ∷ y ∷ texts) lt u =
    let rest = join_with_byte b (y ∷ texts) in
    (utf8_before x b rest lt u, parts_utf8 b (y ∷ texts) lt (utf8_behind x b rest lt u))

with_utf8 : (before : List ℕ) (texts : List (List ℕ)) → IsUtf8 before → AreUtf8 texts → AreUtf8 (map (λ text. before ++ text) texts)
with_utf8 before [] u are = tt
with_utf8 before (text ∷ texts) u are = (joined before text u are.0, with_utf8 before texts u are.1)

listed_utf8 : (before : List ℕ) (texts : List (List ℕ)) → IsUtf8 before → AreUtf8 texts → IsUtf8 (listed before texts)
listed_utf8 before texts u are = join_utf8 44 (map (λ text. before ++ text) texts) (omega arith) (with_utf8 before texts u are)

pub mapped_utf8 : {A : Type 0} (f : A → List ℕ) (P : A → Type 0) (xs : List A) → ((x : A) → P x → IsUtf8 (f x)) → All P xs → AreUtf8 (map f xs)
mapped_utf8 f P [] one are = tt
mapped_utf8 f P (x ∷ xs) one are = (one x (are zero x (omega arith)), mapped_utf8 f P xs one (λ k d lt. are (suc k) d (omega (arith, lt))))

-- ---- quotation marks

further : (front : List ℕ) (b : ℕ) (rest : List ℕ) → (front ++ b ∷ []) ++ rest ≡ front ++ b ∷ rest
further [] b rest = refl
further (x ∷ front) b rest = ap (λ xs. x ∷ xs) (further front b rest)

doubled_utf8 : (rest front : List ℕ) → IsUtf8 (front ++ rest) → IsUtf8 (front ++ flat_map doubled rest)
doubled_utf8 [] front u = u
doubled_utf8 (b ∷ rest) front u = by (b == 34) refl (λ f v. doubled_utf8 rest f v)
  where
    by : (mark : Bool) → (b == 34) ≡ mark → ((f : List ℕ) → IsUtf8 (f ++ rest) → IsUtf8 (f ++ flat_map doubled rest))
        → IsUtf8 (front ++ ((if mark then 34 ∷ 34 ∷ [] else b ∷ []) ++ flat_map doubled rest))
    by true e others =
        let is : b ≡ 34 = grind (arith, nat_tests, e) in
        let lt : b < 128 = omega (arith, is) in
        let behind = others [] (utf8_behind front b rest lt u) in
        joined front (34 ∷ 34 ∷ flat_map doubled rest) (utf8_before front b rest lt u)
        (byte_utf8 34 (34 ∷ flat_map doubled rest) (omega arith) (byte_utf8 34 (flat_map doubled rest) (omega arith) behind))
    by false e others = subst IsUtf8 (further front b (flat_map doubled rest)) (others (front ++ b ∷ []) (subst IsUtf8 (sym (further front b rest)) u))

pub quoted_utf8 : (text : List ℕ) → IsUtf8 text → IsUtf8 (quoted text)
quoted_utf8 text u =
    byte_utf8 34 (flat_map doubled text ++ 34 ∷ []) (omega arith)
    (joined (flat_map doubled text) (34 ∷ []) (doubled_utf8 text [] u) (byte_utf8 34 [] (omega arith) IsUtf8-nil))

pub bracketed_utf8 : (text : List ℕ) → IsUtf8 text → IsUtf8 (bracketed text)
bracketed_utf8 text u = byte_utf8 91 (text ++ codes "] ") (omega arith) (joined text (codes "] ") u (constant (codes "] ") refl))

commented_utf8 : (text : List ℕ) → IsUtf8 text → IsUtf8 (commented text)
commented_utf8 text u =
    three (codes " (CONSTRAINED BY {/* ") text (codes " */})") (constant (codes " (CONSTRAINED BY {/* ") refl) u (constant (codes " */})") refl)

-- ---- numbers and bounds

minus_before : (b : ℕ) (bs : List ℕ) (minus : Bool) → (b == 45) ≡ minus → (if minus then is_numeral bs else is_numeral (b ∷ bs)) ≡ true → IsAscii (b ∷ bs)
minus_before b bs true e is = let at : b ≡ 45 = grind (arith, nat_tests, e) in more_ascii b bs (omega (arith, at)) (numeral_plain bs is).ascii
minus_before b bs false e is = (numeral_plain (b ∷ bs) is).ascii

pub number_utf8 : (written : List ℕ) → is_number written ≡ true → IsUtf8 written
number_utf8 [] is = IsUtf8-nil
number_utf8 (b ∷ bs) is = IsUtf8-from_ascii (b ∷ bs) (minus_before b bs (b == 45) refl is)

dots : IsUtf8 (codes "..")
dots = constant (codes "..") refl

ends_utf8 : (e : PlainEnds) → AreEnds e → IsUtf8 (ends_text e)
ends_utf8 (ends.One number) are = number_utf8 number.written are
ends_utf8 (ends.Both least greatest) are = three least.written (codes "..") greatest.written (number_utf8 least.written are.0) dots (number_utf8 greatest.written are.1)
ends_utf8 (ends.From least max_at) are = three least.written (codes "..") (codes "MAX") (number_utf8 least.written are) dots (constant (codes "MAX") refl)

range_utf8 : (r : PlainRange) → IsRange (Some r) → IsUtf8 (range_text r)
range_utf8 (range.Ends e) are = ends_utf8 e are
range_utf8 (range.To greatest) are = three (codes "MIN") (codes "..") greatest.written (constant (codes "MIN") refl) dots (number_utf8 greatest.written are)

number_range_utf8 : (r : Option PlainRange) → IsRange r → IsUtf8 (number_range_text r)
number_range_utf8 None are = IsUtf8-nil
number_range_utf8 (Some r) are = three (codes " (") (range_text r) (codes ")") (constant (codes " (") refl) (range_utf8 r are) (constant (codes ")") refl)

size_utf8 : (size : Option PlainEnds) → IsSize size → IsUtf8 (size_text size)
size_utf8 None are = IsUtf8-nil
size_utf8 (Some e) are = three (codes " (SIZE (") (ends_text e) (codes "))") (constant (codes " (SIZE (") refl) (ends_utf8 e are) (constant (codes "))") refl)

class_utf8 : (class : Class) → IsUtf8 (class_range class)
class_utf8 Any = IsUtf8-nil
class_utf8 Language = commented_utf8 (codes "language") (constant (codes "language") refl)
class_utf8 NmToken = commented_utf8 (codes "NMTOKEN") (constant (codes "NMTOKEN") refl)
class_utf8 Name = commented_utf8 (codes "Name") (constant (codes "Name") refl)
class_utf8 NcName = commented_utf8 (codes "NCName") (constant (codes "NCName") refl)

-- ---- fixed values

digit_ascii : (b : ℕ) → is_hexadecimal_digit b ≡ true → b < 128
digit_ascii b e = grind (arith, nat_tests, e)

octets_ascii : (digits : List ℕ) → are_octets digits ≡ true → IsAscii digits
octets_ascii [] e = no_ascii
octets_ascii (high ∷ []) e = absurd (true≢false (sym e))
octets_ascii (high ∷ low ∷ digits) e =
    let two = is_hexadecimal_digit high && is_hexadecimal_digit low in
    let first = and-first two (are_octets digits) e in
    more_ascii high (low ∷ digits) (digit_ascii high (and-first (is_hexadecimal_digit high) (is_hexadecimal_digit low) first))
    (more_ascii low digits (digit_ascii low (and-second (is_hexadecimal_digit high) (is_hexadecimal_digit low) first)) (octets_ascii digits (and-second two (are_octets digits) e)))

pub fixed_utf8 : (fixed : Option PlainOctets) → IsFixed fixed → IsUtf8 (fixed_text fixed)
fixed_utf8 None is = IsUtf8-nil
fixed_utf8 (Some octets) is =
    commented_utf8 (codes "fixed " ++ octets.digits) (joined (codes "fixed ") octets.digits (constant (codes "fixed ") refl) (IsUtf8-from_ascii octets.digits (octets_ascii octets.digits is)))

-- ---- lists in braces

pub items_utf8 : (texts : List (List ℕ)) → AreUtf8 texts → IsUtf8 (items texts)
items_utf8 [] are = constant (codes "{}") refl
items_utf8 (text ∷ texts) are =
    three (codes "{") (listed (codes " ") (text ∷ texts)) (codes " }") (constant (codes "{") refl)
    (listed_utf8 (codes " ") (text ∷ texts) (constant (codes " ") refl) are) (constant (codes " }") refl)

enumerated_utf8 : (texts : List (List ℕ)) → AreUtf8 texts → IsUtf8 (enumerated texts)
enumerated_utf8 texts are =
    three (codes "ENUMERATED {") (listed (codes " ") texts) (codes " }") (constant (codes "ENUMERATED {") refl)
    (listed_utf8 (codes " ") texts (constant (codes " ") refl) are) (constant (codes " }") refl)

indent_utf8 : (levels : ℕ) → IsUtf8 (indent levels)
indent_utf8 zero = IsUtf8-nil
indent_utf8 (suc levels) = joined (codes "    ") (indent levels) (constant (codes "    ") refl) (indent_utf8 levels)

line_utf8 : (levels : ℕ) → IsUtf8 (new_line levels)
line_utf8 levels = byte_utf8 10 (indent levels) (omega arith) (indent_utf8 levels)

block_utf8 : (levels : ℕ) (texts : List (List ℕ)) → AreUtf8 texts → IsUtf8 (block levels texts)
block_utf8 levels [] are = constant (codes "{}") refl
block_utf8 levels (text ∷ texts) are =
    four (codes "{") (listed (new_line (suc levels)) (text ∷ texts)) (new_line levels) (codes "}") (constant (codes "{") refl)
    (listed_utf8 (new_line (suc levels)) (text ∷ texts) (line_utf8 (suc levels)) are) (line_utf8 levels) (constant (codes "}") refl)

-- ---- types

numbered_utf8 : (item : NumberedItem) → IsNumbered item → IsUtf8 (item_text item)
numbered_utf8 item is =
    four item.identifier.name (codes "(") item.number.written (codes ")") (identifier_utf8 item.identifier.name is.0)
    (constant (codes "(") refl) (number_utf8 item.number.written is.1) (constant (codes ")") refl)

pub form_utf8 : (levels : ℕ) (f : PlainForm) (parts : List (List ℕ)) → IsForm f → AreUtf8 parts → IsUtf8 (form_text levels f parts)
form_utf8 levels form.Bool parts is are = constant (codes "BOOLEAN") refl
form_utf8 levels (form.Int r) parts is are = joined (codes "INTEGER") (number_range_text r) (constant (codes "INTEGER") refl) (number_range_utf8 r is)
form_utf8 levels (form.Numbers numbered) parts is are = enumerated_utf8 (map item_text numbered) (mapped_utf8 item_text IsNumbered numbered numbered_utf8 is.1)
form_utf8 levels (form.Words identifiers) parts is are =
    enumerated_utf8 (map (λ (i : PlainName). i.name) identifiers) (mapped_utf8 (λ (i : PlainName). i.name) IsName identifiers (λ i e. identifier_utf8 i.name e) is.1)
form_utf8 levels (form.Utf8 size class) parts is are =
    three (codes "UTF8String") (size_text size) (class_range class) (constant (codes "UTF8String") refl) (size_utf8 size is) (class_utf8 class)
form_utf8 levels (form.Sequence components) parts is are = joined (codes "SEQUENCE ") (block levels parts) (constant (codes "SEQUENCE ") refl) (block_utf8 levels parts are)
form_utf8 levels (form.Choice alternatives) parts is are = joined (codes "CHOICE ") (block levels parts) (constant (codes "CHOICE ") refl) (block_utf8 levels parts are)
form_utf8 levels (form.SequenceOf size item) parts is are =
    four (codes "SEQUENCE") (size_text size) (codes " OF ") (all_of parts) (constant (codes "SEQUENCE") refl)
    (size_utf8 size is.0) (constant (codes " OF ") refl) (all_utf8 parts are)
form_utf8 levels (form.Ref reference) parts is are = reference_utf8 reference.name is.0
