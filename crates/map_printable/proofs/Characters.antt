-- Names and namespaces that a schema may declare have XML characters alone.
use Rattle.std.proofs.Common.{◌≡◌, ℕ, ◌≤◌, Bool, true, false, ◌&&◌, ◌||◌, not, List, [], ◌∷◌, refl, sym, ap, arith}
use Rattle.std.specs.Prelude.{nat_le, chars, ◌==◌, bytes_eq}
use Rattle.std.specs.List.{list_all, list_any}
use Rattle.std.specs.Str.{is_utf8}
use Rattle.std.proofs.lemmas.Bool.{true≢false, leb-true, le-leb}
use Rattle.base_texts.specs.Characters.{in_ranges, xml_chars, name_starts, further_name_chars, is_xml_char, is_name_start, is_name_char, is_name, is_ncname}
use Rattle.base_texts.specs.Limits.{has_xml_chars, spells_ncname, is_short_part, is_short_space, is_name_part, is_namespace, is_xmlns}
use Rattle.base_texts.specs.declared.texts.Name.{Name}
use Rattle.schema_components.specs.Declarable.{kept_spaces, is_declarable, is_declarable_attribute}
use Rattle.module_text.specs.Printable.{IsXmlText}
use Rattle.map_printable.proofs.Names.{and-both, and-first, and-second}

-- ---- ranges

-- a range lies within one of these
abbrev is_covered : ℕ × ℕ → List (ℕ × ℕ) → Bool
is_covered r [] = false
is_covered r (s ∷ ss) = (nat_le s.0 r.0 && nat_le r.1 s.1) || is_covered r ss

within-both : (r s : ℕ × ℕ) (c : ℕ) → (nat_le s.0 r.0 && nat_le r.1 s.1) ≡ true → (nat_le r.0 c && nat_le c r.1) ≡ true → (nat_le s.0 c && nat_le c s.1) ≡ true
within-both r s c e f =
    let a : s.0 ≤ r.0 = leb-true s.0 r.0 (and-first (nat_le s.0 r.0) (nat_le r.1 s.1) e) in
    let b : r.1 ≤ s.1 = leb-true r.1 s.1 (and-second (nat_le s.0 r.0) (nat_le r.1 s.1) e) in
    let low : r.0 ≤ c = leb-true r.0 c (and-first (nat_le r.0 c) (nat_le c r.1) f) in
    let high : c ≤ r.1 = leb-true c r.1 (and-second (nat_le r.0 c) (nat_le c r.1) f) in
    and-both (nat_le s.0 c) (nat_le c s.1) (le-leb s.0 c (omega (arith, a, low))) (le-leb c s.1 (omega (arith, b, high)))

covered-has : (r : ℕ × ℕ) (ss : List (ℕ × ℕ)) (c : ℕ) → is_covered r ss ≡ true → (nat_le r.0 c && nat_le c r.1) ≡ true → in_ranges ss c ≡ true
covered-has r [] c e f = absurd (true≢false (sym e))
covered-has r (s ∷ ss) c e f = by (nat_le s.0 r.0 && nat_le r.1 s.1) refl e (λ h. covered-has r ss c h f)
  where
    or-left : (a b : Bool) → a ≡ true → (a || b) ≡ true
    or-left a b g = ap (λ x. x || b) g

    or-right : (a b : Bool) → b ≡ true → (a || b) ≡ true
    or-right true b g = refl
    or-right false b g = g

    by : (b : Bool) → (nat_le s.0 r.0 && nat_le r.1 s.1) ≡ b → (b || is_covered r ss) ≡ true → (is_covered r ss ≡ true → in_ranges ss c ≡ true) → in_ranges (s ∷ ss) c ≡ true
    by true g h rest = or-left (nat_le s.0 c && nat_le c s.1) (in_ranges ss c) (within-both r s c g f)
    by false g h rest = or-right (nat_le s.0 c && nat_le c s.1) (in_ranges ss c) (rest h)

all-covered : (rs ss : List (ℕ × ℕ)) (c : ℕ) → list_all (λ r. is_covered r ss) rs ≡ true → in_ranges rs c ≡ true → in_ranges ss c ≡ true
all-covered [] ss c e f = absurd (true≢false (sym f))
all-covered (r ∷ rs) ss c e f =
    by (nat_le r.0 c && nat_le c r.1) refl f (λ h. all-covered rs ss c (and-second (is_covered r ss) (list_all (λ r. is_covered r ss) rs) e) h)
  where
    by : (b : Bool) → (nat_le r.0 c && nat_le c r.1) ≡ b → (b || in_ranges rs c) ≡ true → (in_ranges rs c ≡ true → in_ranges ss c ≡ true) → in_ranges ss c ≡ true
    by true g h rest = covered-has r ss c (and-first (is_covered r ss) (list_all (λ r. is_covered r ss) rs) e) g
    by false g h rest = rest h

-- ---- characters of names

start-xml : (c : ℕ) → is_name_start c ≡ true → is_xml_char c ≡ true
unfolding is_name_start is_xml_char
start-xml c e = all-covered name_starts xml_chars c refl e

name_char-xml : (c : ℕ) → is_name_char c ≡ true → is_xml_char c ≡ true
unfolding is_name_char is_xml_char
name_char-xml c e = by (in_ranges name_starts c) refl e
  where
    by : (b : Bool) → in_ranges name_starts c ≡ b → (b || in_ranges further_name_chars c) ≡ true → in_ranges xml_chars c ≡ true
    by true f g = all-covered name_starts xml_chars c refl f
    by false f g = all-covered further_name_chars xml_chars c refl g

rest-xml : (cs : List ℕ) → list_all is_name_char cs ≡ true → list_all is_xml_char cs ≡ true
rest-xml [] e = refl
rest-xml (c ∷ cs) e =
    and-both (is_xml_char c) (list_all is_xml_char cs) (name_char-xml c (and-first (is_name_char c) (list_all is_name_char cs) e))
    (rest-xml cs (and-second (is_name_char c) (list_all is_name_char cs) e))

name-xml : (cs : List ℕ) → is_name cs ≡ true → list_all is_xml_char cs ≡ true
name-xml [] e = refl
name-xml (c ∷ cs) e =
    and-both (is_xml_char c) (list_all is_xml_char cs) (start-xml c (and-first (is_name_start c) (list_all is_name_char cs) e))
    (rest-xml cs (and-second (is_name_start c) (list_all is_name_char cs) e))

part-xml : (text : List ℕ) → is_name_part text ≡ true → IsXmlText text
part-xml text e =
    let spelled = and-first (spells_ncname text) (is_short_part text) e in
    let ncname = and-second (is_utf8 text) (is_ncname (chars text)) spelled in
    name-xml (chars text) (and-first (is_name (chars text)) (list_all (λ c. not (c == 0x3A)) (chars text)) ncname)

space-xml : (text : List ℕ) → is_namespace text ≡ true → IsXmlText text
space-xml text e =
    and-second (is_utf8 text) (list_all is_xml_char (chars text)) (and-first (has_xml_chars text) (is_short_space text) e)

-- ---- names of components

abbrev pub IsXmlName : Name → Type 0
IsXmlName name = IsXmlText name.local × IsXmlText name.space

pub declared-xml : (name : Name) → is_declarable name ≡ true → IsXmlName name
declared-xml name e =
    let both = and-first (is_namespace name.space && is_name_part name.local) (not (list_any (bytes_eq name.space) kept_spaces)) e in
    (part-xml name.local (and-second (is_namespace name.space) (is_name_part name.local) both), space-xml name.space (and-first (is_namespace name.space) (is_name_part name.local) both))

pub attribute-xml : (name : Name) → is_declarable_attribute name ≡ true → IsXmlName name
attribute-xml name e = declared-xml name (and-first (is_declarable name) (not (is_xmlns name)) e)
