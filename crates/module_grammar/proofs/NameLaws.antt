-- The laws of names, numbers, quoted texts and octets.
use Rattle.std.proofs.Common.{◌≡◌, ◌==◌, if◌then◌else◌, ℕ, ◌+◌, ◌<◌, ◌⊎◌, inl, inr, Bool, true, false, ◌&&◌, not, List, [], ◌∷◌, ◌++◌, length, map, refl, sym, ap, ◌∙◌, arith, codes, eqb-true, Option, None, option_map}
use Rattle.std.specs.List.{flat_map, list_all}
use Rattle.base_texts.specs.Digits.{is_digit, is_numeral}
use Rattle.module_print.specs.Notation.{doubled, quoted}
use Rattle.module_grammar.specs.Reading.{Answer, Found, Fails, one_byte_more, or_else, word_at, byte_at, as_at, behind_at}
use Rattle.module_grammar.specs.Shapes.{Sunk, moved, Anything, AnyRest, never, word_of, IsFailed, IsUnread, deeper, BothFine, both_deep, EitherFine, either_deep, either_written, EachFine, each_written, each_deep, BehindFine, shifted, behind_word, Stops}
use Rattle.module_grammar.specs.Laws.{Law}
use Rattle.module_grammar.proofs.WordLaws.{word_law, byte_law}
use Rattle.module_grammar.proofs.Then.{then_law}
use Rattle.module_grammar.proofs.Or.{or_law}
use Rattle.module_grammar.proofs.Many.{many_law}
use Rattle.module_grammar.proofs.As.{Renames, as_law}
use Rattle.module_grammar.proofs.Fixed.{behind_law, before_law}
use Rattle.module_text.specs.Names.{is_capital, is_small, is_letter_or_digit, goes_on, is_reference, is_identifier, is_number, is_hexadecimal_digit, are_octets}
use Rattle.module_text.specs.declared.bounds.PlainNumber.{PlainNumber}
use Rattle.module_text.specs.declared.types.PlainName.{PlainName}
use Rattle.module_grammar.specs.NameReading.{piece_at, byte_text, piece_text, begun, name_at, identifier_at, reference_at, name_here, plain_identifier_at, digits_of, numeral_at, signed, signed_at, number_here, number_at, is_plain_byte, quoted_byte_at, byte_of, quoted_at, octet_at, octet_text, octets_of, octets_at}
use Rattle.module_grammar.proofs.Unread.{other_first}
use Rattle.module_grammar.proofs.Booleans.{both, and_true, not_true, false_not, is_other}

-- where no part of a list is deep, none of it is
pub each_never : {A : Type 0} (write : A → List ℕ) (deep : A → Option Sunk) → ((a : A) → deep a ≡ None) → (xs : List A) → each_deep write deep xs ≡ None
each_never write deep h [] = refl
each_never write deep h (a ∷ xs) = ap (λ d. deeper (length (write a)) d (each_deep write deep xs)) (h a) ∙ ap (λ d. option_map (moved (length (write a))) d) (each_never write deep h xs)

pub end_of_none : (size : ℕ) (d : Option Sunk) → d ≡ None → deeper size None d ≡ None
end_of_none size d e = ap (λ k. deeper size None k) e

-- ---- pieces

abbrev pub IsPiece : ℕ → ℕ ⊎ ℕ → Type 0
IsPiece = EitherFine (λ place b. is_letter_or_digit b ≡ true) (BehindFine (codes "-") (λ place b. is_letter_or_digit b ≡ true))

abbrev pub piece_deep : ℕ ⊎ ℕ → Option Sunk
piece_deep = either_deep never (shifted (codes "-") never)

piece_never : (p : ℕ ⊎ ℕ) → piece_deep p ≡ None
piece_never (inl b) = refl
piece_never (inr b) = refl

pub piece_law : Law IsPiece piece_deep piece_text AnyRest piece_at
piece_law = or_law (byte_law is_letter_or_digit (65, refl)) (behind_law (codes "-") (byte_law is_letter_or_digit (65, refl)) (λ place. (65, refl))) (λ place a rest f h. tt) (λ place a rest f h. tt) (λ place b rest f h. tt)

pub piece_bytes : (place : ℕ) (p : ℕ ⊎ ℕ) → IsPiece place p → 0 < length (piece_text p)
piece_bytes place (inl b) f = omega arith
piece_bytes place (inr b) f = omega arith

-- what ends a name
abbrev pub NameStops : List ℕ → Type 0
NameStops = Stops AnyRest piece_at

-- ---- names

goes_byte : (b : ℕ) (bs : List ℕ) → is_letter_or_digit b ≡ true → goes_on false bs ≡ true → goes_on false (b ∷ bs) ≡ true
goes_byte b bs e f = ap (λ t. if t then not false && goes_on true bs else is_letter_or_digit b && goes_on false bs) (is_other is_letter_or_digit b 0x2D e refl) ∙ and_true (is_letter_or_digit b) (goes_on false bs) e f

goes_hyphen : (b : ℕ) (bs : List ℕ) → is_letter_or_digit b ≡ true → goes_on false bs ≡ true → goes_on true (b ∷ bs) ≡ true
goes_hyphen b bs e f = ap (λ t. if t then not true && goes_on true bs else is_letter_or_digit b && goes_on false bs) (is_other is_letter_or_digit b 0x2D e refl) ∙ and_true (is_letter_or_digit b) (goes_on false bs) e f

pieces_go : (place : ℕ) (ps : List (ℕ ⊎ ℕ)) → EachFine IsPiece piece_text place ps → goes_on false (each_written piece_text ps) ≡ true
pieces_go place [] f = refl
pieces_go place (inl b ∷ ps) f = goes_byte b (each_written piece_text ps) f.0 (pieces_go (place + 1) ps f.1)
pieces_go place (inr b ∷ ps) f = goes_hyphen b (each_written piece_text ps) f.0 (pieces_go (place + 2) ps f.1)

abbrev Pieces : ℕ → List ℕ → Type 0
Pieces place bs = (ps : List (ℕ ⊎ ℕ)) × EachFine IsPiece piece_text place ps × (each_written piece_text ps ≡ bs)

-- a byte that is a letter or a digit, before more of them
one_byte : (place b : ℕ) (bs : List ℕ) → is_letter_or_digit b && goes_on false bs ≡ true → (goes_on false bs ≡ true → Pieces (place + 1) bs) → Pieces place (b ∷ bs)
one_byte place b bs e more =
    let h = both (is_letter_or_digit b) (goes_on false bs) e in
    let ps = more h.1 in
    (inl b ∷ ps.0, (h.0, ps.1), ap (λ l. b ∷ l) ps.2)

-- the first byte behind a hyphen
behind_hyphen : (place b c : ℕ) (cs : List ℕ) → b ≡ 45 → goes_on true (c ∷ cs) ≡ true → (goes_on false cs ≡ true → Pieces (place + 2) cs) → Pieces place (b ∷ c ∷ cs)
behind_hyphen place b c cs e h more = cases (c == 0x2D) h
  where
    cases : (t : Bool) → (if t then not true && goes_on true cs else is_letter_or_digit c && goes_on false cs) ≡ true → Pieces place (b ∷ c ∷ cs)
    cases true h = absurd cc
    cases false h =
        let g = both (is_letter_or_digit c) (goes_on false cs) h in
        let ps = more g.1 in
        (inr c ∷ ps.0, (g.0, ps.1), ap (λ l. 45 ∷ c ∷ l) ps.2 ∙ ap (λ k. k ∷ c ∷ cs) (sym e))

pieces_of : (place : ℕ) (bs : List ℕ) → goes_on false bs ≡ true → Pieces place bs
pieces_of place [] e = ([], tt, refl)
pieces_of place (b ∷ []) e = cases (b == 0x2D) e
  where
    cases : (t : Bool) → (if t then not false && goes_on true [] else is_letter_or_digit b && goes_on false []) ≡ true → Pieces place (b ∷ [])
    cases true h = absurd cc
    cases false h = one_byte place b [] h (λ g. ([], tt, refl))
pieces_of place (b ∷ c ∷ cs) e = cases (b == 0x2D) refl e (pieces_of (place + 1) (c ∷ cs)) (pieces_of (place + 2) cs)
  where
    cases : (t : Bool) → (b == 0x2D) ≡ t → (if t then not false && goes_on true (c ∷ cs) else is_letter_or_digit b && goes_on false (c ∷ cs)) ≡ true
        → (goes_on false (c ∷ cs) ≡ true → Pieces (place + 1) (c ∷ cs)) → (goes_on false cs ≡ true → Pieces (place + 2) cs) → Pieces place (b ∷ c ∷ cs)
    cases true k h one two = behind_hyphen place b c cs (eqb-true b 0x2D k) h two
    cases false k h one two = one_byte place b (c ∷ cs) h one

-- names that begin with a byte of a class
module _ (is_first : ℕ → Bool) (some : (b : ℕ) × (is_first b ≡ true)) (test : List ℕ → Bool) (none : test [] ≡ false) (more : (b : ℕ) (bs : List ℕ) → test (b ∷ bs) ≡ (is_first b && goes_on false bs)) where
  abbrev Named : ℕ → List ℕ → Type 0
  Named place name = test name ≡ true

  abbrev First : ℕ → ℕ → Type 0
  First place b = is_first b ≡ true

  abbrev Begun : ℕ → ℕ × List (ℕ ⊎ ℕ) → Type 0
  Begun = BothFine First byte_text (λ b. EachFine IsPiece piece_text)

  onto_name : (place : ℕ) (name : List ℕ) → Named place name → (x : ℕ × List (ℕ ⊎ ℕ)) × Begun place x × (begun place x ≡ name)
  onto_name place [] f = absurd (nothing (sym none ∙ f))
    where
      nothing : false ≡ true → ⊥
      nothing e = cc
  onto_name place (b ∷ bs) f =
      let h = both (is_first b) (goes_on false bs) (sym (more b bs) ∙ f) in
      let ps = pieces_of (place + 1) bs h.1 in
      ((b, ps.0), (h.0, ps.1), ap (λ l. b ∷ l) ps.2)

  pub name_law_of : Law Named never (λ name. name) NameStops (name_at is_first)
  name_law_of = as_law
      (then_law {Follow = NameStops} (byte_law is_first some) (λ place b h. many_law piece_law piece_bytes (λ place p rest f g. tt)) (λ place here b h. ([], tt)) (λ place here b ps rest f g h. tt) (λ place here b ps rest f g h. h))
      (record {
        fine = λ place x f. more x.0 (each_written piece_text x.1) ∙ and_true (is_first x.0) (goes_on false (each_written piece_text x.1)) f.0 (pieces_go (place + 1) x.1 f.1);
        deep = λ place x f. sym (end_of_none 1 (each_deep piece_text piece_deep x.1) (each_never piece_text piece_deep piece_never x.1));
        write = λ place x f. refl;
        onto = onto_name;
      })

abbrev pub IsIdentifier : ℕ → List ℕ → Type 0
IsIdentifier place name = is_identifier name ≡ true

abbrev pub IsReference : ℕ → List ℕ → Type 0
IsReference place name = is_reference name ≡ true

abbrev pub itself : List ℕ → List ℕ
itself name = name

pub identifier_law : Law IsIdentifier never itself NameStops identifier_at
identifier_law = name_law_of is_small (97, refl) is_identifier refl (λ b bs. refl)

pub reference_law : Law IsReference never itself NameStops reference_at
reference_law = name_law_of is_capital (65, refl) is_reference refl (λ b bs. refl)

abbrev pub name_text : PlainName → List ℕ
name_text i = i.name

abbrev pub IsIdentifierHere : ℕ → PlainName → Type 0
IsIdentifierHere place i = (is_identifier i.name ≡ true) × (i.at ≡ place)

abbrev pub IsReferenceHere : ℕ → PlainName → Type 0
IsReferenceHere place i = (is_reference i.name ≡ true) × (i.at ≡ place)

pub name_renames : (test : List ℕ → Bool) → Renames (λ place name. test name ≡ true) never itself (λ place (i : PlainName). (test i.name ≡ true) × (i.at ≡ place)) never name_text name_here
name_renames test = record { fine = λ place name f. (f, refl); deep = λ place name f. refl; write = λ place name f. refl; onto = λ place i f. (i.name, f.0, ap (λ p. name_here p i.name) (sym f.1)) }

pub plain_identifier_law : Law IsIdentifierHere never name_text NameStops plain_identifier_at
plain_identifier_law = as_law identifier_law (name_renames is_identifier)

pub plain_reference_law : Law IsReferenceHere never name_text NameStops (as_at name_here reference_at)
plain_reference_law = as_law reference_law (name_renames is_reference)

-- ---- numbers

abbrev pub IsDigit : ℕ → ℕ → Type 0
IsDigit place b = is_digit b ≡ true

abbrev pub IsNumeral : ℕ → List ℕ → Type 0
IsNumeral place digits = is_numeral digits ≡ true

-- what ends a number
abbrev pub DigitStops : List ℕ → Type 0
DigitStops = Stops AnyRest (byte_at is_digit)

pub singles : (ds : List ℕ) → ds ≡ each_written byte_text ds
singles [] = refl
singles (d ∷ ds) = ap (λ l. d ∷ l) (singles ds)

all_digits : (place : ℕ) (ds : List ℕ) → EachFine IsDigit byte_text place ds → list_all is_digit ds ≡ true
all_digits place [] f = refl
all_digits place (d ∷ ds) f = and_true (is_digit d) (list_all is_digit ds) f.0 (all_digits (place + 1) ds f.1)

digits_all : (place : ℕ) (ds : List ℕ) → list_all is_digit ds ≡ true → EachFine IsDigit byte_text place ds
digits_all place [] e = tt
digits_all place (d ∷ ds) e = let h = both (is_digit d) (list_all is_digit ds) e in (h.0, digits_all (place + 1) ds h.1)

onto_numeral : (place : ℕ) (digits : List ℕ) → IsNumeral place digits → (x : ℕ × List ℕ) × BothFine IsDigit byte_text (λ b. EachFine IsDigit byte_text) place x × (digits_of place x ≡ digits)
onto_numeral place [] f = absurd cc
onto_numeral place (d ∷ ds) f = let h = both (is_digit d) (list_all is_digit ds) f in ((d, ds), (h.0, digits_all (place + 1) ds h.1), refl)

pub numeral_law : Law IsNumeral never itself DigitStops numeral_at
numeral_law = as_law
    (then_law {Follow = DigitStops} (byte_law is_digit (48, refl)) (λ place b h. many_law (byte_law is_digit (48, refl)) (λ place d f. omega arith) (λ place d rest f g. tt)) (λ place here b h. ([], tt)) (λ place here b ds rest f g h. tt) (λ place here b ds rest f g h. h))
    (record {
      fine = λ place x f. and_true (is_digit x.0) (list_all is_digit x.1) f.0 (all_digits (place + 1) x.1 f.1);
      deep = λ place x f. sym (end_of_none 1 (each_deep byte_text never x.1) (each_never byte_text never (λ a. refl) x.1));
      write = λ place x f. ap (λ l. x.0 ∷ l) (singles x.1);
      onto = onto_numeral;
    })

abbrev pub IsSigned : ℕ → List ℕ → Type 0
IsSigned place written = is_number written ≡ true

pub numeral_first : (digits : List ℕ) → is_numeral digits ≡ true → is_number digits ≡ true
numeral_first [] e = e
numeral_first (d ∷ ds) e = ap (λ t. if t then is_numeral ds else is_numeral (d ∷ ds)) (is_other is_digit d 0x2D (both (is_digit d) (list_all is_digit ds) e).0 refl) ∙ e

abbrev SignedFine : ℕ → List ℕ ⊎ List ℕ → Type 0
SignedFine = EitherFine (BehindFine (codes "-") IsNumeral) IsNumeral

signed_fine : (place : ℕ) (x : List ℕ ⊎ List ℕ) → SignedFine place x → IsSigned place (signed place x)
signed_fine place (inl digits) f = f
signed_fine place (inr digits) f = numeral_first digits f

signed_deep : (place : ℕ) (x : List ℕ ⊎ List ℕ) → SignedFine place x → None ≡ either_deep (shifted (codes "-") never) never x
signed_deep place (inl digits) f = refl
signed_deep place (inr digits) f = refl

signed_write : (place : ℕ) (x : List ℕ ⊎ List ℕ) → SignedFine place x → signed place x ≡ either_written (behind_word (codes "-") itself) itself x
signed_write place (inl digits) f = refl
signed_write place (inr digits) f = refl

onto_signed : (place : ℕ) (written : List ℕ) → IsSigned place written → (x : List ℕ ⊎ List ℕ) × SignedFine place x × (signed place x ≡ written)
onto_signed place [] f = absurd cc
onto_signed place (b ∷ bs) f = cases (b == 0x2D) refl f
  where
    cases : (t : Bool) → (b == 0x2D) ≡ t → (if t then is_numeral bs else is_numeral (b ∷ bs)) ≡ true → (x : List ℕ ⊎ List ℕ) × SignedFine place x × (signed place x ≡ (b ∷ bs))
    cases true k h = (inl bs, h, ap (λ c. c ∷ bs) (sym (eqb-true b 0x2D k)))
    cases false k h = (inr (b ∷ bs), h, refl)

-- a numeral does not begin with a hyphen
pub no_hyphen : (place : ℕ) (digits rest : List ℕ) → IsNumeral place digits → IsFailed (behind_at (codes "-") numeral_at place (digits ++ rest))
no_hyphen place [] rest f = absurd cc
no_hyphen place (d ∷ ds) rest f = other_first d 45 [] numeral_at place (ds ++ rest) (is_other is_digit d 45 (both (is_digit d) (list_all is_digit ds) f).0 refl)

pub signed_law : Law IsSigned never itself DigitStops signed_at
signed_law = as_law
    (or_law {Follow = DigitStops} (behind_law (codes "-") numeral_law (λ place. (48 ∷ [], refl))) numeral_law (λ place a rest f h. h) (λ place a rest f h. h) (λ place b rest f h. no_hyphen place b rest f))
    (record { fine = signed_fine; deep = signed_deep; write = signed_write; onto = onto_signed })

abbrev pub number_text : PlainNumber → List ℕ
number_text n = n.written

abbrev pub IsNumberHere : ℕ → PlainNumber → Type 0
IsNumberHere place n = (is_number n.written ≡ true) × (n.at ≡ place)

pub number_law : Law IsNumberHere never number_text DigitStops number_at
number_law = as_law signed_law
    (record { fine = λ place written f. (f, refl); deep = λ place written f. refl; write = λ place written f. refl; onto = λ place n f. (n.written, f.0, ap (λ p. number_here p n.written) (sym f.1)) })

-- ---- quoted texts

abbrev PlainByte : ℕ → ℕ → Type 0
PlainByte place b = is_plain_byte b ≡ true

abbrev QuotedByte : ℕ → ℕ ⊎ Unit {0} → Type 0
QuotedByte = EitherFine PlainByte Anything

abbrev quoted_byte_text : ℕ ⊎ Unit {0} → List ℕ
quoted_byte_text = either_written byte_text (word_of (codes "\"\""))

abbrev quoted_byte_deep : ℕ ⊎ Unit {0} → Option Sunk
quoted_byte_deep = either_deep never never

-- what ends a quoted text: no other quotation mark
abbrev pub QuoteStops : List ℕ → Type 0
QuoteStops = IsUnread (word_at (codes "\""))

quoted_byte_law : Law QuotedByte quoted_byte_deep quoted_byte_text AnyRest quoted_byte_at
quoted_byte_law = or_law (byte_law is_plain_byte (65, refl)) (word_law (codes "\"\"")) (λ place a rest f h. tt) (λ place a rest f h. tt) (λ place b rest f h. tt)

quoted_byte_some : (place : ℕ) (x : ℕ ⊎ Unit {0}) → QuotedByte place x → 0 < length (quoted_byte_text x)
quoted_byte_some place (inl b) f = omega arith
quoted_byte_some place (inr x) f = omega arith

quoted_byte_never : (x : ℕ ⊎ Unit {0}) → quoted_byte_deep x ≡ None
quoted_byte_never (inl b) = refl
quoted_byte_never (inr x) = refl

abbrev found_one : Answer (Unit {0})
found_one = Found tt 1 1

abbrev found_none : Answer (Unit {0})
found_none = Fails 0

abbrev no_byte : Answer ℕ
no_byte = Fails 0

one_mark : (place : ℕ) (rest : List ℕ) → IsFailed (word_at (codes "\"") place rest) → IsFailed (quoted_byte_at place (34 ∷ rest))
one_mark place [] g = tt
one_mark place (b ∷ bs) g = cases (b == 34) g
  where
    cases : (t : Bool) → IsFailed (if t then found_one else found_none) → IsFailed (or_else (one_byte_more (if t then found_one else found_none)) no_byte)
    cases true g = absurd g
    cases false g = tt

-- the closing quotation mark is not one of two
closes : (rest : List ℕ) → QuoteStops rest → Stops AnyRest quoted_byte_at (codes "\"" ++ rest)
closes rest h = record { item = tt; fails = λ place. one_mark place rest (h place) }

written_bytes : (place : ℕ) (xs : List (ℕ ⊎ Unit {0})) → EachFine QuotedByte quoted_byte_text place xs → flat_map doubled (map byte_of xs) ≡ each_written quoted_byte_text xs
written_bytes place [] f = refl
written_bytes place (inl b ∷ xs) f = ap (λ t. (if t then 34 ∷ 34 ∷ [] else b ∷ []) ++ flat_map doubled (map byte_of xs)) (not_true (b == 34) f.0) ∙ ap (λ l. b ∷ l) (written_bytes (place + 1) xs f.1)
written_bytes place (inr x ∷ xs) f = ap (λ l. 34 ∷ 34 ∷ l) (written_bytes (place + 2) xs f.1)

quoted_bytes : (place : ℕ) (text : List ℕ) → (xs : List (ℕ ⊎ Unit {0})) × EachFine QuotedByte quoted_byte_text place xs × (map byte_of xs ≡ text)
quoted_bytes place [] = ([], tt, refl)
quoted_bytes place (b ∷ bs) = cases (b == 34) refl (quoted_bytes (place + 1) bs) (quoted_bytes (place + 2) bs)
  where
    cases : (t : Bool) → (b == 34) ≡ t → ((xs : List (ℕ ⊎ Unit {0})) × EachFine QuotedByte quoted_byte_text (place + 1) xs × (map byte_of xs ≡ bs)) → ((xs : List (ℕ ⊎ Unit {0})) × EachFine QuotedByte quoted_byte_text (place + 2) xs × (map byte_of xs ≡ bs))
        → (xs : List (ℕ ⊎ Unit {0})) × EachFine QuotedByte quoted_byte_text place xs × (map byte_of xs ≡ (b ∷ bs))
    cases true k one two = (inr tt ∷ two.0, (tt, two.1), ap (λ l. 34 ∷ l) two.2 ∙ ap (λ c. c ∷ bs) (sym (eqb-true b 34 k)))
    cases false k one two = (inl b ∷ one.0, (false_not (b == 34) k, one.1), ap (λ l. b ∷ l) one.2)

pub quoted_law : Law Anything never quoted QuoteStops quoted_at
quoted_law = as_law
    (behind_law (codes "\"") (before_law (codes "\"") {Follow = QuoteStops} (many_law quoted_byte_law quoted_byte_some (λ place b rest f g. tt)) (λ place xs rest f h. closes rest h)) (λ place. ([], tt)))
    (record {
      fine = λ place xs f. tt;
      deep = λ place xs f. sym (ap (λ d. option_map (moved 1) d) (each_never quoted_byte_text quoted_byte_deep quoted_byte_never xs));
      write = λ place xs f. ap (λ l. 34 ∷ (l ++ (34 ∷ []))) (written_bytes (place + 1) xs f);
      onto = λ place text f. quoted_bytes (place + 1) text;
    })

-- ---- octets

abbrev IsHexadecimal : ℕ → ℕ → Type 0
IsHexadecimal place b = is_hexadecimal_digit b ≡ true

abbrev IsOctet : ℕ → ℕ × ℕ → Type 0
IsOctet = BothFine IsHexadecimal byte_text (λ high. IsHexadecimal)

abbrev octet_deep : ℕ × ℕ → Option Sunk
octet_deep = both_deep byte_text never (λ high. never)

octet_law : Law IsOctet octet_deep octet_text AnyRest octet_at
octet_law = then_law {Follow = AnyRest} (byte_law is_hexadecimal_digit (48, refl)) (λ place b h. byte_law is_hexadecimal_digit (48, refl)) (λ place here b h. (48, refl)) (λ place here a b rest f g h. tt) (λ place here a b rest f g h. tt)

abbrev pub AreOctets : ℕ → List ℕ → Type 0
AreOctets place digits = are_octets digits ≡ true

octets_fine : (place : ℕ) (xs : List (ℕ × ℕ)) → EachFine IsOctet octet_text place xs → are_octets (each_written octet_text xs) ≡ true
octets_fine place [] f = refl
octets_fine place (x ∷ xs) f = and_true (is_hexadecimal_digit x.0 && is_hexadecimal_digit x.1) (are_octets (each_written octet_text xs)) (and_true (is_hexadecimal_digit x.0) (is_hexadecimal_digit x.1) f.0.0 f.0.1) (octets_fine (place + 2) xs f.1)

onto_octets : (place : ℕ) (digits : List ℕ) → AreOctets place digits → (xs : List (ℕ × ℕ)) × EachFine IsOctet octet_text place xs × (octets_of place xs ≡ digits)
onto_octets place [] e = ([], tt, refl)
onto_octets place (high ∷ []) e = absurd cc
onto_octets place (high ∷ low ∷ digits) e =
    let h = both (is_hexadecimal_digit high && is_hexadecimal_digit low) (are_octets digits) e in
    let k = both (is_hexadecimal_digit high) (is_hexadecimal_digit low) h.0 in
    let xs = onto_octets (place + 2) digits h.1 in
    ((high, low) ∷ xs.0, ((k.0, k.1), xs.1), ap (λ l. high ∷ low ∷ l) xs.2)

-- what ends octets
abbrev pub OctetStops : List ℕ → Type 0
OctetStops = Stops AnyRest octet_at

pub octets_law : Law AreOctets never itself OctetStops octets_at
octets_law = as_law (many_law octet_law (λ place x f. omega arith) (λ place b rest f g. tt))
    (record {
      fine = octets_fine;
      deep = λ place xs f. sym (each_never octet_text octet_deep (λ x. refl) xs);
      write = λ place xs f. refl;
      onto = onto_octets;
    })
