-- Names beside an identifier or a reference, told in the form that tells them back.
use Rattle.std.proofs.Common.{◌≡◌, ◌≢◌, ℕ, ◌≤◌, Bool, true, false, ◌&&◌, ◌||◌, not, Option, Some, None, List, [], ◌∷◌, ◌++◌, refl, sym, subst, arith, codes}
use Rattle.std.specs.Prelude.{nat_le, ◌==◌, chars, if◌then◌else◌}
use Rattle.std.specs.List.{list_all}
use Rattle.std.specs.Str.{IsAscii, is_utf8}
use Rattle.std.specs.Char.{to_ascii_uppercase, to_ascii_lowercase}
use Rattle.std.proofs.lemmas.Bool.{true≢false, leb-true, eqb-true}
use Rattle.std.proofs.lemmas.Bool.Decides.{nat_tests}
use Rattle.std.proofs.lemmas.Str.{chars-IsAscii}
use Rattle.std.proofs.lemmas.Str.Ascii.{IsAscii-cons, IsAscii-nil}
use Rattle.base_texts.specs.Characters.{is_xml_char}
use Rattle.asn_names.specs.declared.restoration.NameForm.{NameForm}
use Rattle.asn_names.specs.declared.restoration.NameForm.TheVariants as name_form
use Rattle.asn_names.specs.Restoring.{capitalized, uncapitalized, form_of}
use Rattle.module_print.specs.Instructions.{in_form, as_name}
use Rattle.module_text.specs.declared.marks.NameAs.{NameAs}
use Rattle.module_text.specs.declared.marks.NameAs.TheVariants as as_
use Rattle.module_text.specs.Names.{is_letter_or_digit, is_small, is_capital, goes_on, is_identifier, is_reference}
use Rattle.module_text.specs.Texts.{as_text}
use Rattle.module_text.specs.Told.{told_name, is_form, has_xml_characters, is_told_so, is_xml_text}
use Rattle.module_text.proofs.PrintedBounds.{and-first, and-second}

pub and-both : (a b : Bool) → a ≡ true → b ≡ true → (a && b) ≡ true
and-both true b e f = f
and-both false b e f = e

or-first : (a b : Bool) → a ≡ true → (a || b) ≡ true
or-first true b e = refl
or-first false b e = absurd (true≢false (sym e))

or-second : (a b : Bool) → b ≡ true → (a || b) ≡ true
or-second true b e = refl
or-second false b e = e

-- ---- the bytes of names

-- letters, digits and hyphens, and some that lie between them
abbrev pub NameBytes : List ℕ → Type 0
NameBytes [] = Unit {0}
NameBytes (b ∷ bs) = (45 ≤ b) × (b ≤ 122) × NameBytes bs

letter-least : (b : ℕ) → is_letter_or_digit b ≡ true → 45 ≤ b
letter-least b e = grind (arith, nat_tests, e)

letter-most : (b : ℕ) → is_letter_or_digit b ≡ true → b ≤ 122
letter-most b e = grind (arith, nat_tests, e)

name_byte : (b : ℕ) (bs : List ℕ) (hyphen is : Bool) → (b == 45) ≡ is
    → (if is then not hyphen && goes_on true bs else is_letter_or_digit b && goes_on false bs) ≡ true
    → ((h : Bool) → goes_on h bs ≡ true → NameBytes bs) → NameBytes (b ∷ bs)
name_byte b bs hyphen true is e others =
    let at : b ≡ 45 = eqb-true b 45 is in
    (omega arith, omega arith, others true (and-second (not hyphen) (goes_on true bs) e))
name_byte b bs hyphen false is e others =
    let letter = and-first (is_letter_or_digit b) (goes_on false bs) e in
    (letter-least b letter, letter-most b letter, others false (and-second (is_letter_or_digit b) (goes_on false bs) e))

rest-bytes : (bs : List ℕ) (hyphen : Bool) → goes_on hyphen bs ≡ true → NameBytes bs
rest-bytes [] hyphen e = tt
rest-bytes (b ∷ bs) hyphen e = name_byte b bs hyphen (b == 45) refl e (rest-bytes bs)

pub identifier-bytes : (name : List ℕ) → is_identifier name ≡ true → NameBytes name
identifier-bytes [] e = tt
identifier-bytes (b ∷ bs) e =
    let small = and-first (is_small b) (goes_on false bs) e in
    let most : b ≤ 122 = leb-true b 122 (and-second (nat_le 97 b) (nat_le b 122) small) in
    let least : 97 ≤ b = leb-true 97 b (and-first (nat_le 97 b) (nat_le b 122) small) in
    (omega arith, omega arith, rest-bytes bs false (and-second (is_small b) (goes_on false bs) e))

pub reference-bytes : (name : List ℕ) → is_reference name ≡ true → NameBytes name
reference-bytes [] e = tt
reference-bytes (b ∷ bs) e =
    let capital = and-first (is_capital b) (goes_on false bs) e in
    let most : b ≤ 90 = leb-true b 90 (and-second (nat_le 65 b) (nat_le b 90) capital) in
    let least : 65 ≤ b = leb-true 65 b (and-first (nat_le 65 b) (nat_le b 90) capital) in
    (omega arith, omega arith, rest-bytes bs false (and-second (is_capital b) (goes_on false bs) e))

raised-least : (b : ℕ) → 45 ≤ b → 45 ≤ to_ascii_uppercase b
raised-least b l = grind (arith, nat_tests)

raised-most : (b : ℕ) → b ≤ 122 → to_ascii_uppercase b ≤ 122
raised-most b m = grind (arith, nat_tests)

lowered-least : (b : ℕ) → 45 ≤ b → 45 ≤ to_ascii_lowercase b
lowered-least b l = grind (arith, nat_tests)

lowered-most : (b : ℕ) → b ≤ 122 → to_ascii_lowercase b ≤ 122
lowered-most b m = grind (arith, nat_tests)

capitalized-bytes : (bs : List ℕ) → NameBytes bs → NameBytes (capitalized bs)
capitalized-bytes [] h = tt
capitalized-bytes (b ∷ bs) h = (raised-least b h.0, raised-most b h.1, h.2)

uncapitalized-bytes : (bs : List ℕ) → NameBytes bs → NameBytes (uncapitalized bs)
uncapitalized-bytes [] h = tt
uncapitalized-bytes (b ∷ bs) h = (lowered-least b h.0, lowered-most b h.1, h.2)

xml-byte : (b : ℕ) → 45 ≤ b → b ≤ 122 → is_xml_char b ≡ true
unfolding is_xml_char
xml-byte b l m =
    let low : nat_le 32 b ≡ true = grind (arith, nat_tests) in
    let high : nat_le b 55295 ≡ true = grind (arith, nat_tests) in
    or-second (nat_le 9 b && nat_le b 10) _ (or-second (nat_le 13 b && nat_le b 13) _ (or-first (nat_le 32 b && nat_le b 55295) _ (and-both (nat_le 32 b) (nat_le b 55295) low high)))

bytes-ascii : (bs : List ℕ) → NameBytes bs → IsAscii bs
bytes-ascii [] h = IsAscii-nil
bytes-ascii (b ∷ bs) h = IsAscii-cons b bs (omega (arith, h.1)) (bytes-ascii bs h.2)

bytes-xml : (bs : List ℕ) → NameBytes bs → list_all is_xml_char bs ≡ true
bytes-xml [] h = refl
bytes-xml (b ∷ bs) h = and-both (is_xml_char b) (list_all is_xml_char bs) (xml-byte b h.0 h.1) (bytes-xml bs h.2)

pub name-xml : (bs : List ℕ) → NameBytes bs → list_all is_xml_char (chars bs) ≡ true
name-xml bs h = let P : List ℕ → Type 0 = λ cs. list_all is_xml_char cs ≡ true in subst P (sym (chars-IsAscii bs (bytes-ascii bs h))) (bytes-xml bs h)

-- ---- names as they are told

-- what is told has XML characters alone
pub told-xml : (g : List ℕ) (n : NameAs) → NameBytes g → is_told_so g n ≡ true → list_all is_xml_char (chars (told_name g n)) ≡ true
told-xml g as_.Capitalized h e = name-xml (capitalized g) (capitalized-bytes g h)
told-xml g as_.Uncapitalized h e = name-xml (uncapitalized g) (uncapitalized-bytes g h)
told-xml g (as_.Quoted name) h e =
    let text : is_xml_text name ≡ true = and-second (is_form (as_.Quoted name) (form_of g name)) (is_xml_text name) e in
    and-second (is_utf8 name) (list_all is_xml_char (chars name)) text

-- it is another name
form_some : (n : NameAs) (o : Option NameForm) → is_form n o ≡ true → o ≢ None
form_some as_.Capitalized None e = λ f. true≢false (sym e)
form_some as_.Uncapitalized None e = λ f. true≢false (sym e)
form_some (as_.Quoted name) None e = λ f. true≢false (sym e)
form_some n (Some form) e = λ f. absurd (cc)

pub told-other : (g : List ℕ) (n : NameAs) → is_told_so g n ≡ true → form_of g (told_name g n) ≢ None
told-other g n e = form_some n (form_of g (told_name g n)) (and-first (is_form n (form_of g (told_name g n))) (has_xml_characters n) e)

in_same : (n : NameAs) (g : List ℕ) (o : Option NameForm) → is_form n o ≡ true → codes " AS " ++ in_form o (told_name g n) ≡ as_text n
in_same as_.Capitalized g (Some name_form.Capitalized) e = refl
in_same as_.Capitalized g (Some name_form.Uncapitalized) e = absurd (true≢false (sym e))
in_same as_.Capitalized g (Some name_form.Quoted) e = absurd (true≢false (sym e))
in_same as_.Capitalized g None e = absurd (true≢false (sym e))
in_same as_.Uncapitalized g (Some name_form.Capitalized) e = absurd (true≢false (sym e))
in_same as_.Uncapitalized g (Some name_form.Uncapitalized) e = refl
in_same as_.Uncapitalized g (Some name_form.Quoted) e = absurd (true≢false (sym e))
in_same as_.Uncapitalized g None e = absurd (true≢false (sym e))
in_same (as_.Quoted name) g (Some name_form.Capitalized) e = absurd (true≢false (sym e))
in_same (as_.Quoted name) g (Some name_form.Uncapitalized) e = absurd (true≢false (sym e))
in_same (as_.Quoted name) g (Some name_form.Quoted) e = refl
in_same (as_.Quoted name) g None e = absurd (true≢false (sym e))

-- and printed as it is written
pub told-same : (g : List ℕ) (n : NameAs) → is_told_so g n ≡ true → as_name g (told_name g n) ≡ as_text n
told-same g n e = in_same n g (form_of g (told_name g n)) (and-first (is_form n (form_of g (told_name g n))) (has_xml_characters n) e)
