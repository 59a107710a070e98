-- Names that are told have UTF-8.
use Rattle.std.proofs.Common.{◌≡◌, ℕ, zero, suc, ◌<◌, ◌≤◌, ◌+◌, ◌-◌, Bool, true, false, List, [], ◌∷◌, ◌++◌, length, refl, sym, subst, arith}
use Rattle.std.specs.Prelude.{IsUtf8, nat_lt, All, cond, chars}
use Rattle.std.specs.List.{list_all}
use Rattle.std.specs.Str.{is_utf8, IsAscii}
use Rattle.std.specs.Char.{to_ascii_uppercase, to_ascii_lowercase}
use Rattle.std.proofs.lemmas.Bool.{ltb-true, ltb-false}
use Rattle.std.proofs.lemmas.Str.{IsUtf8-nil, IsUtf8-from_is_utf8, IsUtf8-from_ascii, IsUtf8-append, IsUtf8-drop, IsCharBoundary-after_ascii}
use Rattle.base_texts.specs.Characters.{is_xml_char}
use Rattle.asn_names.specs.Restoring.{capitalized, uncapitalized, form_of}
use Rattle.module_text.specs.declared.marks.NameAs.{NameAs}
use Rattle.module_text.specs.declared.marks.NameAs.TheVariants as as_
use Rattle.module_text.specs.Told.{told_name, is_form, is_told_so, is_xml_text, has_xml_characters}
use Rattle.module_text.proofs.PrintedBounds.{and-first, and-second}

-- one ASCII character in place of another at the front
ascii_front : (b c : ℕ) (bs : List ℕ) → IsUtf8 (b ∷ bs) → b < 128 → c < 128 → IsUtf8 (c ∷ bs)
ascii_front b c bs u low small =
    IsUtf8-append (c ∷ []) bs (IsUtf8-from_ascii (c ∷ []) (one_ascii c small))
    (IsUtf8-drop (b ∷ bs) 1 u (IsCharBoundary-after_ascii (b ∷ bs) 0 u (omega arith) low))
  where
    one_ascii : (c : ℕ) → c < 128 → IsAscii (c ∷ [])
    one_ascii c small zero = small
    one_ascii c small (suc i) = omega arith

pub capitalized-utf8 : (name : List ℕ) → IsUtf8 name → IsUtf8 (capitalized name)
capitalized-utf8 [] u = u
capitalized-utf8 (c ∷ cs) u = cases (nat_lt c 97) refl (nat_lt c 123) refl
  where
    cases : (is : Bool) → nat_lt c 97 ≡ is → (low : Bool) → nat_lt c 123 ≡ low → IsUtf8 (cond is c (cond low (c - 32) c) ∷ cs)
    cases true e low f = u
    cases false e true f = let l : c < 123 = ltb-true c 123 f in ascii_front c (c - 32) cs u (omega arith) (omega arith)
    cases false e false f = u

pub uncapitalized-utf8 : (name : List ℕ) → IsUtf8 name → IsUtf8 (uncapitalized name)
uncapitalized-utf8 [] u = u
uncapitalized-utf8 (c ∷ cs) u = cases (nat_lt c 65) refl (nat_lt c 91) refl
  where
    cases : (is : Bool) → nat_lt c 65 ≡ is → (low : Bool) → nat_lt c 91 ≡ low → IsUtf8 (cond is c (cond low (c + 32) c) ∷ cs)
    cases true e low f = u
    cases false e true f = let l : c < 91 = ltb-true c 91 f in ascii_front c (c + 32) cs u (omega arith) (omega arith)
    cases false e false f = u

pub xml-utf8 : (text : List ℕ) → is_xml_text text ≡ true → IsUtf8 text
xml-utf8 text e = IsUtf8-from_is_utf8 text (and-first (is_utf8 text) (list_all is_xml_char (chars text)) e)

-- A name that is told as it is to be has UTF-8.
pub told-utf8 : (generated : List ℕ) (name : NameAs) → IsUtf8 generated → is_told_so generated name ≡ true → IsUtf8 (told_name generated name)
told-utf8 generated as_.Capitalized u e = capitalized-utf8 generated u
told-utf8 generated as_.Uncapitalized u e = uncapitalized-utf8 generated u
told-utf8 generated (as_.Quoted name) u e =
    xml-utf8 name (and-second (is_form (as_.Quoted name) (form_of generated name)) (is_xml_text name) e)
