-- UTF-8 of XML characters.
use Rattle.std.proofs.Common.{◌≡◌, ℕ, true, false, List, [], ◌∷◌, ◌++◌, refl, ◌∙◌, chars}
use Rattle.std.specs.List.{list_all}
use Rattle.std.specs.Str.{IsUtf8, is_utf8}
use Rattle.std.proofs.lemmas.Bool.{false_from_ne_true}
use Rattle.std.proofs.lemmas.List.Folds.{list_all-append}
use Rattle.std.proofs.lemmas.Str.{IsUtf8-from_is_utf8, is_utf8-from_IsUtf8}
use Rattle.base_texts.specs.Characters.{is_xml_char}
use Rattle.module_text.specs.Told.{is_xml_text}

pub xml-utf8 : (bs : List ℕ) → IsUtf8 bs → list_all is_xml_char (chars bs) ≡ is_xml_text bs
xml-utf8 bs u = rw (is_utf8-from_IsUtf8 bs u) refl

pub xml-not : (bs : List ℕ) → (IsUtf8 bs → ⊥) → false ≡ is_xml_text bs
xml-not bs never = rw (false_from_ne_true (is_utf8 bs) (λ e. never (IsUtf8-from_is_utf8 bs e))) refl

pub utf8-push : (xs : List (List ℕ)) (x : List ℕ) → list_all is_utf8 xs ≡ true → is_utf8 x ≡ true → list_all is_utf8 (xs ++ x ∷ []) ≡ true
utf8-push xs x all one = list_all-append is_utf8 xs (x ∷ []) ∙ rw all (rw one refl)
