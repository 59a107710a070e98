-- UTF-8 of XML characters alone.
use Rattle.std.proofs.Common.{◌≡◌, ℕ, true, List, chars}
use Rattle.std.specs.List.{list_all}
use Rattle.std.specs.Str.{IsUtf8, is_utf8}
use Rattle.std.proofs.lemmas.Str.{IsUtf8-from_is_utf8}
use Rattle.base_texts.specs.Characters.{is_xml_char}
use Rattle.module_text.specs.Told.{is_xml_text}
use Rattle.module_simple.proofs.Sounding.{and-first}

pub xml-utf8 : (bs : List ℕ) → is_xml_text bs ≡ true → IsUtf8 bs
xml-utf8 bs e = IsUtf8-from_is_utf8 bs (and-first (is_utf8 bs) (list_all is_xml_char (chars bs)) e)
