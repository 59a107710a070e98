-- Names and namespaces, by XML 1.0 and Namespaces in XML 1.0 and within the limits of this program.
use Rattle.std.specs.Prelude.{ℕ, Bool, true, false, ◌&&◌, nat_le, List, [], ◌∷◌, length, bytes_eq}
use Rattle.std.specs.List.{list_all}
use Rattle.std.specs.Str.{chars, is_utf8}
use Rattle.base_texts.specs.Characters.{is_xml_char, is_ncname}
use Rattle.base_texts.specs.Namespaces.{xmlns_prefix}
use Rattle.base_texts.specs.declared.texts.Name.{Name}

abbrev pub is_empty : {A : Type 0} → List A → Bool
is_empty [] = true
is_empty (x ∷ xs) = false

-- UTF-8 of the characters of XML 1.0, production [2] Char
abbrev pub has_xml_chars : List ℕ → Bool
has_xml_chars text = is_utf8 text && list_all is_xml_char (chars text)

-- UTF-8 of an NCName (Namespaces in XML 1.0, production [4])
abbrev pub spells_ncname : List ℕ → Bool
spells_ncname bytes = is_utf8 bytes && is_ncname (chars bytes)

-- a prefix or a local name has at most 255 bytes
abbrev pub is_short_part : List ℕ → Bool
is_short_part part = nat_le (length part) 255

-- a namespace has at most 1,023 bytes
abbrev pub is_short_space : List ℕ → Bool
is_short_space space = nat_le (length space) 1023

-- a prefix or a local name
abbrev pub is_name_part : List ℕ → Bool
is_name_part part = spells_ncname part && is_short_part part

-- a namespace, empty for no namespace
abbrev pub is_namespace : List ℕ → Bool
is_namespace space = has_xml_chars space && is_short_space space

-- `xmlns` without a namespace declares a namespace, and is not the name of an attribute (Namespaces in XML 1.0, section 3; XML
-- Schema Part 1, section 3.2.6, 'xmlns Not Allowed').
abbrev pub is_xmlns : Name → Bool
is_xmlns name = is_empty name.space && bytes_eq name.local xmlns_prefix
