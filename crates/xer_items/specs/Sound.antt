-- Items that a document may have, by XML 1.0 and Namespaces in XML 1.0. That their texts are UTF-8 is not stated here: all texts of
-- the code are.
use Rattle.std.specs.Prelude.{◌≡◌, ℕ, Bool, true, false, ◌&&◌, List, [], ◌∷◌, IsUtf8}
use Rattle.std.specs.List.{list_all}
use Rattle.std.specs.Str.{chars}
use Rattle.base_texts.specs.Characters.{is_xml_char}
use Rattle.base_texts.specs.Limits.{is_empty, is_xmlns}
use Rattle.base_texts.specs.declared.texts.Name.{Name}
use Rattle.base_trees.specs.Rose.{Rose, node, Roses, none, more, label_of}
use Rattle.xml_read.specs.Sound.{is_sound_name, has_name}
use Rattle.xml_items.specs.Plain.{Plain, element, text}

-- Production [2] Char.
abbrev pub HasCharacters : List ℕ → Type 0
HasCharacters words = IsUtf8 words → list_all is_xml_char (chars words) ≡ true

abbrev pub IsSoundAttribute : Name × List ℕ → Type 0
IsSoundAttribute attribute = (is_sound_name attribute.0 ≡ true) × (is_xmlns attribute.0 ≡ false) × HasCharacters attribute.1

-- No two attributes have one name.
abbrev pub AreSoundAttributes : List (Name × List ℕ) → Type 0
AreSoundAttributes [] = Unit {0}
AreSoundAttributes (attribute ∷ attributes) =
    IsSoundAttribute attribute × (has_name attribute.0 attributes ≡ false) × AreSoundAttributes attributes

abbrev pub IsSoundLabel : Plain → Type 0
IsSoundLabel (element name attributes) = (is_sound_name name ≡ true) × AreSoundAttributes attributes
IsSoundLabel (text words) = (is_empty words ≡ false) × HasCharacters words

abbrev pub is_text : Plain → Bool
is_text (element name attributes) = false
is_text (text words) = true

abbrev pub begins_with_text : Roses Plain → Bool
begins_with_text none = false
begins_with_text (more item items) = is_text (label_of item)

-- Each label is sound, and no two texts are adjacent.
abbrev mutual
  pub IsSound : Rose Plain → Type 0
  IsSound (node label items) = IsSoundLabel label × AreSound items

  pub AreSound : Roses Plain → Type 0
  AreSound none = Unit {0}
  AreSound (more item items) = IsSound item × ((is_text (label_of item) && begins_with_text items) ≡ false) × AreSound items
