-- The conditions on trees of items, by XML 1.0 and Namespaces in XML 1.0 and within the limits of this program.
use Rattle.std.specs.Prelude.{◌≡◌, ℕ, suc, max, Bool, true, false, ◌&&◌, ◌||◌, not, ◌≤◌, ◌<◌, ◌^◌, List, [], ◌∷◌, bytes_eq}
use Rattle.std.specs.List.{list_all}
use Rattle.base_texts.specs.Limits.{is_empty, has_xml_chars, is_namespace, is_name_part, is_xmlns}
use Rattle.base_texts.specs.Namespaces.{xmlns_space}
use Rattle.base_texts.specs.declared.texts.Name.{Name}
use Rattle.base_trees.specs.Rose.{Rose, node, Roses, none, more, node_count, Allowed}
use Rattle.xml_items.specs.declared.label.ItemLabel.{ItemLabel}
use Rattle.xml_items.specs.declared.label.ItemLabel.TheVariants.{Element, Text}
use Rattle.xml_items.specs.Labels.{MayHave}
pub use Rattle.xml_pieces.specs.Namespaces.{has_name}

-- A namespace except that of `xmlns`, in which no name is (Namespaces in XML 1.0, section 3).
abbrev pub is_sound_space : List ℕ → Bool
is_sound_space space = is_namespace space && not (bytes_eq space xmlns_space)

-- An expanded name: a namespace, empty for no namespace, and an NCName.
abbrev pub is_sound_name : Name → Bool
is_sound_name name = is_sound_space name.space && is_name_part name.local

-- one attribute: its name, and the characters of its value
abbrev pub is_sound_attribute : Name × List ℕ → Bool
is_sound_attribute attribute = is_sound_name attribute.0 && not (is_xmlns attribute.0) && has_xml_chars attribute.1

-- The attributes are sound, and no two have the same name (Namespaces in XML 1.0, section 6.3).
abbrev pub are_sound_attributes : List (Name × List ℕ) → Bool
are_sound_attributes [] = true
are_sound_attributes (attribute ∷ attributes) =
    is_sound_attribute attribute && not (has_name attribute.0 attributes) && are_sound_attributes attributes

-- A prefix, empty for the default, with a namespace, which is empty only where the default is undeclared.
abbrev pub is_sound_binding : List ℕ × List ℕ → Bool
is_sound_binding binding = (is_empty binding.0 || (is_name_part binding.0 && not (is_empty binding.1))) && is_sound_space binding.1

abbrev pub is_sound_label : ItemLabel → Bool
is_sound_label (Element name attributes declares at) =
    is_sound_name name && are_sound_attributes attributes && list_all is_sound_binding declares
is_sound_label (Text text at) = not (is_empty text) && has_xml_chars text

abbrev pub is_text : ItemLabel → Bool
is_text (Element name attributes declares at) = false
is_text (Text text at) = true

-- The first item is a text.
abbrev pub begins_with_text : Roses ItemLabel → Bool
begins_with_text none = false
begins_with_text (more (node label kids) items) = is_text label

-- Each label is sound, and no two texts are adjacent.
abbrev mutual
  pub is_sound : Rose ItemLabel → Bool
  is_sound (node label kids) = is_sound_label label && are_sound kids

  pub are_sound : Roses ItemLabel → Bool
  are_sound none = true
  are_sound (more (node label kids) items) =
      is_sound (node label kids) && not (is_text label && begins_with_text items) && are_sound items

abbrev pub is_element : Rose ItemLabel → Bool
is_element (node label kids) = not (is_text label)

-- The number of levels of elements. The root has depth 1.
abbrev mutual
  pub levels : Rose ItemLabel → ℕ
  levels (node (Element name attributes declares at) kids) = suc (levels_all kids)
  levels (node (Text text at) kids) = levels_all kids

  pub levels_all : Roses ItemLabel → ℕ
  levels_all none = 0
  levels_all (more t ts) = max (levels t) (levels_all ts)

pub record AreItems (root : Rose ItemLabel) : Type 0 where
  pub allowed : Allowed MayHave root
  pub element : is_element root ≡ true
  pub sound : is_sound root ≡ true
  pub shallow : levels root ≤ 64
  pub few : node_count root < 2 ^ 31
