-- The text that is written of items (XML 1.0; Namespaces in XML 1.0): an XML declaration, the root, and line feeds.
-- Each namespace has one prefix, declared on the root. The default namespace isn't used.
use Rattle.std.specs.Prelude.{◌==◌, ℕ, List, [], ◌∷◌, ◌++◌, if◌then◌else◌, codes}
use Rattle.std.specs.List.{flat_map}
use Rattle.base_texts.specs.declared.texts.Name.{Name}
use Rattle.base_texts.specs.Limits.{is_empty}
use Rattle.base_trees.specs.Rose.{Rose, node, Roses, none, more}
use Rattle.xml_items.specs.declared.label.ItemLabel.{ItemLabel}
use Rattle.xml_items.specs.declared.label.ItemLabel.TheVariants.{Element, Text}
use Rattle.xml_write.specs.Spaces.{prefixes, prefix_for}

-- ---- characters (XML 1.0, sections 2.4, 2.11 and 3.3.3). A byte over 7F is part of a longer character, and stays.

-- A byte of a text. A carriage return is escaped, since it would be read as a line feed.
abbrev pub text_escape : ℕ → List ℕ
text_escape byte =
    if byte == 38 then codes "&amp;"
    else (if byte == 60 then codes "&lt;"
    else (if byte == 62 then codes "&gt;"
    else (if byte == 13 then codes "&#13;" else byte ∷ [])))

-- A byte of an attribute's value. A tab and a line feed are escaped, since they would be read as spaces.
abbrev pub value_escape : ℕ → List ℕ
value_escape byte =
    if byte == 34 then codes "&quot;"
    else (if byte == 9 then codes "&#9;"
    else (if byte == 10 then codes "&#10;" else text_escape byte))

-- ---- tags

-- a name in no namespace has no prefix
abbrev pub written_name : List (List ℕ × List ℕ) → Name → List ℕ
written_name table name = if is_empty name.space then name.local else prefix_for table name.space ++ 58 ∷ name.local

-- The value of an attribute, after its name.
abbrev pub written_value : List ℕ → List ℕ
written_value value = 61 ∷ 34 ∷ flat_map value_escape value ++ 34 ∷ []

abbrev pub written_attribute : List (List ℕ × List ℕ) → Name × List ℕ → List ℕ
written_attribute table attribute = 32 ∷ written_name table attribute.0 ++ written_value attribute.1

-- a namespace with its prefix
abbrev pub written_declaration : List ℕ × List ℕ → List ℕ
written_declaration bound = codes " xmlns:" ++ bound.1 ++ written_value bound.0

-- a start tag without its end, with declarations before the attributes
abbrev pub written_start : List (List ℕ × List ℕ) → List ℕ → Name → List (Name × List ℕ) → List ℕ
written_start table declarations name attributes =
    60 ∷ written_name table name ++ declarations ++ flat_map (written_attribute table) attributes

abbrev pub written_end : List (List ℕ × List ℕ) → Name → List ℕ
written_end table name = 60 ∷ 47 ∷ written_name table name ++ 62 ∷ []

-- an element without children is an empty tag
abbrev pub written_element : List ℕ → List ℕ → List ℕ → Roses ItemLabel → List ℕ
written_element start inner end none = start ++ 47 ∷ 62 ∷ []
written_element start inner end (more item items) = start ++ 62 ∷ inner ++ end

-- a node, with declarations before its attributes
abbrev mutual
  pub spelled : List (List ℕ × List ℕ) → List ℕ → Rose ItemLabel → List ℕ
  spelled table declarations (node (Element name attributes declares at) kids) =
      written_element (written_start table declarations name attributes) (all_spelled table kids) (written_end table name) kids
  spelled table declarations (node (Text text at) kids) = flat_map text_escape text

  pub all_spelled : List (List ℕ × List ℕ) → Roses ItemLabel → List ℕ
  all_spelled table none = []
  all_spelled table (more item items) = spelled table [] item ++ all_spelled table items

abbrev pub xml_declaration : List ℕ
xml_declaration = codes "<?xml version=\"1.0\" encoding=\"UTF-8\"?>\n"

-- the text of a document with these items
abbrev pub written : Rose ItemLabel → List ℕ
written root =
    let table = prefixes root in
    xml_declaration ++ spelled table (flat_map written_declaration table) root ++ 10 ∷ []
