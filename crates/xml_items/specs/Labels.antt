-- The place of a node in its document, and the number of children that a label allows.
use Rattle.std.specs.Prelude.{◌≡◌, ℕ}
use Rattle.xml_items.specs.declared.label.ItemLabel.{ItemLabel}
use Rattle.xml_items.specs.declared.label.ItemLabel.TheVariants.{Element, Text}

-- A text has no children.
abbrev pub MayHave : ItemLabel → ℕ → Type 0
MayHave (Element name attributes declares at) kids = Unit {0}
MayHave (Text text at) kids = kids ≡ 0

-- the byte at which an element or a text begins
abbrev pub item_place : ItemLabel → ℕ
item_place (Element name attributes declares at) = at
item_place (Text text at) = at
