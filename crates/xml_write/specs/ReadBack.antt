-- Bytes that represent the same items.
use Rattle.std.specs.Prelude.{ℕ, List}
use Rattle.base_trees.specs.Rose.{Rose}
use Rattle.xml_items.specs.declared.label.ItemLabel.{ItemLabel}
use Rattle.xml_read.specs.Documents.{DocOf}
use Rattle.xml_write.specs.Same.{SameItems}

-- The bytes are a document whose items are the same as these.
abbrev pub ReadsAs : List ℕ → Rose ItemLabel → Type 0
ReadsAs bytes root = (again : Rose ItemLabel) × DocOf bytes again × SameItems root again
