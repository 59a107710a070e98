-- Documents that are read: each has the components of items that are sound and form a schema.
use Rattle.std.specs.Prelude.{◌≡◌, ◌≤◌, ℕ, true, List}
use Rattle.base_texts.specs.Lists.{HasItem}
use Rattle.base_trees.specs.Rose.{Rose}
use Rattle.xml_items.specs.declared.label.ItemLabel.{ItemLabel}
use Rattle.xml_read.specs.Sound.{is_sound, levels}
use Rattle.xml_read.specs.Tokens.{tokens, Ascend}
use Rattle.schema_faults.specs.Shown.{IsSchema}
use Rattle.schema_components.specs.Raw.{Document}
use Rattle.schema_read.specs.Raw.{raw_of}

-- The items are those of a document within the greatest size of a file.
pub record IsReadAs (d : Document) (root : Rose ItemLabel) : Type 0 where
  pub file : ℕ
  pub raw : d ≡ raw_of file root
  pub places : Ascend 0 16777216 (tokens root)
  pub schema : IsSchema root
  pub sound : is_sound root ≡ true
  pub shallow : levels root ≤ 64

abbrev pub AreRead : List Document → Type 0
AreRead docs = (d : Document) → HasItem docs d → (root : Rose ItemLabel) × IsReadAs d root
