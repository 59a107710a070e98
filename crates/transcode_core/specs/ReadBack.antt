-- The text that is written for octets reads back. This is promised of the text that is written, and is no part of what is required.
use Rattle.std.specs.Prelude.{◌≡◌, ℕ, List, Option, Some, Ok}
use Rattle.base_trees.specs.Rose.{Rose}
use Rattle.simple_types.specs.declared.labels.ValueLabel.{ValueLabel}
use Rattle.xml_items.specs.declared.label.ItemLabel.{ItemLabel}
use Rattle.xml_read.specs.Documents.{DocOf}
use Rattle.xml_items.specs.Plain.{Plain}
use Rattle.xml_items.specs.Unplaced.{unplaced}
use Rattle.xml_write.specs.Written.{written}
use Rattle.xml_write.specs.ReadBack.{ReadsAs}
use Rattle.schema_components.specs.SetParts.{SetParts}
use Rattle.xer_items.specs.Items.{Xer}
use Rattle.transcode_words.specs.declared.tasks.Syntax.{Syntax}
use Rattle.transcode_core.specs.Steps.{RootType, Typed, Decoded, Judged}

-- the text that is written of the items of the value (X.693) is read as a document with these items
pub record WrittenBack (type : RootType) (v : Rose ValueLabel) (text : List ℕ) : Type 0 where
  pub items : Rose Plain
  pub of_value : Xer type.assignments type.number v ≡ Some items
  pub is_written : text ≡ written (unplaced items)
  pub is_read : ReadsAs text (unplaced items)

-- the same of the value of which the octets that are left, where they are known, are the encoding
abbrev pub DecodedBack : Syntax → RootType → Option (List ℕ) → List ℕ → Type 0
DecodedBack syntax type left text = (v : Rose ValueLabel) × Decoded syntax type left (Ok v) × WrittenBack type v text

-- the text is a document that is valid with these items as its treated items
abbrev pub IsValidText : SetParts × ℕ → List ℕ → Rose Plain → Type 0
IsValidText opened text treated = (again : Rose ItemLabel) × DocOf text again × Judged opened.0 opened.1 again (Ok treated)

-- the same by the type of the root in a set; and the document is valid, with the items of the value as its treated items
pub record DocumentedBack (syntax : Syntax) (opened : SetParts × ℕ) (left : Option (List ℕ)) (text : List ℕ) : Type 0 where
  pub type : RootType
  pub typed : Typed opened (Ok type)
  pub value : Rose ValueLabel
  pub decoded : Decoded syntax type left (Ok value)
  pub back : WrittenBack type value text
  pub valid : IsValidText opened text back.items
