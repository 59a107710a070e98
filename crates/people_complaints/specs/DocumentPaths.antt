-- The path to an element of a text that may be a document.
use Rattle.std.specs.Prelude.{◌≡◌, ◌⊎◌, ◌<◌, ℕ, List, [], length}
use Rattle.base_trees.specs.Rose.{Rose}
use Rattle.xml_items.specs.declared.label.ItemLabel.{ItemLabel}
use Rattle.xml_read.specs.Documents.{DocOf, BrokenAt}
use Rattle.xml_read.specs.declared.error.DocWhy.{DocWhy}
use Rattle.people_complaints.specs.Paths.{IsPath}

-- the text is no document that is read: it has over 16,777,216 bytes, or a first fault
abbrev pub IsNoDocument : List ℕ → Type 0
IsNoDocument text = (16777216 < length text) ⊎ ((at : ℕ) × (why : DocWhy) × BrokenAt text at why)

-- the path to the innermost element round the byte of the document that the text is, and nothing where the text is no document
abbrev pub IsDocumentPath : List ℕ → ℕ → List ℕ → Type 0
IsDocumentPath text at path = ((items : Rose ItemLabel) × DocOf text items × IsPath at items path) ⊎ (IsNoDocument text × (path ≡ []))
