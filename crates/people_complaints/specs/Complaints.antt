-- WHAT A COMPLAINT SAYS of an outcome.
use Rattle.std.specs.Prelude.{◌≡◌, ◌⊎◌, ℕ, ◌<◌, ◌≤◌, List, [], ◌++◌, length, codes, decimal, Option}
use Rattle.base_trees.specs.Rose.{Rose}
use Rattle.base_texts.specs.Faults.{HasRisen}
use Rattle.base_texts.specs.Bytes.{AppendsFront}
use Rattle.std.specs.Io.KnownBytes.{Appends}
use Rattle.xml_items.specs.declared.label.ItemLabel.{ItemLabel}
use Rattle.xml_read.specs.Documents.{DocOf}
use Rattle.transcode_words.specs.declared.outcome.Outcome.{Outcome}
use Rattle.transcode_words.specs.declared.outcome.Outcome.TheVariants.{Done, Usage, SchemaSyntax, SchemaFault, LinkFault, UnknownRoot, DocSyntax, Invalid, PerFault, RecordFault, DerFault, ModuleFault, Trailing}
use Rattle.transcode_words.specs.Lines.{line}
pub use Rattle.transcode_words.specs.Status.{IsNamed}
use Rattle.people_complaints.specs.Paths.{IsPath}
use Rattle.people_complaints.specs.Places.{IsPlaced}
use Rattle.people_complaints.specs.Subjects.{Texts, about}

-- ---- the place

-- the number of something in what has no lines, after these words, and no excerpt
abbrev pub IsUnit : List ℕ → ℕ → List ℕ → List ℕ → Type 0
IsUnit words number place excerpt = (place ≡ words ++ decimal number) × (excerpt ≡ [])

-- A byte of a text with these contents: its line, its column and its excerpt. If the contents don't reach to it, its number.
abbrev pub IsByte : List ℕ → ℕ → List ℕ → List ℕ → Type 0
IsByte contents at place excerpt =
    ((at ≤ length contents) × IsPlaced contents at place excerpt) ⊎ ((length contents < at) × IsUnit (codes ": byte ") at place excerpt)

-- The place of an outcome in a text with these contents, as it follows the text's name, and the excerpt that shows it: a byte; a bit, of a
-- record too; an octet; or none.
abbrev pub IsPlaceOf : Outcome → List ℕ → List ℕ → List ℕ → Type 0
IsPlaceOf (SchemaSyntax k at why) contents = IsByte contents at
IsPlaceOf (SchemaFault k at why) contents = IsByte contents at
IsPlaceOf (LinkFault k at why) contents = IsByte contents at
IsPlaceOf (DocSyntax at why) contents = IsByte contents at
IsPlaceOf (Invalid at why) contents = IsByte contents at
IsPlaceOf (ModuleFault at why) contents = IsByte contents at
IsPlaceOf (PerFault bit why) contents = IsUnit (codes ": bit ") bit
IsPlaceOf (RecordFault number bit why) contents = IsUnit (codes ": record " ++ decimal number ++ codes ", bit ") bit
IsPlaceOf (DerFault at why) contents = IsUnit (codes ": octet ") at
IsPlaceOf (Trailing at) contents = IsUnit (codes ": octet ") at
IsPlaceOf o contents = λ place excerpt. (place ≡ []) × (excerpt ≡ [])

-- ---- the element

-- nothing, or the path to the innermost element round the byte of the document in the text
abbrev pub IsPathIn : List ℕ → ℕ → List ℕ → Type 0
IsPathIn text at path = (path ≡ []) ⊎ ((items : Rose ItemLabel) × DocOf text items × IsPath at items path)

-- nothing, or the words before the meaning of the reason, with the path to the element of a document that isn't valid
abbrev pub IsWithin : Outcome → List ℕ → List ℕ → Type 0
IsWithin (Invalid at why) contents within = (within ≡ []) ⊎ ((path : List ℕ) × IsPathIn contents at path × (within ≡ codes "in " ++ path ++ codes ": "))
IsWithin o contents within = within ≡ []

-- ---- the complaint

-- what follows a place: the reason, its meaning, the excerpt and the remedy
abbrev pub explained : List ℕ → List ℕ → List ℕ → List ℕ → List ℕ → List ℕ
explained reason within means excerpt remedy =
    (codes ": " ++ reason ++ codes ": ") ++ (within ++ means ++ codes "\n") ++ (excerpt ++ codes "help: " ++ remedy) ++ codes "\n"

-- lines after the complaint: names of roots, where no global element is the root
abbrev pub MayList : Outcome → List ℕ → Type 0
MayList UnknownRoot more = Unit {0}
MayList o more = more ≡ []

-- The complaint about an outcome, and a text with this name and these contents: it begins with the name, the place and the reason.
pub record IsComplaint (o : Outcome) (name contents complaint : List ℕ) : Type 0 where
  pub place : List ℕ
  pub reason : List ℕ
  pub within : List ℕ
  pub means : List ℕ
  pub excerpt : List ℕ
  pub remedy : List ℕ
  pub more : List ℕ
  pub placed : IsPlaceOf o contents place excerpt
  pub named : IsNamed o reason
  pub element : IsWithin o contents within
  pub list : MayList o more
  pub text : complaint ≡ name ++ place ++ explained reason within means excerpt remedy ++ more

-- The complaint about an outcome of a request with these texts: its name is that of the text which the outcome is about, and its place
-- is one in the contents of this text.
abbrev pub IsComplaintOf : Texts → Outcome → List ℕ → Type 0
IsComplaintOf texts o complaint = IsComplaint o (about texts o).0 (about texts o).1 complaint

-- The text for an outcome of a request with these texts: the complaint about it. Without memory for it, it is the line of the program for
-- scripts. For `Usage` it is in the form of the library that reads words.
abbrev pub IsText : Texts → Outcome → List ℕ → Type 0
IsText texts Usage text = Unit {0}
IsText texts o text = IsComplaintOf texts o text ⊎ (text ≡ line o)

-- Standard error received the text for an outcome, or a prefix of it and its count of failures rose. The text of a rejection isn't empty.
pub record Complains (texts : Texts) (o : Outcome) (old new : Option (List ℕ)) (faults faults_now : ℕ) : Type 0 where
  pub text : List ℕ
  pub is : IsText texts o text
  pub some : (o ≡ Done → ⊥) → text ≡ [] → ⊥
  pub written : Appends old new text ⊎ (HasRisen faults faults_now × AppendsFront old new text)
