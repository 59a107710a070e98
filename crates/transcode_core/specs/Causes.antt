-- Outcomes that come from the environment, each with its cause.
use Rattle.std.specs.Prelude.{◌≡◌, ◌⊎◌, ℕ, suc, ◌+◌, ◌*◌, ◌≤◌, drop, Bool, IsTrue, List, ◌∷◌, ◌++◌, length, Option, Some, None, Ok}
use Rattle.base_texts.specs.Faults.{HasRisen}
use Rattle.base_texts.specs.Entries.{Lacks}
use Rattle.transcode_words.specs.declared.outcome.Outcome.{Outcome}
use Rattle.transcode_words.specs.declared.outcome.Outcome.TheVariants.{Usage, SchemaSyntax, SchemaFault, LinkFault, UnknownRoot, ModuleFault, TooLong, LoadFault, ReadFault, OutOfMemory}
use Rattle.schema_components.specs.Raw.{Document}
use Rattle.transcode_core.specs.Steps.{Schemas, RootType, readable}
use Rattle.transcode_words.specs.declared.tasks.Syntax.{Syntax}
use Rattle.transcode_words.specs.declared.tasks.Syntax.TheVariants.{Aligned, Unaligned, Der}
use Rattle.transcode_core.specs.Syntaxes.{Fault, HasFault}
use Rattle.base_trees.specs.Rose.{Rose}
use Rattle.xml_items.specs.declared.label.ItemLabel.{ItemLabel}
use Rattle.xml_items.specs.Counts.{element_count}

-- the count of failures of the library rose, and a sure library has no file with this name
pub record Fails (before now : ℕ) (is_sure : Bool) (entries : Option (List (List ℕ × List ℕ))) (name : List ℕ) : Type 0 where
  pub rose : HasRisen before now
  pub lacks : IsTrue is_sure → Lacks entries name

-- memory is missing, or the library failed at file k
abbrev pub OneLoad : ℕ → ℕ → Bool → Option (List (List ℕ × List ℕ)) → ℕ → List ℕ → Outcome → Type 0
OneLoad before now is_sure entries k name o = (o ≡ OutOfMemory) ⊎ ((o ≡ LoadFault k) × Fails before now is_sure entries name)

-- file k of these has this name, and the files before it are schema documents
pub record Reaches (entries : Option (List (List ℕ × List ℕ))) (names : List (List ℕ)) (k : ℕ) (name : List ℕ) : Type 0 where
  pub before : List (List ℕ)
  pub after : List (List ℕ)
  pub documents : List Document
  pub split : names ≡ before ++ name ∷ after
  pub number : k ≡ length before + 1
  pub sound : Schemas entries 1 before (Ok documents)

-- memory is missing, or the library failed at one of the files, and the files before it are schema documents
abbrev pub SomeLoad : ℕ → ℕ → Bool → Option (List (List ℕ × List ℕ)) → List (List ℕ) → Outcome → Type 0
SomeLoad before now is_sure entries names o =
    (o ≡ OutOfMemory) ⊎ ((k : ℕ) × (name : List ℕ) × (o ≡ LoadFault k) × Reaches entries names k name × Fails before now is_sure entries name)

-- memory is missing, or the input failed
abbrev pub OneRead : ℕ → ℕ → Outcome → Type 0
OneRead before now o = (o ≡ OutOfMemory) ⊎ ((o ≡ ReadFault) × HasRisen before now)

-- the bytes that are left are known
abbrev pub IsTold : Option (List ℕ) → Type 0
IsTold None = ⊥
IsTold (Some left) = Unit {0}

-- where the octets have a first fault, none was taken after those that show it
abbrev pub TakesItsField : Syntax → RootType → Option (List ℕ) → Option (List ℕ) → Type 0
TakesItsField syntax type old new = (left : List ℕ) → old ≡ Some left → (fault : Fault) → HasFault syntax type.assignments type.number (readable left) fault
    → (count : ℕ) × (new ≡ Some (drop count left)) × (8 * count ≤ fault.end + 7)

-- the same in a transfer syntax; nothing is said of DER, whose octets are all taken first
abbrev pub TakesOctets : Syntax → RootType → Option (List ℕ) → Option (List ℕ) → Type 0
TakesOctets Aligned type old new = TakesItsField Aligned type old new
TakesOctets Unaligned type old new = TakesItsField Unaligned type old new
TakesOctets Der type old new = Unit {0}

-- an outcome that can come after the files are a set with a root
abbrev pub IsOfInput : Outcome → Type 0
IsOfInput Usage = ⊥
IsOfInput (SchemaSyntax _ _ _) = ⊥
IsOfInput (SchemaFault _ _ _) = ⊥
IsOfInput (LinkFault _ _ _) = ⊥
IsOfInput UnknownRoot = ⊥
IsOfInput (ModuleFault _ _) = ⊥
IsOfInput (TooLong (suc _)) = ⊥
IsOfInput (LoadFault _) = ⊥
IsOfInput o = Unit {0}

-- no step through content models was taken, or at most 144 for each element of such a document; the count doesn't fall
abbrev pub StepsUpTo : (Rose ItemLabel → Type 0) → ℕ → ℕ → Type 0
StepsUpTo Reads old new = (new ≡ old) ⊎ ((items : Rose ItemLabel) × Reads items × (old ≤ new) × (new ≤ old + 144 * element_count items))

-- at least one step was taken for each element of such a document except the root
abbrev pub StepsFrom : (Rose ItemLabel → Type 0) → ℕ → ℕ → Type 0
StepsFrom Reads old new = (items : Rose ItemLabel) × Reads items × (old + element_count items ≤ new + 1)

-- the output states its room, which is at least this number of bytes
abbrev pub HasRoom : Option ℕ → ℕ → Type 0
HasRoom None n = ⊥
HasRoom (Some room) n = n ≤ room
