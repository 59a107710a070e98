-- What a call returns with its status, its complaint and its answer.
use Rattle.std.specs.Prelude.{◌≡◌, ◌⊎◌, ℕ, ℤ, pos, ◌==◌, ◌&&◌, Bool, false, IsUtf8, List, [], length, Option, Some, None, Result, Ok, Err, if◌then◌else◌}
use Rattle.per_fields.specs.Stops.{is_short}
use Rattle.schema_components.specs.SetParts.{SetParts}
use Rattle.transcode_words.specs.declared.outcome.Outcome.{Outcome}
use Rattle.transcode_words.specs.declared.outcome.Outcome.TheVariants.{Usage, PerFault}
use Rattle.transcode_words.specs.declared.tasks.Syntax.{Syntax}
use Rattle.transcode_words.specs.declared.tasks.Syntax.TheVariants.{Aligned, Unaligned, Der}
use Rattle.transcode_words.specs.Answers.{IsRefusal, NoMemory}
use Rattle.transcode_words.specs.Order.{Found, Then}
use Rattle.transcode_words.specs.Status.{status}
use Rattle.transcode_words.specs.Asked.{Root, Named, Only}
use Rattle.transcode_core.specs.Due.{Encoded, Documented}
use Rattle.transcode_core.specs.Requests.Due.{Opened}
use Rattle.transcode_messages.specs.Messages.{names_of}
use Rattle.ruvkhiska_c.specs.declared.complaint.Complaint.{Complaint}
use Rattle.ruvkhiska_c.specs.Complaints.{Tells}

-- A required rejection, or `OutOfMemory`, with this status of it, and the complaint about it. With `Usage` that has no line.
abbrev pub RefusesWith : {A : Type 0} → (Outcome → ℕ) → (Result A Outcome → Type 0) → ℤ → Complaint → Type 0
RefusesWith status_of due result complaint = (o : Outcome) × (result ≡ pos (status_of o)) × Tells o complaint × ((due (Err o) × IsRefusal o) ⊎ NoMemory o)

-- the same with the status of the program
abbrev pub Refuses : {A : Type 0} → (Result A Outcome → Type 0) → ℤ → Complaint → Type 0
Refuses due result complaint = RefusesWith status due result complaint

-- whether the rejection says that the octets end inside a field
abbrev pub ends_short : Outcome → Bool
ends_short (PerFault bit why) = is_short why
ends_short o = false

-- The status of a rejection of octets that may go on: 41 where they end inside a field, and otherwise that of the program.
abbrev pub next_status : Outcome → ℕ
next_status o = if ends_short o then 41 else status o

-- the files of a slot, of which one that was never used has none
abbrev pub files_in : Option (List (List ℕ × List ℕ)) → List (List ℕ × List ℕ)
files_in None = []
files_in (Some files) = files

-- the root that two texts name: the element with this name, or the only global element where both are empty
abbrev pub root_named : List ℕ → List ℕ → Root
root_named space local = if (length space == 0) && (length local == 0) then Only else Named (record { space = space; local = local })

-- a root in UTF-8
abbrev pub Texts : List ℕ → List ℕ → Result Root Outcome → Type 0
Texts space local (Ok root) = IsUtf8 space × IsUtf8 local × (root ≡ root_named space local)
Texts space local (Err o) = (IsUtf8 space → IsUtf8 local → ⊥) × (o ≡ Usage)

-- the set that the files are, with the root in it
abbrev pub PreparedOf : List (List ℕ × List ℕ) → List ℕ → List ℕ → Result (SetParts × ℕ) Outcome → Type 0
PreparedOf files space local = Then (Texts space local) (λ root. Opened (Some files) root (names_of files))

-- the transfer syntaxes by their numbers in C
abbrev pub syntax_numbered : ℕ → Option Syntax
syntax_numbered n = if n == 0 then Some Aligned else if n == 1 then Some Unaligned else if n == 2 then Some Der else None

-- the encoding of the document in a syntax, if the number is that of one
abbrev pub EncodedBy : ℕ → SetParts × ℕ → List ℕ → Result (List ℕ) Outcome → Type 0
EncodedBy syntax opened document = Then (Found (syntax_numbered syntax) Usage) (λ s. Encoded s opened (Some document))

-- the document of the encoding
abbrev pub DocumentedBy : ℕ → SetParts × ℕ → List ℕ → Result (List ℕ) Outcome → Type 0
DocumentedBy syntax opened octets = Then (Found (syntax_numbered syntax) Usage) (λ s. Documented s opened (Some octets))
