-- The first of the records that follow one another in octets: the document of the value with whose encoding, in canonical aligned PER
-- (X.691), they begin. Unlike the octets of a message they may go on after it.
use Rattle.std.specs.Prelude.{◌≡◌, ℕ, List, Option, Some, None, Result, Ok, Err}
use Rattle.base_trees.specs.Rose.{Rose}
use Rattle.simple_types.specs.declared.labels.ValueLabel.{ValueLabel}
use Rattle.asn_values.specs.Values.{In}
use Rattle.schema_components.specs.SetParts.{SetParts}
use Rattle.transcode_words.specs.declared.outcome.Outcome.{Outcome}
use Rattle.transcode_words.specs.declared.tasks.Syntax.TheVariants.{Aligned}
use Rattle.transcode_words.specs.Order.{Give, Then}
use Rattle.transcode_core.specs.Steps.{RootType, Typed, Written, IsOfOctets, readable, fault_in}
use Rattle.transcode_core.specs.Syntaxes.{Fault, BeginsWith, HasFault}
use Rattle.transcode_core.specs.Requests.Answers.{IsBack}

-- the value with whose encoding the octets that are left begin, where they are known, and the number of octets of this encoding; or
-- their first fault
abbrev pub FirstRecord : RootType → Option (List ℕ) → Result (Rose ValueLabel × ℕ) Outcome → Type 0
FirstRecord type None (Ok first) = In type.assignments type.number first.0
FirstRecord type None (Err o) = IsOfOctets o
FirstRecord type (Some octets) (Ok first) =
    In type.assignments type.number first.0 × BeginsWith Aligned type.assignments type.number (readable octets) first.0 first.1
FirstRecord type (Some octets) (Err o) =
    (fault : Fault) × HasFault Aligned type.assignments type.number (readable octets) fault × (o ≡ fault_in octets fault)

-- the document of this value, with the number of octets
abbrev pub FirstDocument : RootType → Option (List ℕ) → Result (List ℕ × ℕ) Outcome → Type 0
FirstDocument type left = Then (FirstRecord type left) (λ first. Then (Written type first.0) (λ text. Give (text, first.1)))

-- WHAT IS REQUIRED of the octets that are left, in a set with its root
abbrev pub NextDocument : SetParts × ℕ → Option (List ℕ) → Result (List ℕ × ℕ) Outcome → Type 0
NextDocument opened left = Then (Typed opened) (λ type. FirstDocument type left)

-- the text reads back as the value of the first record, which has this number of octets
abbrev pub FirstBack : SetParts × ℕ → RootType → Option (List ℕ) → List ℕ × ℕ → Type 0
FirstBack opened type left next = (v : Rose ValueLabel) × FirstRecord type left (Ok (v, next.1)) × IsBack opened type v next.0

-- the same by the type of the root
abbrev pub NextBack : SetParts × ℕ → Option (List ℕ) → List ℕ × ℕ → Type 0
NextBack opened left next = (type : RootType) × Typed opened (Ok type) × FirstBack opened type left next
