-- The summary that the code keeps of the encoding instructions of a type that may be that of a simple type.
use Rattle.std.specs.Prelude.{◌≡◌, ℕ, length, Bool, true, false, Option, Some, None, List, [], ◌∷◌, if◌then◌else◌}
use Rattle.simple_types.specs.declared.simples.Simple.{Simple}
use Rattle.std.specs.List.Sorted.{IsStrictlySortedBy}
use Rattle.std.specs.Ordering.{nat_cmp}
use Rattle.std.specs.Cmp.Lexicographic.{slice_cmp}
use Rattle.simple_types.specs.Sound.{Sound, IsCounted}
use Rattle.simple_types.specs.Seen.{space_of}
use Rattle.base_trees.specs.Rose.{Rose}
use Rattle.asn_types.specs.declared.marks.Instruction.{Instruction}
use Rattle.asn_types.specs.declared.marks.Instruction.TheVariants as mark
use Rattle.asn_types.specs.declared.marks.Told.{Told}
use Rattle.asn_types.specs.declared.marks.Told.TheVariants as told_
use Rattle.asn_types.specs.declared.types.Form.{Form}
use Rattle.asn_types.specs.declared.types.Form.TheVariants as form
use Rattle.asn_types.specs.declared.types.TypeLabel.{TypeLabel}
use Rattle.asn_types.specs.Simples.{counts, IsSimple, MapsTo}

abbrev pub alone : Instruction → Told
alone mark.UseNumber = told_.UseNumber
alone mark.List = told_.List
alone mark.UseUnion = told_.UseUnion
alone (mark.WhiteSpace how) = told_.WhiteSpace how
alone _ = told_.Other

abbrev pub told : List Instruction → Told
told [] = told_.Nothing
told (m ∷ []) = alone m
told (m ∷ n ∷ ms) = told_.Other

abbrev pub beside : Told → Instruction → Told
beside told_.Nothing m = alone m
beside _ m = told_.Other

abbrev pub with_mark : Told → Instruction → Told
with_mark seen m = if counts m then beside seen m else seen

-- The simple type found is mapped to the type, or none is found and the type is not that of a simple type.
abbrev pub Finds : Option Simple → Rose TypeLabel → Type 0
Finds None t = IsSimple t → ⊥
Finds (Some simple) t = Sound (space_of simple) × MapsTo (space_of simple) t

-- The type has no parts.
abbrev pub IsLeaf : Form → Type 0
IsLeaf (form.SequenceOf part least most) = ⊥
IsLeaf (form.Choice parts) = ⊥
IsLeaf _ = Unit {0}

-- The type is an ENUMERATED of these words.
abbrev pub IsFormOfWords : Form → List (List ℕ) → Type 0
IsFormOfWords f words =
    (identifiers : List (List ℕ)) × (f ≡ form.Words identifiers words) × IsCounted (length words) × IsStrictlySortedBy (slice_cmp nat_cmp) words
