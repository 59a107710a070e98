-- The number of children that a label of an abstract value allows.
use Rattle.std.specs.Prelude.{◌≡◌, ℕ, Bool, true, false, List}
use Rattle.std.specs.List.{sum_by}
use Rattle.simple_types.specs.declared.labels.ValueLabel.{ValueLabel}
use Rattle.simple_types.specs.declared.labels.ValueLabel.TheVariants.{Sequence, Choice, SequenceOf}

abbrev pub flag_count : Bool → ℕ
flag_count true = 1
flag_count false = 0

abbrev pub count_set : List Bool → ℕ
count_set flags = sum_by flag_count flags

-- A SEQUENCE has one child for each component that is present, a CHOICE has one, a SEQUENCE OF any number, and the others have
-- none.
abbrev pub MayHave : ValueLabel → ℕ → Type 0
MayHave (Sequence present) kids = kids ≡ count_set present
MayHave (Choice i) kids = kids ≡ 1
MayHave SequenceOf kids = Unit {0}
MayHave label kids = kids ≡ 0
