-- The results of the code, compared with the required results.
use Rattle.std.specs.Prelude.{◌≡◌, Result, Ok, Err}
use Rattle.simple_types.specs.declared.reading.SimpleError.{SimpleError}
use Rattle.simple_types.specs.declared.reading.SimpleError.TheVariants as error
use Rattle.simple_types.specs.declared.labels.ValueLabel.{ValueLabel}
use Rattle.simple_types.specs.Reading.{Refusal, Wide, Bad, Reading, leaf}

-- The result is the required one, or an allocation failure.
abbrev pub AnswersReading : {A : Type 0} → Result A SimpleError → Result A Refusal → Type 0
AnswersReading (Ok value) due = due ≡ Ok value
AnswersReading (Err error.BadText) due = due ≡ Err Bad
AnswersReading (Err error.TooWide) due = due ≡ Err Wide
AnswersReading (Err error.Memory) due = Unit {0}

-- The result is the label of the required value, which has no children, or the required error, or an allocation failure.
abbrev pub AnswersLeaf : Result ValueLabel SimpleError → Reading → Type 0
AnswersLeaf (Ok label) due = due ≡ Ok (leaf label)
AnswersLeaf (Err error.BadText) due = due ≡ Err Bad
AnswersLeaf (Err error.TooWide) due = due ≡ Err Wide
AnswersLeaf (Err error.Memory) due = Unit {0}
