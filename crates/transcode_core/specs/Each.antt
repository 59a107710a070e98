-- The documents of records: values whose complete encodings, in canonical aligned PER (X.691), follow one another in the input. Unlike
-- all other results they are written one by one, so a rejection comes after the documents of the records before it.
use Rattle.std.specs.Prelude.{◌≡◌, ℕ, zero, ◌+◌, ◌-◌, ◌<◌, List, [], ◌∷◌, ◌++◌, length, take, drop, Option, Some, None, Ok}
use Rattle.base_trees.specs.Rose.{Rose}
use Rattle.simple_types.specs.declared.labels.ValueLabel.{ValueLabel}
use Rattle.asn_values.specs.Values.{In}
use Rattle.per_fields.specs.declared.stops.Stop.{Stop}
use Rattle.per_fields.specs.Codec.{AllOf}
use Rattle.per_fields.specs.Stopping.{StopsFirst}
use Rattle.record_stream.specs.declared.errors.RecordError.{RecordError}
use Rattle.record_stream.specs.declared.errors.RecordError.TheVariants as record_error
use Rattle.record_stream.specs.Cuts.{IsCut}
use Rattle.record_stream.specs.Next.{within, fault_of}
use Rattle.transcode_words.specs.declared.outcome.Outcome.{Outcome}
use Rattle.transcode_words.specs.declared.outcome.Outcome.TheVariants.{Done, RecordFault, TooLong, ReadFault, OutOfMemory}
use Rattle.transcode_core.specs.Steps.{RootType, Written}

-- the greatest number of octets of the records of an input
abbrev pub each_limit : ℕ
each_limit = 1073741824

-- the documents of values, one after another
abbrev pub Documents : RootType → List (Rose ValueLabel) → List ℕ → Type 0
Documents type [] text = text ≡ []
Documents type (v ∷ vs) text = (first : List ℕ) × (rest : List ℕ) × Written type v (Ok first) × Documents type vs rest × (text ≡ first ++ rest)

-- the outcome of an error of the next record
abbrev pub outcome_of : RecordError → Outcome
outcome_of (record_error.Bad number bit why) = RecordFault number bit why
outcome_of record_error.TooLong = TooLong 0
outcome_of record_error.Failed = ReadFault
outcome_of record_error.Memory = OutOfMemory

-- after this number of records, in this number of octets, the input is at its end, or it has a first fault, that of the next record
abbrev pub EndsAs : RootType → List ℕ → ℕ → ℕ → Outcome → Type 0
EndsAs type left number count Done = drop count left ≡ []
EndsAs type left number count o =
    (0 < length (drop count left))
    × ((stop : Stop) × StopsFirst type.assignments type.number (within type.assignments type.number (number + 1) (each_limit - count) (drop count left)) stop
    × (o ≡ outcome_of (fault_of type.assignments type.number (number + 1) (each_limit - count) (drop count left) stop)))

-- an outcome that ends records
abbrev pub IsOfRecords : Outcome → Type 0
IsOfRecords Done = Unit {0}
IsOfRecords (RecordFault _ _ _) = Unit {0}
IsOfRecords (TooLong zero) = Unit {0}
IsOfRecords o = ⊥

-- WHAT IS REQUIRED of the octets that are left: the documents of their records, and how they end
abbrev pub EachDue : RootType → Option (List ℕ) → Outcome → List ℕ → Type 0
EachDue type None o text = (values : List (Rose ValueLabel)) × AllOf (In type.assignments type.number) values × Documents type values text × IsOfRecords o
EachDue type (Some left) o text =
    (values : List (Rose ValueLabel)) × (count : ℕ) × IsCut type.assignments type.number (take each_limit left) values count × EndsAs type left (length values) count o
    × Documents type values text
