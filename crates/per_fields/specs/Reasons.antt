-- The names of reasons.
use Rattle.std.specs.Prelude.{ℕ, List, codes}
use Rattle.per_fields.specs.declared.stops.Why.{Why}
use Rattle.per_fields.specs.declared.stops.Why.TheVariants as per

-- The name of a reason for rejecting bits.
abbrev pub per_reason : Why → List ℕ
per_reason per.TooDeep = codes "TooDeep"
per_reason per.TooMany = codes "TooMany"
per_reason per.Short = codes "Short"
per_reason per.Padding = codes "Padding"
per_reason per.NotShortest = codes "NotShortest"
per_reason per.Range = codes "Range"
per_reason per.TooWide = codes "TooWide"
per_reason per.NotUtf8 = codes "NotUtf8"
per_reason per.DefaultWritten = codes "DefaultWritten"
per_reason per.NotAValue = codes "NotAValue"
