-- The names of reasons.
use Rattle.std.specs.Prelude.{ℕ, List, codes}
use Rattle.der_fields.specs.declared.stops.Why.{Why}
use Rattle.der_fields.specs.declared.stops.Why.TheVariants as der

-- The name of a reason for rejecting octets.
abbrev pub der_reason : Why → List ℕ
der_reason der.Short = codes "Short"
der_reason der.Missing = codes "Missing"
der_reason der.Tag = codes "Tag"
der_reason der.TooDeep = codes "TooDeep"
der_reason der.TooMany = codes "TooMany"
der_reason der.NotShortest = codes "NotShortest"
der_reason der.Content = codes "Content"
der_reason der.TooWide = codes "TooWide"
der_reason der.Range = codes "Range"
der_reason der.NotUtf8 = codes "NotUtf8"
der_reason der.DefaultWritten = codes "DefaultWritten"
der_reason der.NotAValue = codes "NotAValue"
