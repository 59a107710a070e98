-- The reasons of a stop that state that the bits end.
use Rattle.std.specs.Prelude.{Bool, true, false}
use Rattle.per_fields.specs.declared.stops.Why.{Why}
use Rattle.per_fields.specs.declared.stops.Why.TheVariants.{Short}

abbrev pub is_short : Why → Bool
is_short Short = true
is_short _ = false
