-- The storage of flags: in place, or in a list.
use Rattle.std.specs.Prelude.{List, Bool}
use Rattle.simple_types.specs.declared.lists.FlagStorage.{FlagStorage}
use Rattle.simple_types.specs.declared.lists.FlagStorage.TheVariants.{Here, There}

abbrev pub kept_flags : FlagStorage → List Bool
kept_flags (Here few) = few
kept_flags (There many) = many.value.items
