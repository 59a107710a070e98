-- The simple types with their spaces that values of the code represent, for private contracts only.
use Rattle.std.specs.Prelude.{List, map}
use Rattle.simple_types.specs.Seen.{space_of}
use Rattle.link_names.specs.CyclesSeen.{definition_of}
use Rattle.link_set.specs.Sets.{MadeType, made_type}
use Rattle.link_set.specs.declared.simples.MadeType.{MadeType as KeptType}

abbrev pub made_one : KeptType → MadeType
made_one t = made_type (definition_of t.definition) (space_of t.space)

abbrev pub made_of : List KeptType → List MadeType
made_of ts = map made_one ts
