-- The simple type definitions that values of the code represent.
use Rattle.std.specs.Prelude.{List, map}
use Rattle.std.specs.Borrow.{Bor}
use Rattle.std.specs.Option.{option_map}
use Rattle.base_texts.specs.declared.texts.Name.{Name}
use Rattle.schema_components.specs.Seen.{how_of}
use Rattle.link_names.specs.SimpleTypes.{SimpleDefinition}
use Rattle.link_names.specs.declared.definitions.SimpleType.{SimpleType}

abbrev pub definition_of : SimpleType → SimpleDefinition
definition_of s = record { name = option_map (λ (a : Bor Name). a.now) s.name; place = s.place; body = s.body; how = how_of s.how.now }

abbrev pub definitions_of : List SimpleType → List SimpleDefinition
definitions_of ss = map definition_of ss
