-- The complex types that values of the code represent.
use Rattle.std.specs.Prelude.{List, map}
use Rattle.std.specs.Borrow.{Bor}
use Rattle.std.specs.Option.{option_map}
use Rattle.base_texts.specs.declared.texts.Name.{Name}
use Rattle.schema_components.specs.Seen.{complex_of}
use Rattle.link_complex.specs.ComplexTypes.{ComplexDefinition}
use Rattle.link_complex.specs.declared.definitions.ComplexType.{ComplexType}

abbrev pub definition_of : ComplexType → ComplexDefinition
definition_of c = record { name = option_map (λ (a : Bor Name). a.now) c.name; place = c.place; body = complex_of c.body.now }

abbrev pub definitions_of : List ComplexType → List ComplexDefinition
definitions_of cs = map definition_of cs
