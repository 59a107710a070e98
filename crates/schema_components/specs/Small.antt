-- Linked sets whose numbers fit the code's types.
use Rattle.std.specs.Prelude.{All}
use Rattle.simple_types.specs.Seen.{space_of}
use Rattle.simple_types.specs.Small.{IsSmall}
use Rattle.schema_components.specs.declared.components.SimpleDef.{SimpleDef}
use Rattle.schema_components.specs.Components.{Set}

-- The numbers of each ENUMERATED of the set have 128 bits.
abbrev pub AreSmall : Set → Type 0
AreSmall s = All (λ (t : SimpleDef). IsSmall (space_of t.space)) s.simples
