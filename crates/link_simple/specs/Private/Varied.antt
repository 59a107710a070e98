-- For private contracts only: types whose restrictions have few enumerations, and whose unions have members.
use Rattle.std.specs.Prelude.{◌≡◌, true, List, [], ◌∷◌}
use Rattle.schema_components.specs.Varieties.{how_varied}
use Rattle.link_names.specs.SimpleTypes.{SimpleDefinition}

abbrev pub AreVaried : List SimpleDefinition → Type 0
AreVaried [] = Unit {0}
AreVaried (d ∷ ds) = (how_varied d.how ≡ true) × AreVaried ds
