-- The set that the code opens, and the map of this.
use Rattle.std.specs.Prelude.{ℕ}
use Rattle.schema_components.specs.SetParts.{SetParts, parts_of}
use Rattle.transcode_core.specs.declared.opened.Opened.{Opened}
use Rattle.transcode_core.specs.declared.opened.RootModule.{RootModule}
use Rattle.transcode_core.specs.Steps.{RootType}

abbrev pub opened_seen : Opened → SetParts × ℕ
opened_seen opened = (parts_of opened.set, opened.root)

abbrev pub type_seen : RootModule → RootType
type_seen typed = record { assignments = typed.module; number = typed.number }
