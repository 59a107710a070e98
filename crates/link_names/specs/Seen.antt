-- The global components that values of the code represent.
use Rattle.std.specs.Prelude.{List, map}
use Rattle.link_names.specs.Globals.{GlobalComponent, global}
use Rattle.link_names.specs.declared.global_names.NamedPart.{NamedPart}

abbrev pub global_of : NamedPart → GlobalComponent
global_of g = global g.name.now g.place

abbrev pub globals_of : List NamedPart → List GlobalComponent
globals_of gs = map global_of gs
