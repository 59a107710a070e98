use Rattle.map_laws.proofs.Counted.{map_module}
use Rattle.map_laws.proofs.width_laws.maps_are_modules.Goals as goal

pub returns : goal.returns
returns c = map_module
