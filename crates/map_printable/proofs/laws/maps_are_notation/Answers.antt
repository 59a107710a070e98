use Rattle.map_printable.proofs.Whole.{maps-notation}
use Rattle.map_printable.proofs.laws.maps_are_notation.Goals as goal

pub returns : goal.returns
returns c = maps-notation c.maps_are_modules.ensures
