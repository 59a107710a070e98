use Rattle.map_printable.proofs.Whole.{maps-printable}
use Rattle.map_printable.proofs.laws.maps_are_printable.Goals as goal

pub returns : goal.returns
returns c = maps-printable c.maps_are_modules.ensures c.maps_are_bounded.ensures
