use Rattle.map_laws.proofs.Bounds.{map_bounded}
use Rattle.map_laws.proofs.width_laws.maps_are_bounded.Goals as goal

pub returns : goal.returns
returns c = λ s M wide is. map_bounded s wide M is
