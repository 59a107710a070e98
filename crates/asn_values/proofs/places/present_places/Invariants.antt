use Rattle.std.proofs.Common.{◌≡◌, map}
use Rattle.asn_values.specs.Private.Placing.{place_seen}
use Rattle.asn_values.specs.Values.{present_from}
use Rattle.asn_values.proofs.Placed.{prepended, left}
use Rattle.asn_values.proofs.places.present_places.Given as goal

abbrev pub invariant-parts : goal.invariant-parts
invariant-parts l =
    present_from l.label 0 l.parts l.kids l.present ≡ prepended (map place_seen l.places.items) (left l.label l.parts l.kids l.present l.i)
