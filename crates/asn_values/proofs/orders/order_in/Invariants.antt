use Rattle.std.proofs.Common.{◌≡◌, drop}
use Rattle.std.specs.Prelude.{map}
use Rattle.asn_values.specs.Private.Placing.{place_seen}
use Rattle.asn_values.specs.Values.{numbers_in}
use Rattle.asn_values.proofs.orders.order_in.Given as goal

abbrev pub invariant-places : goal.invariant-places
invariant-places l = numbers_in (map place_seen l.places) l.values ≡ numbers_in (map place_seen (drop l.place-index l.places)) l.left
