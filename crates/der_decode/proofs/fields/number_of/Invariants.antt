use Rattle.std.proofs.Common.{◌≡◌, drop}
use Rattle.der_fields.specs.Octets.{value_from}
use Rattle.der_decode.proofs.fields.number_of.Given as goal

abbrev pub invariant-octets : goal.invariant-octets
invariant-octets l = record { rest : value_from l.number (drop l.octet-index l.octets) ≡ value_from 0 l.octets }
