use Rattle.der_decode.proofs.Windows.{too_large}
use Rattle.der_decode.proofs.fields.number_of.Goals as goal

pub returns-then-number : goal.returns-then-number
returns-then-number c = too_large c.args.octets.now c.octets.number c.octets.octet-index c.octets-test.true c.if-number.true c.octets.invariant.rest
