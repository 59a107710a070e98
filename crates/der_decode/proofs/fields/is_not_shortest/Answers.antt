use Rattle.std.proofs.Common.{arith}
use Rattle.der_decode.proofs.Windows.{first_tells}
use Rattle.der_decode.proofs.fields.is_not_shortest.Goals as goal

pub returns-in-len2-up : goal.returns-in-len2-up
returns-in-len2-up c = first_tells c.args.octets.now (omega arith)
