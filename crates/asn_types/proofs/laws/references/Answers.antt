use Rattle.asn_types.proofs.Chaining.{part-keeps, takes-one, has-four, no-reference}
use Rattle.asn_types.proofs.laws.references.Goals as goal

pub returns : goal.returns
returns c = record { part = part-keeps; reference = takes-one; all = has-four; resolved = no-reference }
