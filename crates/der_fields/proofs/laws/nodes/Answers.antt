-- By recursion on the levels of nodes.
use Rattle.der_fields.proofs.Law.{node_law}
use Rattle.der_fields.proofs.Unfolding.{node_recursion}
use Rattle.der_fields.proofs.laws.nodes.Goals as goal

pub returns : goal.returns
returns c = record { law = node_law; recursion = node_recursion }
