use Rattle.std.proofs.Common.{sym}
use Rattle.module_check.proofs.Ordering.{other-count}
use Rattle.module_check.proofs.orders.are_named.Goals as goal

pub returns-then-elements-names : goal.returns-then-elements-names
returns-then-elements-names c = sym (other-count c.args.elements.now c.args.names.now c.if-elements-names.true)
