use Rattle.std.proofs.Common.{sym, ap, ◌∙◌}
use Rattle.base_trees.specs.Rose.{label_of}
use Rattle.xer_read.proofs.Lasts.{all-order}
use Rattle.xer_read.proofs.orders.is_any_order.Goals as goal

pub returns-in-All-clause-is : goal.returns-in-All-clause-is
returns-in-All-clause-is c = sym (all-order c.args.model.now c.label.result.now (sym (c.label.ensures ∙ ap label_of c.root.ensures.root)) c.root.ensures.allowed c.in-All.is)
