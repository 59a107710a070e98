use Rattle.std.proofs.Common.{◌∙◌, ap, take, length, ◌-◌, List, ℕ}
use Rattle.xml_pieces.proofs.InScope.{one_more}
use Rattle.xml_pieces.proofs.scope.BindingsInScope.leave.Goals as goal

pub loop-preserved : goal.loop-preserved
loop-preserved c = c.pop.ensures ∙ ap (λ (xs : List (List ℕ × List ℕ)). take (length xs - 1) xs) c.loop.invariant ∙ one_more c.args.self.now c.loop.counter
