use Rattle.std.proofs.Common.{◌∷◌, sym, subst}
use Rattle.map_assignments.specs.Private.Building.{LeadsToScope}
use Rattle.map_assignments.proofs.Building.{on_ok}
use Rattle.map_assignments.proofs.orders.take_word.Goals as goal

pub returns : goal.returns
returns c =
    on_ok c.take.result _ _
    (λ h rest names lead. h rest names (subst (λ n. LeadsToScope c.args.scope.now (n ∷ rest) names) (sym c.in_ok-name.ensures) lead))
    c.take.ensures
