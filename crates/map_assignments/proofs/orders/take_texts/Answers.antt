use Rattle.std.proofs.Common.{[], ◌∷◌, ◌++◌, map, if◌then◌else◌, subst}
use Rattle.map_assignments.specs.Plans.{texts}
use Rattle.map_assignments.specs.Naming.{wanted}
use Rattle.map_assignments.specs.Private.Building.{LeadsToScope}
use Rattle.map_assignments.proofs.Building.{on_ok}
use Rattle.map_assignments.proofs.orders.take_texts.Goals as goal

pub returns-then-mixed : goal.returns-then-mixed
returns-then-mixed c =
    on_ok c.take_word.result _ _
    (λ h rest names lead. h rest names (subst (λ b. LeadsToScope c.args.scope.now (map wanted (if b then texts ∷ [] else []) ++ rest) names) c.if-mixed.true lead))
    c.take_word.ensures

pub returns-else-mixed : goal.returns-else-mixed
returns-else-mixed c =
    λ rest names lead. subst (λ b. LeadsToScope c.args.scope.now (map wanted (if b then texts ∷ [] else []) ++ rest) names) c.if-mixed.false lead
