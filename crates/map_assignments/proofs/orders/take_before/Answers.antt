use Rattle.std.proofs.Common.{subst}
use Rattle.map_assignments.specs.Private.Building.{LeadsToScope}
use Rattle.map_assignments.proofs.Building.{on_ok}
use Rattle.map_assignments.proofs.Ordering.{wanted-before}
use Rattle.map_assignments.proofs.orders.take_before.Goals as goal

pub returns : goal.returns
returns c =
    on_ok c.take_attributes.result _ _
    (λ h names lead.
    h names
    (c.in_ok-take_word.ensures _ names
    (c.in_ok-take_texts.ensures _ names
    (subst (λ ns. LeadsToScope c.args.scope.now ns names) (wanted-before c.args.mixed c.args.uses.now) lead))))
    c.take_attributes.ensures
