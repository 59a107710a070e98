use Rattle.std.proofs.Common.{[], map, if◌then◌else◌, sym, subst}
use Rattle.map_assignments.specs.Planning.{labels_before}
use Rattle.map_assignments.specs.Naming.{wanted, AreTaken}
use Rattle.map_assignments.proofs.Taking.{names-end}
use Rattle.map_assignments.proofs.Ordering.{scope-init}
use Rattle.map_assignments.proofs.orders.scope_before.Goals as goal

pub returns-then-nillable : goal.returns-then-nillable
returns-then-nillable c =
    subst (λ b. AreTaken [] (map wanted (if b then [] else labels_before c.args.mixed c.args.uses.now)) c.new.result) (sym c.if-nillable.true)
    (subst (AreTaken [] []) (sym c.new.ensures) tt)

pub returns : goal.returns
returns c =
    let names = map wanted (labels_before c.args.mixed c.args.uses.now) in
    let scope = c.take_before.new.scope in
    subst (λ b. AreTaken [] (map wanted (if b then [] else labels_before c.args.mixed c.args.uses.now)) scope) (sym c.if-nillable.false)
    (names-end [] scope scope names (c.in_ok-take_before.ensures names (scope-init c.new-scope.result names c.new-scope.ensures)))
