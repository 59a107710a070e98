use Rattle.std.proofs.Common.{◌≡◌, Some, sym, ◌∙◌, ap, subst}
use Rattle.std.specs.Prelude.{slice_get}
use Rattle.validity_check.specs.Kept.{IsPlanAt}
use Rattle.validity_check.proofs.Keeping.{found_at}
use Rattle.validity_check.proofs.plans.Plans.kept.Goals as goal

pub returns-in-Some-Some : goal.returns-in-Some-Some
returns-in-Some-Some c =
    let at = c.in-Some-Some.ensures.lookup in
    let found = found_at c.deref.result.now c.args.complex c.in-Some-Some.field-0.now at.0 at.1 in
    let here : slice_get c.self.inside.kept.items c.args.complex ≡ Some (Some c.in-Some-Some.plan) =
    ap (λ xs. slice_get xs c.args.complex) (sym c.deref.ensures.value) ∙ found ∙ ap (λ o. Some o) c.in-Some-Some.field-0-is
    in
    subst (λ s. IsPlanAt s c.args.complex (Some c.in-Some-Some.plan)) c.self.view_is (c.self.invariant.plans c.args.complex (Some c.in-Some-Some.plan) here)
