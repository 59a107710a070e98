use Rattle.std.proofs.Common.{◌∙◌, ◌++◌, ◌∷◌, [], take, arith, sym, ap, subst}
use Rattle.std.proofs.lemmas.List.{take_all, take_more}
use Rattle.std.proofs.lemmas.List.Elements.{All-push}
use Rattle.asn_types.specs.Bounds.{AreBounded, IsBounded}
use Rattle.asn_types.proofs.bounds.see_assignments.Goals as goal

pub assignments-preserved : goal.assignments-preserved
assignments-preserved c =
    let xs = c.args.assignments.now in
    let i = c.assignments.assignment-index in
    let a = c.assignment-item.result in
    let bound = subst AreBounded c.root.ensures.root c.see_type.ensures in
    let more = take_more xs i a c.assignments-test.true ∙ ap (λ x. take i xs ++ x ∷ []) (sym c.assignment-item.is) in
    subst IsBounded (sym more) (All-push (λ b. AreBounded b.body) (take i xs) a c.assignments.invariant bound)

pub returns : goal.returns
returns c =
    let xs = c.args.assignments.now in
    let whole = take_all c.assignments.assignment-index xs (omega (arith, c.assignments-test.false)) in
    subst IsBounded whole c.assignments.invariant
