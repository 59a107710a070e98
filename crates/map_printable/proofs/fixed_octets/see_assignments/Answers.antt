use Rattle.std.proofs.Common.{◌∙◌, ◌++◌, ◌∷◌, [], take, arith, sym, ap, subst}
use Rattle.std.proofs.lemmas.List.{take_all, take_more}
use Rattle.std.proofs.lemmas.List.Elements.{All-push}
use Rattle.map_printable.specs.Maps.{HasFixedOctets, FixedAreOctets}
use Rattle.map_printable.proofs.fixed_octets.see_assignments.Goals as goal

pub assignments-preserved : goal.assignments-preserved
assignments-preserved c =
    let xs = c.args.assignments.now in
    let i = c.assignments.assignment-index in
    let a = c.assignment-item.result in
    let seen = subst HasFixedOctets c.root.ensures.root c.see_type.ensures in
    let more = take_more xs i a c.assignments-test.true ∙ ap (λ x. take i xs ++ x ∷ []) (sym c.assignment-item.is) in
    subst FixedAreOctets (sym more) (All-push (λ b. HasFixedOctets b.body) (take i xs) a c.assignments.invariant seen)

pub returns : goal.returns
returns c =
    let xs = c.args.assignments.now in
    subst FixedAreOctets (take_all c.assignments.assignment-index xs (omega (arith, c.assignments-test.false))) c.assignments.invariant
