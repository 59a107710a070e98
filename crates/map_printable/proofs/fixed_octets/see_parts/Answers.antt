use Rattle.std.proofs.Common.{◌∙◌, ◌++◌, ◌∷◌, [], All, take, arith, sym, ap, subst}
use Rattle.std.proofs.lemmas.List.{take_all, take_more}
use Rattle.std.proofs.lemmas.List.Elements.{All-push}
use Rattle.asn_types.specs.declared.types.Component.{Component}
use Rattle.module_print.specs.Names.{HasOctets}
use Rattle.map_printable.proofs.fixed_octets.see_parts.Goals as goal

abbrev Fixes : Component → Type 0
Fixes part = HasOctets part.standard

pub parts-preserved : goal.parts-preserved
parts-preserved c =
    let xs = c.args.parts.now in
    let i = c.parts.part-index in
    let part = c.part-item.result in
    let more = take_more xs i part c.parts-test.true ∙ ap (λ x. take i xs ++ x ∷ []) (sym c.part-item.is) in
    subst (λ ps. All Fixes ps) (sym more) (All-push Fixes (take i xs) part c.parts.invariant c.see_standard.ensures)

pub returns : goal.returns
returns c =
    let xs = c.args.parts.now in
    subst (λ ps. All Fixes ps) (take_all c.parts.part-index xs (omega (arith, c.parts-test.false))) c.parts.invariant
