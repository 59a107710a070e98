use Rattle.std.proofs.Common.{◌≡◌, ap, subst, sym, ◌∙◌, Option, IsSomeAnd, slice_get, Some, refl}
use Rattle.std.proofs.lemmas.Option.{slice_get_read}
use Rattle.base_texts.proofs.NameLaws.{name_eq-Decides}
use Rattle.schema_components.specs.declared.components.ElementDecl.{ElementDecl}
use Rattle.schema_components.proofs.roots.find_root.Goals as goal

-- the element there has the name
pub returns-then-eq : goal.returns-then-eq
returns-then-eq c =
    let found : slice_get c.global_elements-elements.result.now c.elements.n ≡ Some c.index-elements-n.result =
    slice_get_read c.global_elements-elements.result.now _ c.elements.n c.index-elements-n.result refl c.elements-test.true c.index-elements-n.is in
    let named : c.index-elements-n.result.name ≡ c.args.name.now =
    (name_eq-Decides c.index-elements-n.result.name c.args.name.now).0 (sym c.eq.ensures ∙ c.if-eq.true) in
    let P : Option ElementDecl → Type 0 = λ o. IsSomeAnd o (λ e. e.name ≡ c.args.name.now) in
    subst P (sym found ∙ ap (λ es. slice_get es c.elements.n) c.global_elements-elements.ensures.elements) named
