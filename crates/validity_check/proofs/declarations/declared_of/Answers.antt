use Rattle.std.proofs.Common.{[], sym, ◌∙◌, ap, subst, arith}
use Rattle.std.specs.List.Sorted.{IsStrictlySortedBy}
use Rattle.schema_components.specs.Linked.{IsTyped}
use Rattle.schema_components.specs.SetParts.{parts_of}
use Rattle.validity_rules.specs.Asked.{asked, asked_by_type, simple}
use Rattle.validity_check.specs.Ascending.{Ascend}
use Rattle.validity_check.proofs.Declaring.{simple_sound, space_is, type_asked, type_there}
use Rattle.validity_check.proofs.declarations.declared_of.Goals as goal

none_ascend : Ascend []
unfolding IsStrictlySortedBy
none_ascend = tt

pub invariant_of-result : goal.invariant_of-result
invariant_of-result c = record { ascending = none_ascend }

pub of_complex-requires-clause-complex : goal.of_complex-requires-clause-complex
of_complex-requires-clause-complex c =
    subst (IsTyped c.args.set.now) c.in-Complex.is (type_there c.args.set.now c.requires.linked c.args.decl c.element-element.result.now c.element-element.ensures)

pub returns-in-Simple-clause-asked : goal.returns-in-Simple-clause-asked
returns-in-Simple-clause-asked c =
    let s = parts_of c.args.set.now in
    let e = c.element-element.result.now in
    ap (λ x. asked e.nillable [] (simple x)) (space_is c.args.set.now c.in-Simple.simple c.simple.result.now c.simple.ensures)
    ∙ ap (asked_by_type s e.nillable) (sym c.in-Simple.is)
    ∙ type_asked c.args.set.now c.args.decl e c.element-element.ensures

pub returns-in-Simple-clause-fits : goal.returns-in-Simple-clause-fits
returns-in-Simple-clause-fits c = (λ k d h. absurd (omega (arith, h)), simple_sound c.args.set.now c.requires.linked c.in-Simple.simple c.simple.result.now c.simple.ensures)
