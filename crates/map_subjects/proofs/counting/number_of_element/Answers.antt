use Rattle.std.proofs.Common.{◌+◌, sym, ap, ◌∙◌}
use Rattle.map_subjects.specs.Private.Collecting.{declaration_entries, type_entries, count_before}
use Rattle.map_subjects.proofs.Earlier.{count-append, number-of-element}
use Rattle.map_subjects.proofs.counting.number_of_element.Goals as goal

pub returns : goal.returns
returns c entries h =
    let s = c.args.set.now in
    let e = c.element.result.now in
    ap (λ k. k + c.types_before-types.result) c.declarations_before-declarations.ensures.count
    ∙ ap (λ k. count_before e.name (declaration_entries s) + k) c.types_before-types.ensures.count
    ∙ sym (count-append e.name (declaration_entries s) (type_entries s))
    ∙ number-of-element s entries c.args.element e c.element_count.ensures.linked h c.requires c.element.ensures
