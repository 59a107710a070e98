use Rattle.std.proofs.Common.{◌<◌, length, sym, subst}
use Rattle.map_subjects.specs.declared.subjects.Subject.TheVariants.{Element}
use Rattle.map_assignments.proofs.Bodies.{global-named}
use Rattle.map_assignments.proofs.Whole.{root-within}
use Rattle.map_assignments.proofs.modules.root_type.Goals as goal

pub returns-clause-within : goal.returns-clause-within
returns-clause-within c M map =
    let s = c.args.set.now in
    let named = global-named s c.args.element c.element_count.ensures.linked c.requires in
    subst (λ n. n < length M) (sym (c.number_of_element.ensures map.entries map.are_entries)) (root-within s M map (Element c.args.element) named)
