use Rattle.std.proofs.Common.{◌++◌, ap, ◌∙◌, append_assoc}
use Rattle.map_subjects.specs.Private.Collecting.{element_entries, attribute_entries}
use Rattle.map_subjects.proofs.collecting.push_declarations.Goals as goal

pub returns : goal.returns
returns c =
    let s = c.args.set.now in
    c.in_ok-push_attributes.ensures ∙ ap (λ m. m ++ attribute_entries s) c.in_ok-push_elements.ensures
    ∙ append_assoc c.args.made.now.items (element_entries s) (attribute_entries s)
