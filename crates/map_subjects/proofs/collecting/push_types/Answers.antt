use Rattle.std.proofs.Common.{◌++◌, ap, ◌∙◌, append_assoc}
use Rattle.map_subjects.specs.Private.Collecting.{simple_entries, complex_entries, nillable_entries}
use Rattle.map_subjects.proofs.collecting.push_types.Goals as goal

pub returns : goal.returns
returns c =
    let s = c.args.set.now in
    let made = c.args.made.now.items in
    c.in_ok-push_nillables.ensures
    ∙ ap (λ m. m ++ nillable_entries s) (c.in_ok-push_complexes.ensures ∙ ap (λ m. m ++ complex_entries s) c.in_ok-push_simples.ensures ∙ append_assoc made (simple_entries s) (complex_entries s))
    ∙ append_assoc made (simple_entries s ++ complex_entries s) (nillable_entries s)
