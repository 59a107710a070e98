use Rattle.std.proofs.Common.{◌++◌, ap, ◌∙◌}
use Rattle.map_subjects.specs.Private.Collecting.{declaration_entries, type_entries}
use Rattle.map_subjects.proofs.collecting.collected.Goals as goal

pub returns : goal.returns
returns c =
    let s = c.args.set.now in
    c.in_ok-push_types.ensures ∙ ap (λ m. m ++ type_entries s) (c.in_ok-push_declarations.ensures ∙ ap (λ m. m ++ declaration_entries s) c.new-made.ensures.items)
