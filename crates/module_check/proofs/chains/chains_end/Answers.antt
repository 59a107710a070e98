use Rattle.std.proofs.Common.{Some, ap, ◌∙◌}
use Rattle.module_text.specs.Resolving.{all_references}
use Rattle.module_check.specs.Known.{leads_in}
use Rattle.module_check.proofs.Chaining.{all-lead}
use Rattle.module_check.proofs.chains.chains_end.Goals as goal

pub returns : goal.returns
returns c =
    let P = c.args.assignments.now in
    c.all_lead.ensures
    ∙ ap (λ ws. all_references (leads_in (Some ws) P) c.args.node.now) c.requires.within
    ∙ all-lead P c.args.node.now
