use Rattle.std.proofs.Common.{set, ap, ◌∙◌}
use Rattle.link_simple.specs.Private.Parts.{entries_of}
use Rattle.link_simple.proofs.Standing.{entries_set}
use Rattle.link_simple.proofs.working.Work.put.Goals as goal

pub returns-clause-entries : goal.returns-clause-entries
returns-clause-entries c =
    let es = c.args.self.now.entries.items in
    entries_set es c.args.n c.simple_in.result ∙ ap (set (entries_of es) c.args.n) c.simple_in.ensures
