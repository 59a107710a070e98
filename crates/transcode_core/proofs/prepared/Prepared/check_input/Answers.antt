use Rattle.std.proofs.Common.{ℕ, subst}
use Rattle.std.specs.Prelude.{Vec}
use Rattle.std.specs.declared.alloc.Global.{Global}
use Rattle.schema_components.specs.Components.{Set}
use Rattle.transcode_words.specs.Answers.{Answers}
use Rattle.transcode_core.specs.Preparing.{prepared_seen}
use Rattle.transcode_core.specs.Due.{Checked}
use Rattle.transcode_core.specs.Causes.{OneRead}
use Rattle.transcode_core.proofs.prepared.Prepared.check_input.Goals as goal

pub returns-clause-due : goal.returns-clause-due
returns-clause-due g c =
    let cause = OneRead (g.S.Source.faults c.args.input.now) (g.S.Source.faults c.check_input.new.input) in
    subst (λ (p : Set × ℕ). Answers (λ (bytes : Vec ℕ Global). bytes.items) (Checked (prepared_seen p) (g.S.Source.left c.args.input.now)) cause c.check_input.result) c.self.view_is
    c.check_input.ensures.due
