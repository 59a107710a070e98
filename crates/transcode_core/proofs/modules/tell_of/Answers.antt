use Rattle.std.proofs.Common.{ℕ}
use Rattle.std.specs.Prelude.{Vec}
use Rattle.std.specs.declared.alloc.Global.{Global}
use Rattle.module_read.specs.Summary as back
use Rattle.transcode_words.specs.Order.{Give}
use Rattle.transcode_words.specs.Answers.{NoMemory}
use Rattle.transcode_words.proofs.Joined.{passed}
use Rattle.transcode_core.proofs.Exits.{refused_by}
use Rattle.transcode_core.specs.Steps.{ModuleIn}
use Rattle.transcode_core.proofs.modules.tell_of.Goals as goal

pub returns : goal.returns
returns c =
    passed (ModuleIn c.args.bytes.now) (λ M. Give (back.summary M)) NoMemory NoMemory (λ (text : Vec ℕ Global). text.items)
    c.in_ok-found.found c.tell.result c.in_ok-found.ensures c.tell.ensures (λ o h. h)

pub returns-in_err-found : goal.returns-in_err-found
returns-in_err-found c =
    refused_by (ModuleIn c.args.bytes.now) (λ M. Give (back.summary M)) NoMemory NoMemory (λ (text : Vec ℕ Global). text.items)
    c.from_residual.result c.in_err-found.field-0.0 c.from_residual.ensures.1 c.in_err-found.ensures (λ h. h)
