use Rattle.std.proofs.Common.{ℕ, List, inl}
use Rattle.std.specs.Prelude.{Vec}
use Rattle.std.specs.declared.alloc.Global.{Global}
use Rattle.asn_types.specs.declared.modules.Assignment.{Assignment}
use Rattle.schema_components.specs.SetParts.{SetParts, parts_of}
use Rattle.transcode_words.specs.Answers.{NoMemory}
use Rattle.transcode_words.specs.Order.{Give, Then}
use Rattle.transcode_words.proofs.Joined.{passed}
use Rattle.transcode_core.proofs.Exits.{refused_by}
use Rattle.transcode_core.specs.Due.{SetIn}
use Rattle.transcode_core.specs.Causes.{SomeLoad}
use Rattle.transcode_core.specs.Requests.Due.{Mapped, shown}
use Rattle.transcode_core.proofs.showing.show_files.Goals as goal

pub returns-clause-due : goal.returns-clause-due
returns-clause-due g c =
    let entries = g.F.Library.entries c.args.library.now in
    let cause = SomeLoad (g.F.Library.faults c.args.library.now) (g.F.Library.faults c.read_set.new.files) (g.F.Library.is_sure c.args.library.now) entries c.args.names.now in
    passed (SetIn entries c.args.names.now) (λ (parts : SetParts). Then (Mapped parts) (λ (made : List Assignment). Give (shown c.args.form made))) NoMemory cause
    (λ (bytes : Vec ℕ Global). bytes.items) (parts_of c.in_ok-set.set) c.show_set.result c.in_ok-set.ensures.due c.show_set.ensures (λ o h. inl h)

pub returns-in_err-set-clause-due : goal.returns-in_err-set-clause-due
returns-in_err-set-clause-due g c =
    let entries = g.F.Library.entries c.args.library.now in
    let cause = SomeLoad (g.F.Library.faults c.args.library.now) (g.F.Library.faults c.read_set.new.files) (g.F.Library.is_sure c.args.library.now) entries c.args.names.now in
    refused_by (SetIn entries c.args.names.now) (λ (parts : SetParts). Then (Mapped parts) (λ (made : List Assignment). Give (shown c.args.form made))) cause cause
    (λ (bytes : Vec ℕ Global). bytes.items) c.from_residual.result c.in_err-set.field-0.0 c.from_residual.ensures.1 c.in_err-set.ensures.due (λ h. h)
