use Rattle.std.proofs.Common.{ℕ, [], ◌∷◌, inl}
use Rattle.std.specs.Prelude.{Vec}
use Rattle.std.specs.declared.alloc.Global.{Global}
use Rattle.module_read.specs.Summary as back
use Rattle.transcode_words.specs.Order.{Give, Then}
use Rattle.transcode_words.specs.Answers.{NoMemory}
use Rattle.transcode_words.proofs.Joined.{passed}
use Rattle.transcode_core.proofs.Exits.{refused_by}
use Rattle.transcode_core.specs.Steps.{Loaded, ModuleIn}
use Rattle.transcode_core.specs.Causes.{OneLoad, SomeLoad}
use Rattle.transcode_core.proofs.Agendas.{begins_only, loads_only}
use Rattle.transcode_core.proofs.Loading.{only_load}
use Rattle.transcode_core.proofs.modules.show_back.Goals as goal

pub load_file-requires : goal.load_file-requires
load_file-requires g c = begins_only _ c.args.name.now c.requires

pub returns-clause-named : goal.returns-clause-named
returns-clause-named g c = loads_only _ _ c.args.name.now c.in_ok-bytes.ensures.rest

pub returns-in_err-bytes-clause-named : goal.returns-in_err-bytes-clause-named
returns-in_err-bytes-clause-named g c = loads_only _ _ c.args.name.now c.in_err-bytes.ensures.rest

pub returns-clause-due : goal.returns-clause-due
returns-clause-due g c =
    let entries = g.F.Library.entries c.args.files.now in
    passed (Loaded entries 1 c.args.name.now) (λ bytes. Then (ModuleIn bytes) (λ M. Give (back.summary M))) NoMemory
    (SomeLoad (g.F.Library.faults c.args.files.now) (g.F.Library.faults c.load_file.new.files) (g.F.Library.is_sure c.args.files.now) entries (c.args.name.now ∷ []))
    (λ (text : Vec ℕ Global). text.items) c.in_ok-bytes.bytes.items c.tell_of.result c.in_ok-bytes.ensures.due (rw c.deref.ensures.value at c.tell_of.ensures) (λ o h. inl h)

pub returns-in_err-bytes-clause-due : goal.returns-in_err-bytes-clause-due
returns-in_err-bytes-clause-due g c =
    let entries = g.F.Library.entries c.args.files.now in
    let before = g.F.Library.faults c.args.files.now in
    let now = g.F.Library.faults c.load_file.new.files in
    let sure = g.F.Library.is_sure c.args.files.now in
    refused_by (Loaded entries 1 c.args.name.now) (λ bytes. Then (ModuleIn bytes) (λ M. Give (back.summary M)))
    (OneLoad before now sure entries 1 c.args.name.now) (SomeLoad before now sure entries (c.args.name.now ∷ []))
    (λ (text : Vec ℕ Global). text.items) c.from_residual.result c.in_err-bytes.field-0.0 c.from_residual.ensures.1 c.in_err-bytes.ensures.due (only_load entries c.args.name.now before now sure c.in_err-bytes.field-0.0)
