use Rattle.std.proofs.Common.{inl}
use Rattle.schema_components.specs.Documents.{doc_of}
use Rattle.transcode_core.specs.Steps.{Loaded, SchemaIn}
use Rattle.transcode_words.specs.Answers.{NoMemory}
use Rattle.transcode_core.specs.Causes.{OneLoad}
use Rattle.transcode_words.proofs.Joined.{passed}
use Rattle.transcode_core.proofs.Exits.{refused_by}
use Rattle.transcode_core.proofs.schemas.load_schema.Goals as goal

pub returns-clause-due : goal.returns-clause-due
returns-clause-due g c =
    let entries = g.F.Library.entries c.args.files.now in
    passed (Loaded entries c.args.file c.args.name.now) (λ bytes. SchemaIn c.args.file bytes) NoMemory
    (OneLoad (g.F.Library.faults c.args.files.now) (g.F.Library.faults c.load_file.new.files) (g.F.Library.is_sure c.args.files.now) entries c.args.file c.args.name.now)
    doc_of c.in_ok-bytes.bytes.items c.read_file.result c.in_ok-bytes.ensures.due (rw c.deref.ensures.value at c.read_file.ensures) (λ o h. inl h)

pub returns-in_err-bytes-clause-due : goal.returns-in_err-bytes-clause-due
returns-in_err-bytes-clause-due g c =
    let entries = g.F.Library.entries c.args.files.now in
    let cause = OneLoad (g.F.Library.faults c.args.files.now) (g.F.Library.faults c.load_file.new.files) (g.F.Library.is_sure c.args.files.now) entries c.args.file c.args.name.now in
    refused_by (Loaded entries c.args.file c.args.name.now) (λ bytes. SchemaIn c.args.file bytes) cause cause doc_of
    c.from_residual.result c.in_err-bytes.field-0.0 c.from_residual.ensures.1 c.in_err-bytes.ensures.due (λ h. h)
