use Rattle.std.proofs.Common.{◌≡◌, inl, map, length, arith}
use Rattle.std.proofs.lemmas.List.{length-map}
use Rattle.schema_components.specs.Documents.{doc_of}
use Rattle.schema_components.specs.SetParts.{parts_of}
use Rattle.transcode_core.specs.Steps.{Schemas, Linked}
use Rattle.transcode_words.specs.Answers.{NoMemory}
use Rattle.transcode_core.specs.Causes.{SomeLoad}
use Rattle.transcode_words.proofs.Joined.{passed}
use Rattle.transcode_core.proofs.Exits.{refused_by}
use Rattle.transcode_core.proofs.SetLaws.{as_many, are_numbered}
use Rattle.transcode_core.proofs.opening.read_set.Goals as goal

pub returns-clause-due : goal.returns-clause-due
returns-clause-due g c =
    let entries = g.F.Library.entries c.args.files.now in
    passed (Schemas entries 1 c.args.names.now) (λ documents. Linked documents) NoMemory
    (SomeLoad (g.F.Library.faults c.args.files.now) (g.F.Library.faults c.load_schemas.new.files) (g.F.Library.is_sure c.args.files.now) entries c.args.names.now)
    parts_of (map doc_of c.in_ok-documents.documents.items) c.link_files.result c.in_ok-documents.ensures.due (rw c.deref.ensures.value at c.link_files.ensures) (λ o h. inl h)

pub returns-in_err-documents-clause-due : goal.returns-in_err-documents-clause-due
returns-in_err-documents-clause-due g c =
    let entries = g.F.Library.entries c.args.files.now in
    let cause = SomeLoad (g.F.Library.faults c.args.files.now) (g.F.Library.faults c.load_schemas.new.files) (g.F.Library.is_sure c.args.files.now) entries c.args.names.now in
    refused_by (Schemas entries 1 c.args.names.now) (λ documents. Linked documents) cause cause parts_of c.from_residual.result c.in_err-documents.field-0.0 c.from_residual.ensures.1 c.in_err-documents.ensures.due (λ h. h)

pub link_files-requires-clause-few : goal.link_files-requires-clause-few
link_files-requires-clause-few g c =
    let documents = c.in_ok-documents.documents.items in
    let many : length (map doc_of documents) ≡ length c.args.names.now = as_many (g.F.Library.entries c.args.files.now) 1 c.args.names.now (map doc_of documents) c.in_ok-documents.ensures.due in
    let same : length (map doc_of documents) ≡ length documents = length-map documents doc_of in
    let few = c.requires.few in
    rw c.deref.ensures.value (omega (arith, many, same, few))

pub link_files-requires-clause-numbered : goal.link_files-requires-clause-numbered
link_files-requires-clause-numbered g c =
    rw c.deref.ensures.value (are_numbered (g.F.Library.entries c.args.files.now) c.args.names.now (map doc_of c.in_ok-documents.documents.items) c.in_ok-documents.ensures.due)
