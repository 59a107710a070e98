use Rattle.std.proofs.Common.{◌≡◌, ◌≤◌, take, drop, map, Ok}
use Rattle.std.specs.Option.{option_map}
use Rattle.schema_components.specs.Documents.{doc_of}
use Rattle.transcode_core.specs.Steps.{Schemas}
use Rattle.transcode_core.proofs.schemas.load_schemas.Given as goal

-- those so far are schema documents
abbrev pub invariant-loop-i : goal.invariant-loop-i
invariant-loop-i g l =
    let library = g.F.Library in
    record {
      sound : Schemas (library.entries l.initial.files) 1 (take l.i l.names) (Ok (map doc_of l.documents.items));
      files : (library.entries l.files ≡ library.entries l.initial.files) × (library.is_sure l.files ≡ library.is_sure l.initial.files);
      rest : library.agenda l.files ≡ option_map (drop l.i) (library.agenda l.initial.files);
      later : library.faults l.initial.files ≤ library.faults l.files;
    }
