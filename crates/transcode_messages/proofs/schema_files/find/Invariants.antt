use Rattle.std.proofs.Common.{◌≡◌, drop}
use Rattle.base_texts.specs.Entries.{beside}
use Rattle.transcode_messages.proofs.schema_files.find.Given as goal

abbrev pub invariant-loop-file : goal.invariant-loop-file
invariant-loop-file l = beside l.name l.files ≡ beside l.name (drop l.file-index l.files)
