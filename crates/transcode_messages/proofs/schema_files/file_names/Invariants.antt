use Rattle.std.proofs.Common.{◌≡◌, ◌++◌, drop}
use Rattle.transcode_messages.specs.Messages.{names_of}
use Rattle.transcode_messages.proofs.schema_files.file_names.Given as goal

abbrev pub invariant-files : goal.invariant-files
invariant-files l = l.names.items ++ names_of (drop l.file-index l.files) ≡ names_of l.files
