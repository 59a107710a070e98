-- WHAT IS KEPT of the texts that were read, for complaints.
use Rattle.std.specs.Prelude.{ℕ, List, [], map, Option, Some, None}
use Rattle.std.specs.Global.{Vec}

-- the contents of files, in the order in which they were loaded; nothing if there was no memory to keep them
abbrev pub files_kept : Option (Vec (Vec ℕ)) → List (List ℕ)
files_kept None = []
files_kept (Some files) = map (λ file. file.items) files.items

-- what was read of the input; nothing if it isn't kept, or if there was no memory to keep it
abbrev pub input_kept : Option (Vec ℕ) → List ℕ
input_kept None = []
input_kept (Some bytes) = bytes.items
