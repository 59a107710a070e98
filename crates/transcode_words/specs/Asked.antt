-- WHAT IS REQUESTED. Both programs and the library make one of these requests. What is required (`Due`) and what is promised
-- (`Answers`) are said of requests alone.
use Rattle.std.specs.Prelude.{ℕ, ◌≤◌, Bool, true, false, List, [], ◌∷◌, length}
use Rattle.base_texts.specs.declared.texts.Name.{Name}
use Rattle.transcode_words.specs.declared.asked.Form.{Form}
use Rattle.transcode_words.specs.declared.asked.Task.{Task}

-- the root of documents: the global element with this name, or the only global element of the set (XML Schema Part 1, section 3.3.2)
pub data Root : Type 0 where
  Named : Name → Root
  Only : Root

-- A request: to show the module of the set of these schema files; to show what the printed module in a file denotes; to do a task with
-- the set of these schema files, its root and the input; or to encode the trial document of this number of lines.
pub data Asked : Type 0 where
  Show : Form → (files : List (List ℕ)) → Asked
  ShowBack : (file : List ℕ) → Asked
  Serve : Task → Root → (files : List (List ℕ)) → Asked
  Trial : (lines : ℕ) → Asked

-- the request has at most 64 files, and a trial from 1 to 100,000 lines
abbrev pub IsWithin : Asked → Type 0
IsWithin (Show form files) = length files ≤ 64
IsWithin (ShowBack file) = Unit {0}
IsWithin (Serve task root files) = length files ≤ 64
IsWithin (Trial lines) = (1 ≤ lines) × (lines ≤ 100000)

-- the names of the files that are loaded, in this order
abbrev pub files_of : Asked → List (List ℕ)
files_of (Show form files) = files
files_of (ShowBack file) = file ∷ []
files_of (Serve task root files) = files
files_of (Trial lines) = []

-- whether the request reads the input
abbrev pub reads_input : Asked → Bool
reads_input (Show form files) = false
reads_input (ShowBack file) = false
reads_input (Serve task root files) = true
reads_input (Trial lines) = false
