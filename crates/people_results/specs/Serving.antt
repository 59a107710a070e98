-- What a program promises of the outcome of a request, where nothing is known of its files and streams.
use Rattle.std.specs.Prelude.{◌≡◌, ◌⊎◌, ℕ, false, List, Some, None}
use Rattle.transcode_words.specs.Asked.{Asked}
use Rattle.transcode_words.specs.declared.outcome.Outcome.{Outcome}
use Rattle.transcode_words.specs.declared.outcome.Outcome.TheVariants.{Done, WriteFault}
use Rattle.transcode_core.specs.Requests.Answers.{Environment, Answers}

-- The environment of a program that may load files of these names, after so many failures of its files, its input and its output, and so
-- many steps: the runtime states nothing of what files and streams contain.
abbrev pub failed : (names : List (List ℕ)) → (loads reads writes steps : ℕ) → Environment
failed names loads reads writes steps = record {
  entries = None;
  is_sure = false;
  agenda = Some names;
  left = None;
  written = None;
  room = None;
  load_faults = loads;
  read_faults = reads;
  write_faults = writes;
  steps = steps;
}

-- the outcome is one that `answer` promises of the request, in this environment before and after it
abbrev pub IsAnswer : Asked → Environment → Environment → Outcome → Type 0
IsAnswer asked old new o = Answers asked old new (Unit {0}) (Unit {0}) o

-- The outcome is one that `answer` promises. Or it is `WriteFault`: `answer` was done, and the file with the complete result could not
-- get its name.
abbrev pub Serves : Asked → Environment → Environment → Outcome → Type 0
Serves asked old new o = IsAnswer asked old new o ⊎ ((o ≡ WriteFault) × IsAnswer asked old new Done)
