-- WHAT `run` PROMISES of its words: the outcome, and what standard error receives. The exit status is that of the outcome.
use Rattle.std.specs.Prelude.{◌≡◌, ◌⊎◌, ℕ, List, Option, option_map, MatchOption}
use Rattle.base_texts.specs.declared.sinks.Sink as sinks
use Rattle.transcode_words.specs.declared.outcome.Outcome.{Outcome}
use Rattle.transcode_words.specs.declared.outcome.Outcome.TheVariants.{Done, Usage, WriteFault, OutOfMemory}
use Rattle.transcode_words.specs.Asked.{Asked, files_of}
use Rattle.transcode_core.specs.Requests.Answers.{Environment}
use Rattle.people_options.specs.declared.options.Call.{Call}
use Rattle.people_options.specs.Requests.{asked_by, root_name}
use Rattle.people_results.specs.Serving.{failed, Serves}
use Rattle.people_complaints.specs.Subjects.{Texts}
use Rattle.people_complaints.specs.Complaints.{Complains}

-- what definitions see of standard error: the bytes that it received, and how often it has failed
pub record Received : Type 0 where
  pub written : Option (List ℕ)
  pub faults : ℕ

abbrev pub received : {E : Type 0} → sinks.Ghosts E → E → Received
received of_sink sink = record { written = of_sink.written sink; faults = of_sink.faults sink }

-- the texts of a call with files of these names, and the contents that are kept of the files and of the input
abbrev pub texts_of : Call → List (List ℕ) → List (List ℕ) → List ℕ → Texts
texts_of call files loaded read = record {
  files = files;
  loaded = loaded;
  root = root_name call.given.root call.words.items;
  input = option_map (λ name. name.now) call.given.input;
  read = read;
  output = option_map (λ name. name.now) call.given.output;
}

-- After `Done` standard error is as it was, or else it received the complaint about the outcome of a request with these texts.
abbrev pub Reports : Texts → Outcome → Received → Received → Type 0
Reports texts o old new = ((o ≡ Done) × (new ≡ old)) ⊎ Complains texts o old.written new.written old.faults new.faults

-- the same of an outcome that is about no text
abbrev pub ReportsAlone : Outcome → Received → Received → Type 0
ReportsAlone o old new = (texts : Texts) → Reports texts o old new

-- The outcome is one that `answer` promises where the files of the request may be loaded and no call has failed before, or memory was
-- missing. The complaint is about the texts of the request, with what was kept of them.
pub record EndsAsked (call : Call) (asked : Asked) (o : Outcome) (old new : Received) : Type 0 where
  pub later : Environment
  pub served : (o ≡ OutOfMemory) ⊎ Serves asked (failed (files_of asked) 0 0 0 0) later o
  pub loaded : List (List ℕ)
  pub read : List ℕ
  pub reports : Reports (texts_of call (files_of asked) loaded read) o old new

-- the outcome where there is no request
abbrev pub IsNoCommand : Outcome → Type 0
IsNoCommand o = (o ≡ Usage) ⊎ (o ≡ OutOfMemory)

-- A call that makes a request ends as this does, and any other in `Usage`, or memory was missing.
abbrev pub EndsCall : Call → Outcome → Received → Received → Type 0
EndsCall call o old new = MatchOption (asked_by call.command call.given call.words.items)
    (IsNoCommand o × ReportsAlone o old new) (λ asked. EndsAsked call asked o old new)

-- a page is written, or it isn't
abbrev pub EndsPage : Outcome → Type 0
EndsPage o = (o ≡ Done) ⊎ ((o ≡ WriteFault) ⊎ (o ≡ OutOfMemory))

-- What words are: a call of a command, or they ask for a page, as the help; or they are no command.
pub data Meaning : Type 0 where
  Command : Call → Meaning
  Page : Meaning
  NoCommand : Meaning

abbrev pub Ends : Meaning → Outcome → Received → Received → Type 0
Ends (Command call) o old new = EndsCall call o old new
Ends Page o old new = EndsPage o × ReportsAlone o old new
Ends NoCommand o old new = IsNoCommand o × ReportsAlone o old new

-- the words have a meaning, and the outcome is one of this meaning
abbrev pub Runs : Outcome → Received → Received → Type 0
Runs o old new = (meaning : Meaning) × Ends meaning o old new
