-- What `Runs` says of the environment that a call is given, and of what the call left in it.
use Rattle.std.specs.Prelude.{◌≡◌, ℕ, List}
use Rattle.std.specs.Borrow.{MutBor}
use Rattle.base_texts.specs.declared.libraries.Library as libraries
use Rattle.base_texts.specs.declared.sources.Source as sources
use Rattle.base_texts.specs.declared.sinks.Sink as sinks
use Rattle.transcode_words.specs.declared.outcome.Outcome.{Outcome}
use Rattle.transcode_core.specs.declared.environments.Environment.{Environment}
use Rattle.transcode_core.specs.Requests.Answers.{environment_of}
use Rattle.transcode_core.specs.Runs.{Complaints, Runs}

-- what definitions see of the complaints
abbrev pub complaints_of : {E : Type 0} → sinks.Ghosts E → E → Complaints
complaints_of of_complaints complaints = record { written = of_complaints.written complaints; faults = of_complaints.faults complaints }

-- `Runs` of the environment that the call is given, and of what it left in its four objects, with the counts of steps before and after it
abbrev pub RunsIn : {F S K E : Type 0} → libraries.Ghosts F → sources.Ghosts S → sinks.Ghosts K → sinks.Ghosts E → List (List ℕ)
    → Environment F S K E → MutBor F × (MutBor S × (MutBor K × (MutBor E × Unit {0}))) → ℕ → ℕ → Outcome → Type 0
RunsIn of_files of_input of_output of_complaints words given left steps steps_now result =
    Runs words
    (environment_of of_files of_input of_output given.files.now given.input.now given.output.now steps)
    (environment_of of_files of_input of_output left.0.now left.1.0.now left.1.1.0.now steps_now)
    (complaints_of of_complaints given.complaints.now) (complaints_of of_complaints left.1.1.1.0.now)
    (left.1.0.now ≡ given.input.now) (left.1.1.0.now ≡ given.output.now) result
