-- Answers of a step: the required one, or one with a cause of its own.
use Rattle.std.specs.Prelude.{◌≡◌, ◌⊎◌, Result, Ok, Err}
use Rattle.transcode_words.specs.declared.outcome.Outcome.{Outcome}
use Rattle.transcode_words.specs.declared.outcome.Outcome.TheVariants.{Done, LoadFault, ReadFault, WriteFault, OutOfMemory}

-- an outcome that refuses the words, a file or the input
abbrev pub IsRefusal : Outcome → Type 0
IsRefusal Done = ⊥
IsRefusal (LoadFault _) = ⊥
IsRefusal ReadFault = ⊥
IsRefusal WriteFault = ⊥
IsRefusal OutOfMemory = ⊥
IsRefusal o = Unit {0}

-- A step passes with a value, seen by `view`, or rejects, as required; or the answer has its cause in the environment.
abbrev pub Answers : {A B : Type 0} → (A → B) → (Result B Outcome → Type 0) → (Outcome → Type 0) → Result A Outcome → Type 0
Answers view due cause (Ok a) = due (Ok (view a))
Answers view due cause (Err o) = (due (Err o) × IsRefusal o) ⊎ cause o

-- a step that meets neither the outside nor memory
abbrev pub Never : Outcome → Type 0
Never o = ⊥

-- memory is missing
abbrev pub NoMemory : Outcome → Type 0
NoMemory o = o ≡ OutOfMemory
