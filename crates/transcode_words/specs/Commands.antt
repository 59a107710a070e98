-- THE COMMANDS of the program for scripts: the request that its words make. Other words make none, and their outcome is `Usage`.
use Rattle.std.specs.Prelude.{ℕ, false, List, [], ◌∷◌, bytes_eq, codes, Option, Some, None, option_map, if◌then◌else◌}
use Rattle.transcode_words.specs.declared.tasks.Syntax.TheVariants.{Aligned, Unaligned, Der}
use Rattle.transcode_words.specs.declared.asked.Form.TheVariants.{Notation}
use Rattle.transcode_words.specs.declared.asked.Task.{Task}
use Rattle.transcode_words.specs.declared.asked.Task.TheVariants.{Check, Send, Receive, Each}
use Rattle.transcode_words.specs.Words.{are_files, count_of, rooted_parts}
use Rattle.transcode_words.specs.Asked.{Named, Asked, Show, ShowBack, Serve, Trial}

-- the task that the word names; no command has a stamp
abbrev pub task_of : List ℕ → Option Task
task_of word =
    if bytes_eq word (codes "check") then Some Check
    else if bytes_eq word (codes "to-per") then Some (Send Aligned false)
    else if bytes_eq word (codes "to-xml") then Some (Receive Aligned false)
    else if bytes_eq word (codes "to-per-u") then Some (Send Unaligned false)
    else if bytes_eq word (codes "to-xml-u") then Some (Receive Unaligned false)
    else if bytes_eq word (codes "to-der") then Some (Send Der false)
    else if bytes_eq word (codes "from-der") then Some (Receive Der false)
    else if bytes_eq word (codes "each-to-xml") then Some Each
    else None

-- `ROOT FILE...` after the name of a task: a root by its name, and from 1 to 64 files
abbrev pub served_by : List (List ℕ) → Task → Option Asked
served_by words task = option_map (λ parts. Serve task (Named parts.0) parts.1) (rooted_parts words)

-- the same where there is a task
abbrev pub tasked_by : Option Task → List (List ℕ) → Option Asked
tasked_by None words = None
tasked_by (Some task) words = served_by words task

-- `FILE...` after `show`: from 1 to 64 files
abbrev pub shown_by : List (List ℕ) → Option Asked
shown_by files = if are_files files then Some (Show Notation files) else None

-- `FILE` after `show-back`
abbrev pub shown_back_by : List (List ℕ) → Option Asked
shown_back_by (file ∷ []) = Some (ShowBack file)
shown_back_by words = None

-- `N` after `trial`: from 1 to 100,000
abbrev pub tried_by : List (List ℕ) → Option Asked
tried_by (word ∷ []) = option_map (λ n. Trial n) (count_of word)
tried_by words = None

-- the request that the words make, if they make one
abbrev pub asked_by : List (List ℕ) → Option Asked
asked_by [] = None
asked_by (command ∷ words) =
    if bytes_eq command (codes "show") then shown_by words
    else if bytes_eq command (codes "show-back") then shown_back_by words
    else if bytes_eq command (codes "trial") then tried_by words
    else tasked_by (task_of command) words
