-- THE REQUEST that a command of the program for people makes with its options and its words. Others make none, and their outcome is
-- `Usage`.
use Rattle.std.specs.Prelude.{ℕ, Bool, true, false, not, ◌||◌, ◌&&◌, ◌==◌, eqb, List, [], ◌∷◌, length, codes, Option, Some, None, is_none, option_map, option_and_then, unwrap_or, if◌then◌else◌}
use Rattle.std.specs.List.{ends_with}
use Rattle.transcode_words.specs.declared.tasks.Syntax.TheVariants.{Aligned}
use Rattle.transcode_words.specs.declared.asked.Form.{Form}
use Rattle.transcode_words.specs.declared.asked.Form.TheVariants.{Notation, Plain, Stamp}
use Rattle.transcode_words.specs.declared.asked.Task.{Task}
use Rattle.transcode_words.specs.declared.asked.Task.TheVariants as task
use Rattle.transcode_words.specs.Words.{are_files, root_of}
use Rattle.transcode_words.specs.Asked as asked
use Rattle.transcode_words.specs.Asked.{Root, Named, Only, Asked}
pub use Rattle.transcode_words.specs.Commands.{shown_back_by, tried_by}
use Rattle.people_options.specs.declared.options.CommandName.{CommandName}
use Rattle.people_options.specs.declared.options.CommandName.TheVariants as commands
use Rattle.people_options.specs.declared.options.Given.{Given}
use Rattle.people_options.specs.declared.options.Action.{Action as CodeAction}
use Rattle.people_options.specs.declared.options.Action.TheVariants as code

-- ---- what each command accepts

-- none of `--root`, `-t` and `-i`, which only tasks have
abbrev pub has_no_task : Given → Bool
has_no_task given = is_none given.root && is_none given.syntax && is_none given.input

-- none of `-t`, `--plain` and `--stamp`, which choose the form of what is written
abbrev pub has_no_form : Given → Bool
has_no_form given = is_none given.syntax && not given.plain && not given.stamp

-- the command accepts each of the options that are given
abbrev pub accepts : CommandName → Given → Bool
accepts commands.Show given = has_no_task given
accepts commands.ShowBack given = has_no_task given && has_no_form given
accepts commands.Check given = has_no_form given && is_none given.output
accepts commands.ToPer given = not given.plain
accepts commands.ToXml given = not given.plain
accepts commands.EachToXml given = has_no_form given
accepts commands.Trial given = has_no_task given && has_no_form given && is_none given.output

-- ---- what each command does

-- An action: the form of `show`; `show-back`; a task, with the value of `--root`; or `trial`.
pub data Action : Type 0 where
  Show : Form → Action
  ShowBack : Action
  Serve : Task → (root : Option (List ℕ)) → Action
  Trial : Action

-- what definitions see of an action of the code
abbrev pub action_seen : CodeAction → Action
action_seen (code.Show form) = Show form
action_seen code.ShowBack = ShowBack
action_seen (code.Serve task root) = Serve task (option_map (λ name. name.now) root)
action_seen code.Trial = Trial

-- the form of `show`, where its options are `--plain` and `--stamp`: at most one of them
abbrev pub form_of : Bool → Bool → Option Form
form_of false false = Some Notation
form_of true false = Some Plain
form_of false true = Some Stamp
form_of true true = None

-- the action of a command that accepts each of the options; without `-t` the transfer syntax is aligned PER
abbrev pub action_of : CommandName → Given → Option Action
action_of commands.Show given = option_map (λ form. Show form) (form_of given.plain given.stamp)
action_of commands.ShowBack given = Some ShowBack
action_of commands.Check given = Some (Serve task.Check given.root)
action_of commands.ToPer given = Some (Serve (task.Send (unwrap_or given.syntax Aligned) given.stamp) given.root)
action_of commands.ToXml given = Some (Serve (task.Receive (unwrap_or given.syntax Aligned) given.stamp) given.root)
action_of commands.EachToXml given = Some (Serve task.Each given.root)
action_of commands.Trial given = Some Trial

-- the action of a command with these options, if it accepts them
abbrev pub action_by : CommandName → Given → Option Action
action_by command given = if accepts command given then action_of command given else None

-- ---- the root and the files

-- the word is the name of a schema file
abbrev pub names_schema : List ℕ → Bool
names_schema word = ends_with eqb word (codes ".xsd")

-- The name of the root, if there is one, and the files. Without `--root` the first of several words is the root, unless it ends in
-- `.xsd`.
abbrev pub rooted : Option (List ℕ) → List (List ℕ) → Option (List ℕ) × List (List ℕ)
rooted (Some root) words = (Some root, words)
rooted None [] = (None, [])
rooted None (first ∷ others) = if length others == 0 || names_schema first then (None, first ∷ others) else (Some first, others)

-- the name of the root of a task, as it is given
abbrev pub root_name : Option (List ℕ) → List (List ℕ) → Option (List ℕ)
root_name root words = (rooted root words).0

-- the root that a name chooses; without a name it is the only global element
abbrev pub chosen : Option (List ℕ) → Option Root
chosen None = Some Only
chosen (Some name) = option_map (λ root. Named root) (root_of name)

-- ---- the request of each action

-- `show` of from 1 to 64 files
abbrev pub shown_by : Form → List (List ℕ) → Option Asked
shown_by form files = if are_files files then Some (asked.Show form files) else None

-- the task with this root and from 1 to 64 files
abbrev pub served_by : Task → Option (List ℕ) × List (List ℕ) → Option Asked
served_by task parts = if are_files parts.1 then option_map (λ root. asked.Serve task root parts.1) (chosen parts.0) else None

-- the action with these words
abbrev pub acted_by : Action → List (List ℕ) → Option Asked
acted_by (Show form) words = shown_by form words
acted_by ShowBack words = shown_back_by words
acted_by (Serve task root) words = served_by task (rooted root words)
acted_by Trial words = tried_by words

-- ---- THE REQUEST of a command with these options and these words, if there is one
abbrev pub asked_by : CommandName → Given → List (List ℕ) → Option Asked
asked_by command given words = option_and_then (λ act. acted_by act words) (action_by command given)
