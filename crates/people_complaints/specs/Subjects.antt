-- WHICH TEXT A COMPLAINT IS ABOUT: its name, as the request has it, and its contents, as far as they are kept.
use Rattle.std.specs.Prelude.{ℕ, ◌-◌, List, [], codes, map, Option, option_map, unwrap_or, slice_get, nat_lt, if◌then◌else◌}
use Rattle.transcode_words.specs.declared.outcome.Outcome.{Outcome}
use Rattle.transcode_words.specs.declared.outcome.Outcome.TheVariants.{Done, Usage, SchemaSyntax, SchemaFault, LinkFault, UnknownRoot, ModuleFault, TooLong, LoadFault, WriteFault, OutOfMemory}
use Rattle.people_complaints.specs.declared.subjects.Subjects.{Subjects}

-- The texts of a request: the names of its files, in their order, with the contents that are kept of the first of them; the root, the
-- input and the output, where the request names them; and the contents that are kept of the input.
pub record Texts : Type 0 where
  pub files : List (List ℕ)
  pub loaded : List (List ℕ)
  pub root : Option (List ℕ)
  pub input : Option (List ℕ)
  pub read : List ℕ
  pub output : Option (List ℕ)

-- what definitions see of the texts of the code
abbrev pub texts_seen : Subjects → Texts
texts_seen s = record {
  files = s.files.now;
  loaded = map (λ contents. contents.items) s.loaded.now;
  root = option_map (λ name. name.now) s.root;
  input = option_map (λ name. name.now) s.input;
  read = s.read.now;
  output = option_map (λ name. name.now) s.output;
}

-- the entry at this place of a list, from 0, or else the other text
abbrev pub entry_or : List ℕ → List (List ℕ) → ℕ → List ℕ
entry_or other texts at = unwrap_or (slice_get texts at) other

-- the name of the program, for what is about no text of the request
abbrev pub program : List ℕ
program = codes "ruvkhiska"

-- file number k, from 1: its name and its contents
abbrev pub file_at : Texts → ℕ → List ℕ × List ℕ
file_at t k = (entry_or program t.files (k - 1), entry_or [] t.loaded (k - 1))

-- the input: its name, or `input` for the standard input, and its contents
abbrev pub input_of : Texts → List ℕ × List ℕ
input_of t = (unwrap_or t.input (codes "input"), t.read)

-- The name and the contents of the text that an outcome is about: the file with the number in the outcome, or the module of
-- `show-back`; the output that can't be written; the root that isn't there; else the input. An outcome that is about none of them has
-- the name of the program.
abbrev pub about : Texts → Outcome → List ℕ × List ℕ
about t (SchemaSyntax k at why) = file_at t k
about t (SchemaFault k at why) = file_at t k
about t (LinkFault k at why) = file_at t k
about t (LoadFault k) = file_at t k
about t (ModuleFault at why) = file_at t 1
about t (TooLong k) = if nat_lt 0 k then file_at t k else input_of t
about t WriteFault = (unwrap_or t.output (codes "output"), [])
about t UnknownRoot = (unwrap_or t.root program, [])
about t Done = (program, [])
about t Usage = (program, [])
about t OutOfMemory = (program, [])
about t o = input_of t
