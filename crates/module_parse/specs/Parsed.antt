-- What all bytes are found to be.
use Rattle.std.specs.Prelude.{ℕ, ⊤, List, Result, Ok, Err}
use Rattle.base_texts.specs.declared.texts.Memory.{Memory}
use Rattle.module_text.specs.Grammar.{IsTextOf, IsBroken, Sinks}
use Rattle.module_parse.specs.declared.modules.Finding.{Finding}
use Rattle.module_parse.specs.declared.modules.Finding.TheVariants as finding

-- The finding is right, unless an allocation fails. It is the assignments of the text, the end of the longest prefix that begins a
-- text, or the place of a node nested too deep.
abbrev pub Parses : List ℕ → Result Finding Memory → Type 0
Parses bytes (Ok (finding.Module assignments)) = IsTextOf bytes assignments.items
Parses bytes (Ok (finding.Syntax at)) = IsBroken bytes at
Parses bytes (Ok (finding.TooDeep at)) = Sinks bytes at
Parses bytes (Err memory) = ⊤
