-- Exactly the texts of modules are read. For other bytes a place is given: up to which they begin one, or at which a type or a
-- value is nested too deep.
use Rattle.std.specs.Prelude.{◌≡◌, ℕ, ◌+◌, List, length}
use Rattle.module_print.specs.Printed.{opening}
use Rattle.module_grammar.specs.Verdicts.{Verdict, judged, Exact}
use Rattle.module_text.specs.declared.modules.PlainAssignment.{PlainAssignment}
use Rattle.module_text.specs.Texts.{text_of}
use Rattle.module_text.specs.Plain.{IsPlain}
use Rattle.module_text.specs.Places.{placed_from}
use Rattle.module_grammar.specs.ModuleReading.{module_at}
use Rattle.module_grammar.specs.TypeDepth.{module_deep}

-- The assignments of a text that begins at this place.
abbrev pub IsModuleHere : ℕ → List PlainAssignment → Type 0
IsModuleHere place assignments = IsPlain assignments × (placed_from (place + length opening) assignments ≡ assignments)

abbrev pub module_verdict : ℕ → List ℕ → Verdict (List PlainAssignment)
module_verdict most bytes = judged (length bytes) (module_at most 0 bytes)

-- The law, for each greatest nesting depth of types and of values.
abbrev pub ModulesExact : Type 0
ModulesExact = (most : ℕ) → Exact IsModuleHere (module_deep most) text_of (module_verdict most)
