-- The plain grammar is read: the reader gives of bytes what the grammar states of them.
use Rattle.std.specs.Prelude.{◌≡◌, ℕ, ◌↔◌, List}
use Rattle.module_grammar.specs.Verdicts.{Read, Syntax, TooDeep}
use Rattle.module_text.specs.declared.modules.PlainAssignment.{PlainAssignment}
use Rattle.module_text.specs.Plain.{limit}
use Rattle.module_text.specs.Grammar.{IsTextOf, IsBroken, Sinks}
use Rattle.module_grammar.specs.ModulesRead.{module_verdict}

-- The law, for the greatest nesting depth of types and values that the grammar allows.
pub record TextsRead (most : ℕ) : Type 0 where
  pub texts : (bytes : List ℕ) (assignments : List PlainAssignment) → (module_verdict most bytes ≡ Read assignments) ↔ IsTextOf bytes assignments
  pub broken : (bytes : List ℕ) (at : ℕ) → (module_verdict most bytes ≡ Syntax at) ↔ IsBroken bytes at
  pub deep : (bytes : List ℕ) (at : ℕ) → (module_verdict most bytes ≡ TooDeep at) ↔ Sinks bytes at

abbrev pub AllTextsRead : Type 0
AllTextsRead = (most : ℕ) → most ≡ limit → TextsRead most
