-- Exactly the values are read, and the first that is nested too deep is given.
use Rattle.std.specs.Prelude.{◌≡◌, ℕ}
use Rattle.module_grammar.specs.Laws.{Early}
use Rattle.module_text.specs.Plain.{IsValue}
use Rattle.module_text.specs.Texts.{value_text}
use Rattle.module_text.specs.Places.{placed_value}
use Rattle.module_grammar.specs.ValueReading.{value_at}
use Rattle.module_grammar.specs.Depth.{value_deep}

abbrev pub ValuesSink : Type 0
ValuesSink = (depth : ℕ) → Early (λ place v. IsValue v × (placed_value place v ≡ v)) (value_deep depth) value_text (value_at depth)
