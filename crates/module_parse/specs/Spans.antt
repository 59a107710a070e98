-- What is read if only its bytes matter.
use Rattle.std.specs.Prelude.{◌≡◌, ℕ, ◌-◌, ◌≤◌, ⊤, List, take, drop, length, Result, Ok, Err}
use Rattle.module_grammar.specs.declared.reach.Reach.{Reach}
use Rattle.base_texts.specs.Digits.{is_digit}
use Rattle.module_grammar.specs.Reading.{Reader, byte_at, many_at}
use Rattle.module_grammar.specs.Reached.{reading}
use Rattle.module_grammar.specs.declared.reach.Stop.{Stop}
use Rattle.module_grammar.specs.declared.reach.Stop.TheVariants as stop

-- The bytes from one place up to another.
abbrev pub between : List ℕ → ℕ → ℕ → List ℕ
between bytes start end = take (end - start) (drop start bytes)

-- The bytes between the places are read.
abbrev pub Spans : Reader (List ℕ) → List ℕ → Reach → Reach → Type 0
Spans read bytes from to = reading read bytes from ≡ Ok (between bytes from.at to.at, to)

abbrev pub Lies : List ℕ → Reach → Reach → Type 0
Lies bytes from to = (from.at ≤ to.at) × (to.at ≤ length bytes)

abbrev pub digits_at : Reader (List ℕ)
digits_at = many_at (byte_at is_digit)

-- The bytes between the places are read, or nothing.
abbrev pub GivesSpan : Reader (List ℕ) → List ℕ → Reach → Result Reach Stop → Type 0
GivesSpan read bytes from (Ok to) = Spans read bytes from to
GivesSpan read bytes from (Err (stop.Fails far)) = reading read bytes from ≡ Err (stop.Fails far)
GivesSpan read bytes from (Err (stop.Deep at far)) = reading read bytes from ≡ Err (stop.Deep at far)
GivesSpan read bytes from (Err stop.Memory) = ⊤

abbrev pub LiesWithin : List ℕ → Reach → Result Reach Stop → Type 0
LiesWithin bytes from (Ok to) = Lies bytes from to
LiesWithin bytes from (Err e) = ⊤
