-- What the code reads of all bytes, from a place on.
use Rattle.std.specs.Prelude.{◌≡◌, ℕ, ◌+◌, ◌≤◌, ⊤, List, drop, Result, Ok, Err}
use Rattle.module_grammar.specs.declared.reach.Reach.{Reach}
use Rattle.module_grammar.specs.declared.reach.Stop.{Stop}
use Rattle.module_grammar.specs.declared.reach.Stop.TheVariants as stop
use Rattle.module_grammar.specs.Reading.{Answer, Found, Fails, Deep, Reader, later}

abbrev pub reach : ℕ → ℕ → Reach
reach at far = record { at = at; far = far }

-- What an answer at the bytes from here on states of all bytes.
abbrev pub reached : {A : Type 0} → Reach → Answer A → Result (A × Reach) Stop
reached s (Found a taken n) = Ok (a, reach (s.at + taken) (later s.far (s.at + n)))
reached s (Fails n) = Err (stop.Fails (later s.far (s.at + n)))
reached s (Deep at n) = Err (stop.Deep (s.at + at) (later s.far (s.at + n)))

unfoldable pub reading : {A : Type 0} → Reader A → List ℕ → Reach → Result (A × Reach) Stop
reading read bytes s = reached s (read s.at (drop s.at bytes))

-- The code gives what reading gives, unless an allocation fails.
abbrev pub Gives : {A : Type 0} → Result (A × Reach) Stop → Result (A × Reach) Stop → Type 0
Gives (Ok x) r = r ≡ Ok x
Gives (Err (stop.Fails far)) r = r ≡ Err (stop.Fails far)
Gives (Err (stop.Deep at far)) r = r ≡ Err (stop.Deep at far)
Gives (Err stop.Memory) r = ⊤

-- The code gives what reading without a value gives, unless an allocation fails.
abbrev pub Passes : Result Reach Stop → Result (Unit {0} × Reach) Stop → Type 0
Passes (Ok x) r = r ≡ Ok (tt, x)
Passes (Err (stop.Fails far)) r = r ≡ Err (stop.Fails far)
Passes (Err (stop.Deep at far)) r = r ≡ Err (stop.Deep at far)
Passes (Err stop.Memory) r = ⊤

-- Nothing is read after the first n bytes.
abbrev pub StaysWithin : {A : Type 0} → ℕ → Result (A × Reach) Stop → Type 0
StaysWithin n (Ok x) = x.1.at ≤ n
StaysWithin n (Err e) = ⊤

abbrev pub PassesWithin : ℕ → Result Reach Stop → Type 0
PassesWithin n (Ok x) = x.at ≤ n
PassesWithin n (Err e) = ⊤

-- The stop is final: no other reader is tried.
abbrev pub IsFinal : Stop → Type 0
IsFinal (stop.Fails far) = ⊥
IsFinal (stop.Deep at far) = ⊤
IsFinal stop.Memory = ⊤
