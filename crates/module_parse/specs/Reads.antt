-- What the code reads of the bytes, from a place on, as a reader defines it.
use Rattle.std.specs.Prelude.{◌≡◌, ℕ, ◌+◌, ◌<◌, ◌≤◌, ⊤, Bool, get_or, Option, Some, None, List, ◌++◌, length, Vec, Result, Ok, Err}
use Rattle.std.specs.Global.{Global}
use Rattle.module_grammar.specs.declared.reach.Reach.{Reach}
use Rattle.module_grammar.specs.declared.reach.Stop.{Stop}
use Rattle.module_grammar.specs.declared.reach.Stop.TheVariants as stop
use Rattle.module_grammar.specs.Reading.{Reader, later, word_at, byte_at}
use Rattle.module_grammar.specs.Reached.{reach, reading, Gives}
use Rattle.module_parse.specs.Spans.{between}

-- This value is read, and reading continues from that place.
pub record IsRead {A : Type 0} (read : Reader A) (bytes : List ℕ) (from : Reach) (a : A) (to : Reach) : Type 0 where
  pub is : reading read bytes from ≡ Ok (a, to)

-- Nothing is read, for this reason.
pub record IsStopped {A : Type 0} (read : Reader A) (bytes : List ℕ) (from : Reach) (e : Stop) : Type 0 where
  pub is : Gives {A = A} (Err e) (reading read bytes from)

abbrev pub Reads : {A : Type 0} → Reader A → List ℕ → Reach → Result (A × Reach) Stop → Type 0
Reads read bytes from (Ok x) = IsRead read bytes from x.0 x.1
Reads read bytes from (Err e) = IsStopped read bytes from e

abbrev pub ReadsWord : List ℕ → List ℕ → Reach → Result Reach Stop → Type 0
ReadsWord word bytes from (Ok to) = IsRead (word_at word) bytes from tt to
ReadsWord word bytes from (Err e) = IsStopped (word_at word) bytes from e

-- Something is read, whatever its value.
pub record IsFound {A : Type 0} (reader : Reader A) (bytes : List ℕ) (from to : Reach) : Type 0 where
  pub value : A
  pub read : IsRead reader bytes from value to

abbrev pub Finds : {A : Type 0} → Reader A → List ℕ → Reach → Result Reach Stop → Type 0
Finds read bytes from (Ok to) = IsFound read bytes from to
Finds read bytes from (Err e) = IsStopped read bytes from e

-- One byte of a class is read.
abbrev pub ReadsByte : (ℕ → Bool) → List ℕ → Reach → Result Reach Stop → Type 0
ReadsByte is_one bytes from (Ok to) = IsRead (byte_at is_one) bytes from (get_or bytes from.at 0) to
ReadsByte is_one bytes from (Err e) = IsStopped (byte_at is_one) bytes from e

-- The value that is read is a list, which the code keeps as a vector.
abbrev pub ReadsList : {A : Type 0} → Reader (List A) → List ℕ → Reach → Result (Vec A Global × Reach) Stop → Type 0
ReadsList read bytes from (Ok x) = IsRead read bytes from x.0.items x.1
ReadsList read bytes from (Err e) = IsStopped read bytes from e

-- The text of the value is the bytes between the places.
pub record IsSpan {A : Type 0} (reader : Reader A) (write : A → List ℕ) (bytes : List ℕ) (from to : Reach) : Type 0 where
  pub value : A
  pub read : IsRead reader bytes from value to
  pub text : write value ≡ between bytes from.at to.at

abbrev pub ReadsSpan : {A : Type 0} → Reader A → (A → List ℕ) → List ℕ → Reach → Result Reach Stop → Type 0
ReadsSpan read write bytes from (Ok to) = IsSpan read write bytes from to
ReadsSpan read write bytes from (Err e) = IsStopped read bytes from e

-- The code gives the value in another form.
pub record IsReadAs {A B : Type 0} (form : A → B) (reader : Reader A) (bytes : List ℕ) (from : Reach) (b : B) (to : Reach) : Type 0 where
  pub value : A
  pub read : IsRead reader bytes from value to
  pub same : form value ≡ b

abbrev pub ReadsAs : {A B : Type 0} → (A → B) → Reader A → List ℕ → Reach → Result (B × Reach) Stop → Type 0
ReadsAs form read bytes from (Ok x) = IsReadAs form read bytes from x.0 x.1
ReadsAs form read bytes from (Err e) = IsStopped read bytes from e

-- The list that is read is appended to those before, in a vector.
abbrev pub ReadsMore : {A : Type 0} → List A → Reader (List A) → List ℕ → Reach → Result (Vec A Global × Reach) Stop → Type 0
ReadsMore before read bytes from (Ok x) = IsReadAs (λ xs. before ++ xs) read bytes from x.0.items x.1
ReadsMore before read bytes from (Err e) = IsStopped read bytes from e

-- `size` bytes are read.
abbrev pub PassesWord : ℕ → ℕ → Reach → Result Reach Stop → Type 0
PassesWord size n from (Ok to) = (to.at ≡ from.at + size) × (to.at ≤ n)
PassesWord size n from (Err e) = ⊤

abbrev pub PassesMoving : ℕ → Reach → Result Reach Stop → Type 0
PassesMoving n from (Ok to) = (from.at < to.at) × (to.at ≤ n)
PassesMoving n from (Err e) = ⊤

abbrev pub PassesStaying : ℕ → Reach → Result Reach Stop → Type 0
PassesStaying n from (Ok to) = (from.at ≤ to.at) × (to.at ≤ n)
PassesStaying n from (Err e) = ⊤

-- No byte is read twice, and none after the last.
abbrev pub Stays : {A : Type 0} → ℕ → Reach → Result (A × Reach) Stop → Type 0
Stays n from (Ok x) = (from.at ≤ x.1.at) × (x.1.at ≤ n)
Stays n from (Err e) = ⊤

-- No byte is read twice, none after the last, and at least one is read.
abbrev pub Moves : {A : Type 0} → ℕ → Reach → Result (A × Reach) Stop → Type 0
Moves n from (Ok x) = (from.at < x.1.at) × (x.1.at ≤ n)
Moves n from (Err e) = ⊤

-- Reading continues at the place from which nothing could be read.
pub record IsAgain (from : Reach) (e : Stop) (to : Reach) : Type 0 where
  pub failed : e ≡ stop.Fails to.far
  pub same : to ≡ reach from.at to.far
  pub place : to.at ≡ from.at

-- Nothing is read.
pub record IsNothing (from to : Reach) : Type 0 where
  pub same : to ≡ reach from.at (later from.far from.at)
  pub place : to.at ≡ from.at

-- An optional thing: None if it could not be read.
abbrev pub optional_of : {A : Type 0} → Reach → Result (A × Reach) Stop → Result (Option A × Reach) Stop
optional_of from (Ok x) = Ok (Some x.0, x.1)
optional_of from (Err (stop.Fails far)) = Ok (None, reach from.at (later far from.at))
optional_of from (Err (stop.Deep at far)) = Err (stop.Deep at far)
optional_of from (Err stop.Memory) = Err stop.Memory
