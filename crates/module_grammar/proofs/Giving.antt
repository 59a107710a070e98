-- What code gives that reads as readers put together do, a step at a time.
use Rattle.std.proofs.Common.{◌≡◌, ℕ, ◌⊎◌, inl, inr, List, Result, Ok, Err, ap, ◌∙◌}
use Rattle.module_grammar.specs.declared.reach.Reach.{Reach}
use Rattle.module_grammar.specs.declared.reach.Stop.{Stop}
use Rattle.module_grammar.specs.declared.reach.Stop.TheVariants as stop
use Rattle.module_grammar.specs.Reading.{Reader, then_at, or_at, as_at, word_at, behind_at, before_at}
use Rattle.module_grammar.specs.Reached.{reach, reading, Gives, Passes}
use Rattle.module_grammar.proofs.Stepping.{and_then, with_first, reading_then, in_form, reading_as, or_next, reading_or}

-- ---- another form

pub gives_as : {A B : Type 0} (to : ℕ → A → B) (read : Reader A) (bytes : List ℕ) (s : Reach) (result : Result (A × Reach) Stop) → Gives result (reading read bytes s) → Gives (in_form (to s.at) result) (reading (as_at to read) bytes s)
gives_as to read bytes s (Ok x) h = reading_as to read bytes s ∙ ap (λ r. in_form (to s.at) r) h
gives_as to read bytes s (Err (stop.Fails far)) h = reading_as to read bytes s ∙ ap (λ r. in_form (to s.at) r) h
gives_as to read bytes s (Err (stop.Deep at far)) h = reading_as to read bytes s ∙ ap (λ r. in_form (to s.at) r) h
gives_as to read bytes s (Err stop.Memory) h = tt

-- ---- one after the other

pub gives_then : {A B : Type 0} (first : Reader A) (next : A → Reader B) (bytes : List ℕ) (s q : Reach) (a : A) (result : Result (B × Reach) Stop) → reading first bytes s ≡ Ok (a, q) → Gives result (reading (next a) bytes q) → Gives (with_first a result) (reading (then_at first next) bytes s)
gives_then first next bytes s q a (Ok x) h g = reading_then first next bytes s ∙ ap (λ r. and_then r (λ b t. reading (next b) bytes t)) h ∙ ap (λ r. with_first a r) g
gives_then first next bytes s q a (Err (stop.Fails far)) h g = reading_then first next bytes s ∙ ap (λ r. and_then r (λ b t. reading (next b) bytes t)) h ∙ ap (λ r. with_first a r) g
gives_then first next bytes s q a (Err (stop.Deep at far)) h g = reading_then first next bytes s ∙ ap (λ r. and_then r (λ b t. reading (next b) bytes t)) h ∙ ap (λ r. with_first a r) g
gives_then first next bytes s q a (Err stop.Memory) h g = tt

-- where the first stops
pub stops_then : {A B : Type 0} (first : Reader A) (next : A → Reader B) (bytes : List ℕ) (s : Reach) (e : Stop) → Gives {A = A} (Err e) (reading first bytes s) → Gives {A = A × B} (Err e) (reading (then_at first next) bytes s)
stops_then first next bytes s (stop.Fails far) h = reading_then first next bytes s ∙ ap (λ r. and_then r (λ b t. reading (next b) bytes t)) h
stops_then first next bytes s (stop.Deep at far) h = reading_then first next bytes s ∙ ap (λ r. and_then r (λ b t. reading (next b) bytes t)) h
stops_then first next bytes s stop.Memory h = tt

-- ---- one or the other

pub gives_first : {A B : Type 0} (first : Reader A) (second : Reader B) (bytes : List ℕ) (s q : Reach) (a : A) → reading first bytes s ≡ Ok (a, q) → reading (or_at first second) bytes s ≡ Ok (inl a, q)
gives_first first second bytes s q a h = reading_or first second bytes s ∙ ap (λ r. or_next r (λ far. reading second bytes (reach s.at far))) h

pub gives_second : {A B : Type 0} (first : Reader A) (second : Reader B) (bytes : List ℕ) (s : Reach) (far : ℕ) (result : Result (B × Reach) Stop) → reading first bytes s ≡ Err (stop.Fails far) → Gives result (reading second bytes (reach s.at far)) → Gives {A = A ⊎ B} (in_form (λ b. inr b) result) (reading (or_at first second) bytes s)
gives_second first second bytes s far (Ok x) h g = reading_or first second bytes s ∙ ap (λ r. or_next r (λ k. reading second bytes (reach s.at k))) h ∙ ap (λ r. in_form (λ b. inr b) r) g
gives_second first second bytes s far (Err (stop.Fails n)) h g = reading_or first second bytes s ∙ ap (λ r. or_next r (λ k. reading second bytes (reach s.at k))) h ∙ ap (λ r. in_form (λ b. inr b) r) g
gives_second first second bytes s far (Err (stop.Deep at n)) h g = reading_or first second bytes s ∙ ap (λ r. or_next r (λ k. reading second bytes (reach s.at k))) h ∙ ap (λ r. in_form (λ b. inr b) r) g
gives_second first second bytes s far (Err stop.Memory) h g = tt

-- where the first finds a node that lies too deep
pub sinks_first : {A B : Type 0} (first : Reader A) (second : Reader B) (bytes : List ℕ) (s : Reach) (at far : ℕ) → reading first bytes s ≡ Err (stop.Deep at far) → reading (or_at first second) bytes s ≡ Err (stop.Deep at far)
sinks_first first second bytes s at far h = reading_or first second bytes s ∙ ap (λ r. or_next r (λ k. reading second bytes (reach s.at k))) h

-- ---- behind and before words

pub gives_behind : {A : Type 0} (word : List ℕ) (read : Reader A) (bytes : List ℕ) (s q : Reach) (result : Result (A × Reach) Stop) → reading (word_at word) bytes s ≡ Ok (tt, q) → Gives result (reading read bytes q) → Gives result (reading (behind_at word read) bytes s)
gives_behind {A} word read bytes s q (Ok x) h g = gives_as {A = Unit {0} × A} {B = A} (λ place y. y.1) (then_at (word_at word) (λ y. read)) bytes s (Ok ((tt, x.0), x.1)) (gives_then (word_at word) (λ y. read) bytes s q tt (Ok x) h g)
gives_behind {A} word read bytes s q (Err e) h g = gives_as {A = Unit {0} × A} {B = A} (λ place y. y.1) (then_at (word_at word) (λ y. read)) bytes s (Err e) (gives_then (word_at word) (λ y. read) bytes s q tt (Err e) h g)

stops_word : (word : List ℕ) (bytes : List ℕ) (s : Reach) (e : Stop) → Passes (Err e) (reading (word_at word) bytes s) → Gives {A = Unit {0}} (Err e) (reading (word_at word) bytes s)
stops_word word bytes s (stop.Fails far) h = h
stops_word word bytes s (stop.Deep at far) h = h
stops_word word bytes s stop.Memory h = tt

pub stops_behind : {A : Type 0} (word : List ℕ) (read : Reader A) (bytes : List ℕ) (s : Reach) (e : Stop) → Passes (Err e) (reading (word_at word) bytes s) → Gives {A = A} (Err e) (reading (behind_at word read) bytes s)
stops_behind {A} word read bytes s e h = gives_as {A = Unit {0} × A} {B = A} (λ place y. y.1) (then_at (word_at word) (λ y. read)) bytes s (Err e) (stops_then (word_at word) (λ y. read) bytes s e (stops_word word bytes s e h))

pub gives_before : {A : Type 0} (read : Reader A) (word : List ℕ) (bytes : List ℕ) (s q t : Reach) (a : A) → reading read bytes s ≡ Ok (a, q) → reading (word_at word) bytes q ≡ Ok (tt, t) → reading (before_at read word) bytes s ≡ Ok (a, t)
gives_before {A} read word bytes s q t a h g = gives_as {A = A × Unit {0}} {B = A} (λ place y. y.0) (then_at read (λ y. word_at word)) bytes s (Ok ((a, tt), t)) (gives_then read (λ y. word_at word) bytes s q a (Ok (tt, t)) h g)

-- where the word isn't there
pub stops_at_word : {A : Type 0} (read : Reader A) (word : List ℕ) (bytes : List ℕ) (s q : Reach) (a : A) (e : Stop) → reading read bytes s ≡ Ok (a, q) → Passes (Err e) (reading (word_at word) bytes q) → Gives {A = A} (Err e) (reading (before_at read word) bytes s)
stops_at_word {A} read word bytes s q a e h g = gives_as {A = A × Unit {0}} {B = A} (λ place y. y.0) (then_at read (λ y. word_at word)) bytes s (Err e) (gives_then read (λ y. word_at word) bytes s q a (Err e) h (stops_word word bytes q e g))

pub stops_before : {A : Type 0} (read : Reader A) (word : List ℕ) (bytes : List ℕ) (s : Reach) (e : Stop) → Gives {A = A} (Err e) (reading read bytes s) → Gives {A = A} (Err e) (reading (before_at read word) bytes s)
stops_before {A} read word bytes s e h = gives_as {A = A × Unit {0}} {B = A} (λ place y. y.0) (then_at read (λ y. word_at word)) bytes s (Err e) (stops_then read (λ y. word_at word) bytes s e h)
