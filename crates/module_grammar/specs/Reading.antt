-- Reading a text at the beginning of bytes: its value, and how many of the bytes begin such a text. Readers are composed of readers
-- of words and of single bytes: one after the other, one or the other, or any number of one.
use mathlib.Core.Logic.{inl, inr}
use Rattle.std.specs.Prelude.{ℕ, zero, suc, ◌+◌, ◌-◌, ◌==◌, Bool, List, [], ◌∷◌, length, drop, ◌⊎◌, if◌then◌else◌}

pub data Answer (A : Type 0) : Type 0 where
  -- A text is at the beginning: its value, its number of bytes, and how many of the first bytes begin a text.
  Found : A → ℕ → ℕ → Answer A
  -- No text is at the beginning: how many of the first bytes begin one.
  Fails : ℕ → Answer A
  -- A node that is nested too deep begins at this byte, and how many of the first bytes show it.
  Deep : ℕ → ℕ → Answer A

-- The answer at a place, for the bytes from there on.
abbrev pub Reader : Type 0 → Type 0
Reader A = ℕ → List ℕ → Answer A

abbrev pub far : {A : Type 0} → Answer A → ℕ
far (Found a taken n) = n
far (Fails n) = n
far (Deep at n) = n

-- The later of two places.
abbrev pub later : ℕ → ℕ → ℕ
later m n = m + (n - m)

-- ---- words

abbrev pub one_byte_more : Answer (Unit {0}) → Answer (Unit {0})
one_byte_more (Found x taken n) = Found x (suc taken) (suc n)
one_byte_more (Fails n) = Fails (suc n)
one_byte_more (Deep at n) = Deep (suc at) (suc n)

-- One word.
abbrev pub word_at : List ℕ → Reader (Unit {0})
word_at [] place bs = Found tt 0 0
word_at (a ∷ word) place [] = Fails 0
word_at (a ∷ word) place (b ∷ bs) = if b == a then one_byte_more (word_at word place bs) else Fails 0

-- One byte of a class.
abbrev pub byte_at : (ℕ → Bool) → Reader ℕ
byte_at is_one place [] = Fails 0
byte_at is_one place (b ∷ bs) = if is_one b then Found b 1 1 else Fails 0

-- No byte.
abbrev pub nothing_at : Reader (Unit {0})
nothing_at place bs = Found tt 0 0

-- ---- one after the other

-- The answer for two parts, the first of which has `taken` bytes. So far n of the first bytes begin a text.
abbrev pub behind : {A B : Type 0} → A → ℕ → ℕ → Answer B → Answer (A × B)
behind a taken n (Found b more m) = Found (a, b) (taken + more) (later n (taken + m))
behind a taken n (Fails m) = Fails (later n (taken + m))
behind a taken n (Deep at m) = Deep (taken + at) (later n (taken + m))

abbrev pub go_on : {A B : Type 0} → (A → Reader B) → ℕ → List ℕ → Answer A → Answer (A × B)
go_on next place bs (Found a taken n) = behind a taken n (next a (place + taken) (drop taken bs))
go_on next place bs (Fails n) = Fails n
go_on next place bs (Deep at n) = Deep at n

-- One reader after the other. The second may depend on the value of the first.
abbrev pub then_at : {A B : Type 0} → Reader A → (A → Reader B) → Reader (A × B)
then_at first next place bs = go_on next place bs (first place bs)

-- ---- one or the other

abbrev pub failed_before : {A B : Type 0} → ℕ → Answer B → Answer (A ⊎ B)
failed_before n (Found b taken m) = Found (inr b) taken (later n m)
failed_before n (Fails m) = Fails (later n m)
failed_before n (Deep at m) = Deep at (later n m)

abbrev pub or_else : {A B : Type 0} → Answer B → Answer A → Answer (A ⊎ B)
or_else other (Found a taken n) = Found (inl a) taken n
or_else other (Fails n) = failed_before n other
or_else other (Deep at n) = Deep at n

-- The first reader, or the second if the first fails.
abbrev pub or_at : {A B : Type 0} → Reader A → Reader B → Reader (A ⊎ B)
or_at first second place bs = or_else (second place bs) (first place bs)

-- ---- any number

abbrev pub cons_at : {A : Type 0} → A → ℕ → ℕ → Answer (List A) → Answer (List A)
cons_at a taken n (Found xs more m) = Found (a ∷ xs) (taken + more) (later n (taken + m))
cons_at a taken n (Fails m) = Fails (later n (taken + m))
cons_at a taken n (Deep at m) = Deep (taken + at) (later n (taken + m))

abbrev pub one_more : {A : Type 0} → Reader (List A) → ℕ → List ℕ → Answer A → Answer (List A)
one_more others place bs (Found a taken n) = cons_at a taken n (others (place + taken) (drop taken bs))
one_more others place bs (Fails n) = Found [] 0 n
one_more others place bs (Deep at n) = Deep at n

-- All that there are, up to the given number.
abbrev pub up_to : {A : Type 0} → Reader A → ℕ → Reader (List A)
up_to read zero place bs = Found [] 0 0
up_to read (suc k) place bs = one_more (up_to read k) place bs (read place bs)

abbrev pub many_at : {A : Type 0} → Reader A → Reader (List A)
many_at read place bs = up_to read (suc (length bs)) place bs

-- ---- another form of the value

abbrev pub answer_map : {A B : Type 0} → (A → B) → Answer A → Answer B
answer_map f (Found a taken n) = Found (f a) taken n
answer_map f (Fails n) = Fails n
answer_map f (Deep at n) = Deep at n

-- The value in another form, which may contain the place of the text.
abbrev pub as_at : {A B : Type 0} → (ℕ → A → B) → Reader A → Reader B
as_at f read place bs = answer_map (f place) (read place bs)

-- ---- with words that every text has

abbrev pub behind_at : {A : Type 0} → List ℕ → Reader A → Reader A
behind_at {A} word read = as_at {A = Unit {0} × A} (λ place x. x.1) (then_at (word_at word) (λ x. read))

abbrev pub before_at : {A : Type 0} → Reader A → List ℕ → Reader A
before_at {A} read word = as_at {A = A × Unit {0}} (λ place x. x.0) (then_at read (λ x. word_at word))

-- ---- too deep

abbrev pub sunk : {A B : Type 0} → Answer A → Answer B
sunk (Found a taken n) = Deep 0 n
sunk (Fails n) = Fails n
sunk (Deep at n) = Deep at n

-- Reading at a place where a node would be nested too deep: only what shows the node is read.
abbrev pub sunk_at : {A B : Type 0} → Reader A → Reader B
sunk_at opening place bs = sunk (opening place bs)
