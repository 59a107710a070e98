-- Reading several values: a given number, as many as fill a window, a list of parts some of which may be absent, or one of
-- several.
use Rattle.std.specs.Prelude.{◌≡◌, ℕ, zero, suc, ◌+◌, Bool, true, false, Option, Some, None, List, [], ◌∷◌, ◌++◌, length, drop, Ok, Err, nat_lt, if◌then◌else◌}
use Rattle.base_codecs.specs.declared.spots.Spot.{Spot}
use Rattle.base_codecs.specs.Reading.{◌>>=◌, Reader, Writer, then_write, stop_if, with_spot}
use Rattle.base_codecs.specs.Codec.{CodecBefore}

-- The values of all readers, one after the other.
unfoldable pub each_at : {E S A B : Type 0} → (A → Reader E S B) → List A → Reader E S (List B)
each_at read [] X s = Ok ([], s)
each_at read (a ∷ as') X s = do
  b ← read a X s
  bs ← each_at read as' X b.1
  Ok (b.0 ∷ bs.0, bs.1)

-- Values up to the end, at most this number.
unfoldable pub at_most_at : {E S A : Type 0} → (Spot → S) → ℕ → Reader E S A → Reader E S (List A)
at_most_at stop zero read X s = stop_if (nat_lt s.at (length X)) (stop s) (Ok ([], s))
at_most_at stop (suc n) read X s =
    if nat_lt s.at (length X) then (read X s >>= λ a. at_most_at stop n read X a.1 >>= λ as'. with_spot (a.0 ∷ as'.0) as'.1)
    else Ok ([], s)

-- Values up to the end. Each consumes something, so there are at most as many as the list has elements, and `stop` is never
-- reported.
abbrev pub items_at : {E S A : Type 0} → (Spot → S) → Reader E S A → Reader E S (List A)
items_at stop read X s = at_most_at stop (length X) read X s

-- EXPECTED HEADS. `starts` holds if the input here begins as a part does.
module _ {E S P A : Type 0} (starts : P → List E → Bool) (is_optional : P → Bool) (stop : List E → Spot → S) (kid : P → Reader E S A) where
  -- The parts that are present. The input here begins the next part or one after it, up to the first that isn't optional; after
  -- the last part nothing may follow.
  unfoldable pub parts_at : List P → Reader E S (List (Option A))
  parts_at [] X s = stop_if (nat_lt s.at (length X)) (stop X s) (Ok ([], s))
  parts_at (p ∷ ps) X s =
      if starts p (drop s.at X) then (kid p X s >>= λ a. parts_at ps X a.1 >>= λ as'. with_spot (Some a.0 ∷ as'.0) as'.1)
      else if is_optional p then (parts_at ps X s >>= λ as'. with_spot (None ∷ as'.0) as'.1)
      else Err (stop X s)

  -- The value of one of these, with its number.
  unfoldable pub alternative_at : List P → Reader E S (ℕ × A)
  alternative_at [] X s = Err (stop X s)
  alternative_at (p ∷ ps) X s =
      if starts p (drop s.at X) then (kid p X s >>= λ a. with_spot (0, a.0) a.1)
      else (alternative_at ps X s >>= λ a. with_spot (suc a.0.0, a.0.1) a.1)

-- THE WRITERS OF THEM
abbrev pub AllFit : {A : Type 0} → (A → Type 0) → List A → Type 0
AllFit V [] = Unit {0}
AllFit V (a ∷ as') = V a × AllFit V as'

abbrev pub all_weight : {A : Type 0} → (A → ℕ) → List A → ℕ
all_weight w [] = 0
all_weight w (a ∷ as') = w a + all_weight w as'

abbrev pub all_write : {E A : Type 0} → (A → Writer E) → List A → Writer E
all_write write [] p = []
all_write write (a ∷ as') p = then_write (write a p) (all_write write as') p

module _ {P A : Type 0} (is_optional : P → Bool) (V : P → A → Type 0) where
  abbrev pub PartsFit : List P → List (Option A) → Type 0
  PartsFit [] [] = Unit {0}
  PartsFit (p ∷ ps) (Some a ∷ as') = V p a × PartsFit ps as'
  PartsFit (p ∷ ps) (None ∷ as') = (is_optional p ≡ true) × PartsFit ps as'
  PartsFit _ _ = ⊥

abbrev pub parts_weight : {A : Type 0} → (A → ℕ) → List (Option A) → ℕ
parts_weight w [] = 0
parts_weight w (Some a ∷ as') = w a + parts_weight w as'
parts_weight w (None ∷ as') = parts_weight w as'

module _ {E P A : Type 0} (write : P → A → Writer E) where
  abbrev pub parts_write : List P → List (Option A) → Writer E
  parts_write (p ∷ ps) (Some a ∷ as') n = then_write (write p a n) (parts_write ps as') n
  parts_write (p ∷ ps) (None ∷ as') n = parts_write ps as' n
  parts_write _ _ n = []

  abbrev pub each_write : List P → List A → Writer E
  each_write (p ∷ ps) (a ∷ as') n = then_write (write p a n) (each_write ps as') n
  each_write _ _ n = []

  abbrev pub alternative_write : List P → ℕ → A → Writer E
  alternative_write [] i a n = []
  alternative_write (p ∷ ps) zero a n = write p a n
  alternative_write (p ∷ ps) (suc i) a n = alternative_write ps i a n

module _ {P A : Type 0} (V : P → A → Type 0) where
  -- one of each
  abbrev pub EachFit : List P → List A → Type 0
  EachFit [] [] = Unit {0}
  EachFit (p ∷ ps) (a ∷ as') = V p a × EachFit ps as'
  EachFit _ _ = ⊥

  abbrev pub AlternativeFits : List P → ℕ → A → Type 0
  AlternativeFits [] i a = ⊥
  AlternativeFits (p ∷ ps) zero a = V p a
  AlternativeFits (p ∷ ps) (suc i) a = AlternativeFits ps i a

-- CONDITIONS ON HEADS
module _ {E P A : Type 0} (starts : P → List E → Bool) (V : P → A → Type 0) (write : P → A → Writer E) where
  -- Everything written of a part begins as the part does, and an empty input doesn't.
  abbrev pub HasHead : P → Type 0
  HasHead p = (starts p [] ≡ false) × ((a : A) (n : ℕ) (rest : List E) → V p a → starts p (write p a n ++ rest) ≡ true)

  -- Nothing written of the others begins as this one does.
  abbrev pub IsApart : P → List P → Type 0
  IsApart p [] = Unit {0}
  IsApart p (q ∷ qs) = ((a : A) (n : ℕ) (rest : List E) → V q a → starts p (write q a n ++ rest) ≡ false) × IsApart p qs

  abbrev pub AreHeads : List P → Type 0
  AreHeads [] = Unit {0}
  AreHeads (p ∷ ps) = HasHead p × IsApart p ps × AreHeads ps

module _ {E S P A : Type 0} (Fine Rest : List E → Type 0) (V : P → A → Type 0) (w : A → ℕ) (write : P → A → Writer E) (kid : P → Reader E S A) where
  abbrev pub EachCodec : List P → Type 0
  EachCodec [] = Unit {0}
  EachCodec (p ∷ ps) = CodecBefore Fine Rest (V p) w (write p) (kid p) × EachCodec ps
