-- The stop of reading several values, defined by the values read before it.
use Rattle.std.specs.Prelude.{◌≡◌, ℕ, ◌<◌, ◌⊎◌, Bool, true, false, List, [], ◌∷◌, length, drop}
use Rattle.base_codecs.specs.declared.spots.Spot.{Spot}
use Rattle.base_codecs.specs.Reading.{Writer}
use Rattle.base_codecs.specs.Codec.{Came}

-- ITEMS up to the end: some are read, and after them one stops, which isn't at the end.
module _ {E S A : Type 0} (V : A → Type 0) (w : A → ℕ) (write : A → Writer E) (X : List E) (KidStops : Spot → S → Type 0) where
  abbrev pub ItemsStop : List A → Spot → S → Type 0
  ItemsStop [] s stop = (s.at < length X) × KidStops s stop
  ItemsStop (a ∷ as') s stop = (r : Spot) × V a × Came X s r (write a s.at) (w a) × ItemsStop as' r stop

-- EXPECTED HEADS
module _ {E S P A : Type 0} (starts : P → List E → Bool) (is_optional : P → Bool) (unexpected : List E → Spot → S) (V : P → A → Type 0) (w : A → ℕ) (write : P → A → Writer E) (X : List E)
    (KidStops : P → Spot → S → Type 0) where
  -- A part that is present stops, and those before it are read. Or the input here begins none of the expected parts: the next
  -- part and those after it up to the first that isn't optional. After the last part nothing is expected.
  abbrev pub PartsStop : List P → Spot → S → Type 0
  PartsStop [] s stop = (s.at < length X) × (stop ≡ unexpected X s)
  PartsStop (p ∷ ps) s stop =
      ((starts p (drop s.at X) ≡ true) × (KidStops p s stop ⊎ ((a : A) × (r : Spot) × V p a × Came X s r (write p a s.at) (w a) × PartsStop ps r stop)))
      ⊎ ((starts p (drop s.at X) ≡ false) × (((is_optional p ≡ true) × PartsStop ps s stop) ⊎ ((is_optional p ≡ false) × (stop ≡ unexpected X s))))

  -- An alternative stops, or the input here begins none of them.
  abbrev pub AlternativeStops : List P → Spot → S → Type 0
  AlternativeStops [] s stop = stop ≡ unexpected X s
  AlternativeStops (p ∷ ps) s stop =
      ((starts p (drop s.at X) ≡ true) × KidStops p s stop) ⊎ ((starts p (drop s.at X) ≡ false) × AlternativeStops ps s stop)
