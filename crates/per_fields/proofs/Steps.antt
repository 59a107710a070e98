-- A step of reading that stops: in what is read first, or behind it.
use Rattle.std.proofs.Common.{◌≡◌, ℕ, ◌+◌, ◌<◌, ◌^◌, Bool, ltb, List, length, refl, drop, take, Result, Ok, Err, inl, inr, ◌⊎◌}
use Rattle.std.proofs.lemmas.Bool.{lt-ltb, ltb-true}
use Rattle.base_codecs.specs.Bits.{bits, number}
use Rattle.base_codecs.specs.declared.spots.Spot.{Spot}
use Rattle.base_codecs.specs.Reading.{with_spot}
use Rattle.base_codecs.proofs.Steps as shared
use Rattle.base_codecs.proofs.Steps.{Iff, Told, Inside, stop_err, err_stop, none_stops}
use Rattle.per_fields.specs.declared.stops.Stop.{Stop}
use Rattle.per_fields.specs.declared.stops.Why.TheVariants.{Short}
use Rattle.per_fields.specs.Reading.{◌>>=◌, Reader, stop_at, moved, stop_if, bits_at}
use Rattle.per_fields.specs.Fields.{Writer}
use Rattle.per_fields.specs.Codec.{Came, Anything, Codec}
use Rattle.per_fields.proofs.Codecs.{again-bits, takes-bits}
use Rattle.per_fields.specs.Faults.{AreBits, EndsWithin}

pub bits_codec : (begin n : ℕ) → Codec (λ x. x < 2 ^ n) (λ x. 0) (λ x p. bits n x) (λ X s. bits_at begin n X s)
bits_codec begin n = record {
  again = λ X rest s x any lt few h. again-bits begin n x X rest s h lt;
  takes = λ X s x any inside e. let k = takes-bits begin n X s x e in (k.0, k.1, tt);
}

-- WHAT IS READ, by its bits
module _ (X : List Bool) where
  pub after : (s r : Spot) (found : List Bool) (n : ℕ) → Inside X s → Came X s r found n → Inside X r
  after s r found n inside c = shared.after Anything Anything X tt s r found n inside c

  module _ {A : Type 0} (V : A → Type 0) (w : A → ℕ) (write : A → Writer) (read : Reader A) (codec : Codec V w write read) where
    pub came : (s : Spot) (a : A) (r : Spot) → Inside X s → read X s ≡ Ok (a, r) → V a × Came X s r (write a s.at) (w a)
    came s a r inside e = let k = shared.came Anything Anything X tt V w write read codec s a r inside e in (k.0, k.1)

    pub goes : (s : Spot) (a : A) (r : Spot) → Inside X s → V a → Came X s r (write a s.at) (w a) → read X s ≡ Ok (a, r)
    goes s a r inside v c = shared.goes Anything Anything X tt V w write read codec s a r inside tt v c

    -- what is read first stops, or what is read behind it
    pub then_both : {B : Type 0} (f : A × Spot → Result B Stop) (First First' : Type 0) (Rest Rest' : A → Spot → Type 0) (s : Spot) (stop : Stop) → Inside X s → Told (read X s ≡ Err stop) First First'
        → ((a : A) (r : Spot) → V a → Inside X r → Told (f (a, r) ≡ Err stop) (Rest a r) (Rest' a r))
        → Told ((read X s >>= f) ≡ Err stop) (First ⊎ ((a : A) × (r : Spot) × V a × Came X s r (write a s.at) (w a) × Rest a r)) (First' ⊎ ((a : A) × (r : Spot) × V a × Came X s r (write a s.at) (w a) × Rest' a r))
    then_both f First First' Rest Rest' s stop inside first rest =
        let told = shared.then_told Anything Anything X tt V w write read codec f First First' Rest Rest' s stop inside first rest in
        (λ e. forth (told.0 e), λ h. told.1 (back h))
      where
        forth : First ⊎ ((a : A) × (r : Spot) × V a × Came X s r (write a s.at) (w a) × Unit {0} × Rest a r) → First ⊎ ((a : A) × (r : Spot) × V a × Came X s r (write a s.at) (w a) × Rest a r)
        forth (inl h) = inl h
        forth (inr k) = inr (k.0, k.1, k.2, k.3, k.5)

        back : First' ⊎ ((a : A) × (r : Spot) × V a × Came X s r (write a s.at) (w a) × Rest' a r) → First' ⊎ ((a : A) × (r : Spot) × V a × Came X s r (write a s.at) (w a) × Unit {0} × Rest' a r)
        back (inl h) = inl h
        back (inr k) = inr (k.0, k.1, k.2, k.3, tt, k.4)

    pub then_told : {B : Type 0} (f : A × Spot → Result B Stop) (First : Type 0) (Rest : A → Spot → Type 0) (s : Spot) (stop : Stop) → Inside X s → Iff (read X s ≡ Err stop) First
        → ((a : A) (r : Spot) → V a → Inside X r → Iff (f (a, r) ≡ Err stop) (Rest a r))
        → Iff ((read X s >>= f) ≡ Err stop) (First ⊎ ((a : A) × (r : Spot) × V a × Came X s r (write a s.at) (w a) × Rest a r))
    then_told f First Rest s stop inside first rest = then_both f First First Rest Rest s stop inside first rest

  -- BITS
  pub bits_end : (begin n : ℕ) (s : Spot) (stop : Stop) → Iff (bits_at begin n X s ≡ Err stop) (EndsWithin X n s begin stop)
  unfolding bits_at
  bits_end begin n s stop = (forth, back)
    where
      forth : stop_if (ltb (length X) (s.at + n)) (stop_at begin Short (length X)) (with_spot (number (take n (drop s.at X))) (moved s n 0)) ≡ Err stop → EndsWithin X n s begin stop
      forth e = elim (stop_err (ltb (length X) (s.at + n)) (stop_at begin Short (length X)) (with_spot (number (take n (drop s.at X))) (moved s n 0)) stop e) [
        | inl h ↦ (ltb-true (length X) (s.at + n) h.0, h.1)
        | inr h ↦ none_stops (number (take n (drop s.at X))) (moved s n 0) stop h.1
      ]

      back : EndsWithin X n s begin stop → stop_if (ltb (length X) (s.at + n)) (stop_at begin Short (length X)) (with_spot (number (take n (drop s.at X))) (moved s n 0)) ≡ Err stop
      back h =
          err_stop (ltb (length X) (s.at + n)) (stop_at begin Short (length X)) stop (with_spot (number (take n (drop s.at X))) (moved s n 0)) (lt-ltb (length X) (s.at + n) h.0) h.1

  -- bits, and a number in them with which reading stops behind them
  pub bits_then : {B : Type 0} (begin n : ℕ) (f : ℕ × Spot → Result B Stop) (Rest : ℕ → Spot → Type 0) (s : Spot) (stop : Stop) → Inside X s
      → ((x : ℕ) (r : Spot) → Inside X r → Iff (f (x, r) ≡ Err stop) (Rest x r))
      → Iff ((bits_at begin n X s >>= f) ≡ Err stop) (EndsWithin X n s begin stop ⊎ ((x : ℕ) × (r : Spot) × AreBits X n s x r × Rest x r))
  bits_then begin n f Rest s stop inside rest = (λ e. repack (told.0 e), λ h. told.1 (unpack h))
    where
      told : Iff ((bits_at begin n X s >>= f) ≡ Err stop) (EndsWithin X n s begin stop ⊎ ((x : ℕ) × (r : Spot) × (x < 2 ^ n) × Came X s r (bits n x) 0 × Rest x r))
      told = then_told (λ x. x < 2 ^ n) (λ x. 0) (λ x p. bits n x) (λ X s. bits_at begin n X s) (bits_codec begin n) f (EndsWithin X n s begin stop) Rest s stop inside (bits_end begin n s stop) (λ x r lt in_. rest x r in_)

      repack : EndsWithin X n s begin stop ⊎ ((x : ℕ) × (r : Spot) × (x < 2 ^ n) × Came X s r (bits n x) 0 × Rest x r) → EndsWithin X n s begin stop ⊎ ((x : ℕ) × (r : Spot) × AreBits X n s x r × Rest x r)
      repack (inl h) = inl h
      repack (inr k) = inr (k.0, k.1, (k.2, k.3), k.4)

      unpack : EndsWithin X n s begin stop ⊎ ((x : ℕ) × (r : Spot) × AreBits X n s x r × Rest x r) → EndsWithin X n s begin stop ⊎ ((x : ℕ) × (r : Spot) × (x < 2 ^ n) × Came X s r (bits n x) 0 × Rest x r)
      unpack (inl h) = inl h
      unpack (inr k) = inr (k.0, k.1, k.2.0, k.2.1, k.3)
