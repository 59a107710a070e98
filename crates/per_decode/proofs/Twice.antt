-- Bits that are taken at twice.
use Rattle.std.proofs.Common.{◌≡◌, ℕ, ◌+◌, ◌-◌, ◌*◌, ◌<◌, ◌≤◌, ◌^◌, Bool, List, ◌++◌, length, refl, sym, ap, ◌∙◌, subst, arith, append_assoc, drop, Result, Ok, Err, inl, inr}
use Rattle.std.proofs.lemmas.Bool.{cases_lt, le-ltb, lt-ltb}
use Rattle.std.proofs.lemmas.Nat.{mul-add-lt, pow-add}
use Rattle.std.proofs.Math.Nat.{mul_comm}
use Rattle.base_codecs.specs.Bits.{bits}
use Rattle.base_codecs.proofs.BitLemmas.{bits-split, length-bits}
use Rattle.base_codecs.specs.declared.spots.Spot.{Spot}
use Rattle.per_fields.specs.declared.stops.Stop.{Stop}
use Rattle.per_fields.specs.declared.stops.Why.TheVariants.{Short}
use Rattle.per_fields.specs.Reading.{◌>>=◌, bits_at, stop_at}
use Rattle.per_fields.proofs.Codecs.{takes-bits}
use Rattle.per_decode.specs.Private.Giving.{Halt, FailsAt}
use Rattle.per_decode.proofs.Standing.{reads_bits, reads_short, same_spot}
use Rattle.per_decode.proofs.Ends.{sits-bits, sits_then, fails_first}

-- both numbers as one
pub both_below : (m n x y : ℕ) → x < 2 ^ m → y < 2 ^ n → x * 2 ^ n + y < 2 ^ (m + n)
both_below m n x y h k = omega (arith, mul-add-lt x (2 ^ n) y (2 ^ m) h k, pow-add 2 m n, mul_comm (2 ^ n) (2 ^ m))

both_read : (b m n : ℕ) (X : List Bool) (s : Spot) (x y : ℕ × Spot) → s.at ≤ length X → bits_at b m X s ≡ Ok x → bits_at b n X x.1 ≡ Ok y → bits_at b (m + n) X s ≡ Ok (x.0 * 2 ^ n + y.0, y.1)
both_read b m n X s x y inside e f =
    let k = takes-bits b m X s x e in
    let l = takes-bits b n X x.1 y f in
    let here : drop s.at X ≡ bits (m + n) (x.0 * 2 ^ n + y.0) ++ drop y.1.at X =
    k.0.taken.parts ∙ ap (λ bs. bits m x.0 ++ bs) l.0.taken.parts ∙ sym (append_assoc (bits m x.0) (bits n y.0) (drop y.1.at X)) ∙ ap (λ bs. bs ++ drop y.1.at X) (sym (bits-split m n x.0 y.0 l.1)) in
    let far : s.at + (m + n) ≡ y.1.at = omega (arith, k.0.taken.end, l.0.taken.end, length-bits m x.0, length-bits n y.0) in
    reads_bits b (m + n) (x.0 * 2 ^ n + y.0) X (drop y.1.at X) s inside here (both_below m n x.0 y.0 k.1 l.1)
    ∙ ap (λ r. Ok (x.0 * 2 ^ n + y.0, r)) (same_spot (s.at + (m + n)) y.1.at (s.nodes + 0) y.1.nodes far (omega (arith, k.0.nodes, l.0.nodes)))

bits_end : (b n : ℕ) (X : List Bool) (s : Spot) (u : Stop) → bits_at b n X s ≡ Err u → (length X < s.at + n) × (u ≡ stop_at b Short (length X))
unfolding bits_at
bits_end b n X s u e =
    elim (cases_lt (length X) (s.at + n)) [
      | inl lt ↦ (let k = rw (lt-ltb (length X) (s.at + n) lt) at e in (lt, cc k))
      | inr le ↦ (let k = rw (le-ltb (length X) (s.at + n) le) at e in absurd (cc k))
    ]

-- so many bits, or the first of them and those behind them
at_twice : (b m n : ℕ) (X : List Bool) (s : Spot) → s.at ≤ length X → bits_at b (m + n) X s ≡ (bits_at b m X s >>= λ x. bits_at b n X x.1 >>= λ y. Ok (x.0 * 2 ^ n + y.0, y.1))
at_twice b m n X s inside = by (bits_at b m X s) refl
  where
    more : (x : ℕ × Spot) → bits_at b m X s ≡ Ok x → (r : Result (ℕ × Spot) Stop) → bits_at b n X x.1 ≡ r → bits_at b (m + n) X s ≡ (r >>= λ y. Ok (x.0 * 2 ^ n + y.0, y.1))
    more x e (Ok y) f = both_read b m n X s x y inside e f
    more x e (Err u) f =
        let k = takes-bits b m X s x e in
        let g = bits_end b n X x.1 u f in
        reads_short b (m + n) X s (length X) refl (omega (arith, g.0, k.0.taken.end, length-bits m x.0)) ∙ ap (λ t. Err t) (sym g.1)

    by : (r : Result (ℕ × Spot) Stop) → bits_at b m X s ≡ r → bits_at b (m + n) X s ≡ (r >>= λ x. bits_at b n X x.1 >>= λ y. Ok (x.0 * 2 ^ n + y.0, y.1))
    by (Ok x) e = more x e (bits_at b n X x.1) refl
    by (Err u) e =
        let g = bits_end b m X s u e in
        reads_short b (m + n) X s (length X) refl (omega (arith, g.0)) ∙ ap (λ t. Err t) (sym g.1)

module _ (b n : ℕ) (many : 64 < n) (X : List Bool) (s : Spot) (inside : s.at ≤ length X) where
  split_at : bits_at b n X s ≡ (bits_at b (n - 64) X s >>= λ x. bits_at b 64 X x.1 >>= λ y. Ok (x.0 * 2 ^ 64 + y.0, y.1))
  split_at = let e : n - 64 + 64 ≡ n = omega arith in subst (λ w. bits_at b w X s ≡ (bits_at b (n - 64) X s >>= λ x. bits_at b 64 X x.1 >>= λ y. Ok (x.0 * 2 ^ 64 + y.0, y.1))) e (at_twice b (n - 64) 64 X s inside)

  pub high_fails : (limit : ℕ) (whole : List ℕ) (e : Halt) (taken : ℕ) → FailsAt limit whole e taken (bits_at b (n - 64) X s) → FailsAt limit whole e taken (bits_at b n X s)
  high_fails limit whole e taken h =
      subst (FailsAt limit whole e taken) (sym split_at)
      (fails_first limit whole e taken X (bits_at b (n - 64) X s) (λ x. bits_at b 64 X x.1 >>= λ y. Ok (x.0 * 2 ^ 64 + y.0, y.1)) (sits-bits b (n - 64) X s inside).inside
      (λ x i. sits_then X x.1.at (bits_at b 64 X x.1) (λ y. Ok (x.0 * 2 ^ 64 + y.0, y.1)) (sits-bits b 64 X x.1 i) (λ y j. record { later = omega arith; inside = j })) h)

  module _ (x : ℕ) (r : Spot) (first : bits_at b (n - 64) X s ≡ Ok (x, r)) (within : r.at ≤ length X) where
    behind_is : bits_at b n X s ≡ (bits_at b 64 X r >>= λ y. Ok (x * 2 ^ 64 + y.0, y.1))
    behind_is = split_at ∙ ap (λ o. o >>= λ x. bits_at b 64 X x.1 >>= λ y. Ok (x.0 * 2 ^ 64 + y.0, y.1)) first

    pub low_fails : (limit : ℕ) (whole : List ℕ) (e : Halt) (taken : ℕ) → FailsAt limit whole e taken (bits_at b 64 X r) → FailsAt limit whole e taken (bits_at b n X s)
    low_fails limit whole e taken h =
        subst (FailsAt limit whole e taken) (sym behind_is)
        (fails_first limit whole e taken X (bits_at b 64 X r) (λ y. Ok (x * 2 ^ 64 + y.0, y.1)) (sits-bits b 64 X r within).inside (λ y j. record { later = omega arith; inside = j }) h)

    pub both_told : (y : ℕ) (q : Spot) → bits_at b 64 X r ≡ Ok (y, q) → bits_at b n X s ≡ Ok (x * 2 ^ 64 + y, q)
    both_told y q f = behind_is ∙ ap (λ o. o >>= λ y. Ok (x * 2 ^ 64 + y.0, y.1)) f
