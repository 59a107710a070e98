-- Lengths and the contents behind them, where their octets are told apart.
use Rattle.std.proofs.Common.{◌≡◌, ℕ, suc, ◌+◌, ◌-◌, ◌*◌, ◌^◌, ◌<◌, ◌≤◌, Bool, true, false, eqb, ltb, ◌||◌, inl, inr, List, [], ◌∷◌, length, take, drop, get_or, refl, sym, ap, ◌∙◌, subst, arith, Result, Ok, Err, IfOk, IfErr}
use Rattle.std.proofs.lemmas.Bool.{cases_lt, lt-ltb, le-ltb, eq-eqb}
use Rattle.std.proofs.lemmas.List.{drop-take, length-take-le, length-drop}
use Rattle.std.proofs.Math.Seq.{drop-cons}
use Rattle.base_codecs.specs.declared.spots.Spot.{Spot}
use Rattle.base_codecs.specs.Reading.{◌>>=◌, moved, stop_if, with_spot, window_at, left_at}
use Rattle.base_codecs.proofs.Codecs.{spot, same_spot, stop_not}
use Rattle.base_codecs.proofs.Sequences.{cond_true, cond_false}
use Rattle.der_fields.specs.declared.stops.Stop.{Stop}
use Rattle.der_fields.specs.declared.stops.Why.TheVariants.{Short, NotShortest}
use Rattle.der_fields.specs.Octets.{value_from, is_not_shortest}
use Rattle.der_fields.specs.FieldsReading.{stop_at, raw_at, number_of, length_from, length_at, sized_at}
use Rattle.der_decode.specs.Private.Windows.{IsWindow, HasNoWindow}
use Rattle.der_decode.specs.declared.fields.Window.{Window}

-- a test that found a fault
pub stop_so : {A : Type 0} (b : Bool) (d : Stop) (x : Result A Stop) → b ≡ true → stop_if b d x ≡ Err d
stop_so b d x e = ap (λ c. stop_if c d x) e

-- the next n octets
raw_is : (X : List ℕ) (s : Spot) (begin n : ℕ) → s.at + n ≤ length X → raw_at begin n X s ≡ Ok (take n (drop s.at X), spot (s.at + n) s.nodes)
unfolding raw_at window_at left_at
raw_is X s begin n le =
    let found = take n (drop s.at X) in
    let cut : drop s.at (take (s.at + n) X) ≡ found = drop-take s.at n X in
    let long : length found ≡ n = length-take-le n (drop s.at X) (omega (arith, length-drop s.at X, le)) in
    stop_not {S = Stop} (ltb (length X) (s.at + n)) (stop_at begin Short) (Ok (drop s.at (take (s.at + n) X), moved s (length (drop s.at (take (s.at + n) X))) 0)) (le-ltb (length X) (s.at + n) le)
    ∙ ap (λ xs. Ok (xs, moved s (length xs) 0)) cut
    ∙ ap (λ r. Ok (found, r)) (same_spot (s.at + length found) (s.at + n) (s.nodes + 0) s.nodes (ap (λ m. s.at + m) long) (omega arith))

raw_stops : (X : List ℕ) (s : Spot) (begin n : ℕ) → length X < s.at + n → raw_at begin n X s ≡ Err (stop_at begin Short)
unfolding raw_at window_at
raw_stops X s begin n lt = stop_so (ltb (length X) (s.at + n)) (stop_at begin Short) _ (lt-ltb (length X) (s.at + n) lt)

-- the first octet of a length
first_is : (X : List ℕ) (s : Spot) → s.at < length X → length_at X s ≡ length_from s.at (get_or X s.at 0) X (spot (s.at + 1) s.nodes)
unfolding length_at
first_is X s lt =
    ap (λ r. r >>= λ x. length_from s.at (number_of x.0) X x.1) (raw_is X s s.at 1 (omega (arith, lt)))
    ∙ ap (λ xs. length_from s.at (number_of (take 1 xs)) X (spot (s.at + 1) s.nodes)) (drop-cons X s.at 0 lt)

short_is : (X : List ℕ) (s r : Spot) (x : ℕ) → x < 128 → length_from s.at x X r ≡ Ok (x, r)
unfolding length_from
short_is X s r x lt = cond_true (ltb x 128) (Ok (x, r)) (raw_at s.at (x - 128) X r >>= λ a. stop_if (is_not_shortest a.0) (stop_at s.at NotShortest) (with_spot (number_of a.0) a.1)) (lt-ltb x 128 lt)

abbrev checked : ℕ → List ℕ × Spot → Result (ℕ × Spot) Stop
checked begin a = stop_if (is_not_shortest a.0) (stop_at begin NotShortest) (with_spot (number_of a.0) a.1)

long_is : (X : List ℕ) (s r : Spot) (count : ℕ) → length_from s.at (128 + count) X r ≡ (raw_at s.at count X r >>= checked s.at)
unfolding length_from
long_is X s r count =
    cond_false (ltb (128 + count) 128) (Ok (128 + count, r)) (raw_at s.at (128 + count - 128) X r >>= checked s.at) (le-ltb (128 + count) 128 (omega arith))
    ∙ ap (λ n. raw_at s.at n X r >>= checked s.at) (omega arith)

-- CONTENTS behind a length that is read
behind : (X : List ℕ) (s : Spot) (at n : ℕ) → length_at X s ≡ Ok (n, spot at s.nodes) → at + n ≤ length X → IsWindow X s at (at + n)
unfolding sized_at window_at
behind X s at n e le contents =
    ap (λ r. r >>= λ m. window_at (stop_at s.at Short) m.0 contents X m.1) e
    ∙ stop_not (ltb (length X) (at + n)) (stop_at s.at Short) (contents (take (at + n) X) (spot at s.nodes)) (le-ltb (length X) (at + n) le)

too_few : (X : List ℕ) (s : Spot) (at n : ℕ) → length_at X s ≡ Ok (n, spot at s.nodes) → length X < at + n → HasNoWindow X s (stop_at s.at Short)
unfolding sized_at window_at
too_few X s at n e lt contents =
    ap (λ r. r >>= λ m. window_at (stop_at s.at Short) m.0 contents X m.1) e
    ∙ stop_so (ltb (length X) (at + n)) (stop_at s.at Short) (contents (take (at + n) X) (spot at s.nodes)) (lt-ltb (length X) (at + n) lt)

no_length : (X : List ℕ) (s : Spot) (stop : Stop) → length_at X s ≡ Err stop → HasNoWindow X s stop
unfolding sized_at
no_length X s stop e contents = ap (λ r. r >>= λ m. window_at (stop_at s.at Short) m.0 contents X m.1) e

-- THE CASES
pub at_end : (X : List ℕ) (s : Spot) → length X ≤ s.at → HasNoWindow X s (stop_at s.at Short)
unfolding length_at
at_end X s le = no_length X s (stop_at s.at Short) (ap (λ r. r >>= λ x. length_from s.at (number_of x.0) X x.1) (raw_stops X s s.at 1 (omega (arith, le))))

short : (X : List ℕ) (s : Spot) (x : ℕ) → s.at < length X → get_or X s.at 0 ≡ x → x < 128 → length_at X s ≡ Ok (x, spot (s.at + 1) s.nodes)
short X s x inside is lt = first_is X s inside ∙ ap (λ y. length_from s.at y X (spot (s.at + 1) s.nodes)) is ∙ short_is X s (spot (s.at + 1) s.nodes) x lt

pub short_window : (X : List ℕ) (s : Spot) (x : ℕ) → s.at < length X → get_or X s.at 0 ≡ x → x < 128 → s.at + 1 + x ≤ length X → IsWindow X s (s.at + 1) (s.at + 1 + x)
short_window X s x inside is lt le = behind X s (s.at + 1) x (short X s x inside is lt) le

pub short_stops : (X : List ℕ) (s : Spot) (x : ℕ) → s.at < length X → get_or X s.at 0 ≡ x → x < 128 → length X < s.at + 1 + x → HasNoWindow X s (stop_at s.at Short)
short_stops X s x inside is lt few = too_few X s (s.at + 1) x (short X s x inside is lt) few

module _ (X : List ℕ) (s : Spot) (count : ℕ) (inside : s.at < length X) (is : get_or X s.at 0 ≡ 128 + count) where
  long : length_at X s ≡ (raw_at s.at count X (spot (s.at + 1) s.nodes) >>= checked s.at)
  long = first_is X s inside ∙ ap (λ y. length_from s.at y X (spot (s.at + 1) s.nodes)) is ∙ long_is X s (spot (s.at + 1) s.nodes) count

  pub long_short : length X < s.at + 1 + count → HasNoWindow X s (stop_at s.at Short)
  long_short lt = no_length X s (stop_at s.at Short) (long ∙ ap (λ r. r >>= checked s.at) (raw_stops X (spot (s.at + 1) s.nodes) s.at count lt))

  long_checked : s.at + 1 + count ≤ length X → length_at X s ≡ checked s.at (take count (drop (s.at + 1) X), spot (s.at + 1 + count) s.nodes)
  long_checked le = long ∙ ap (λ r. r >>= checked s.at) (raw_is X (spot (s.at + 1) s.nodes) s.at count le)

  module _ (xs : List ℕ) (there : s.at + 1 + count ≤ length X) (are : take count (drop (s.at + 1) X) ≡ xs) where
    pub long_not_shortest : is_not_shortest xs ≡ true → HasNoWindow X s (stop_at s.at NotShortest)
    long_not_shortest e =
        no_length X s (stop_at s.at NotShortest)
        (long_checked there ∙ ap (λ ys. checked s.at (ys, spot (s.at + 1 + count) s.nodes)) are ∙ stop_so (is_not_shortest xs) (stop_at s.at NotShortest) (with_spot (number_of xs) (spot (s.at + 1 + count) s.nodes)) e)

    shortest : is_not_shortest xs ≡ false → length_at X s ≡ Ok (number_of xs, spot (s.at + 1 + count) s.nodes)
    shortest e =
        long_checked there ∙ ap (λ ys. checked s.at (ys, spot (s.at + 1 + count) s.nodes)) are
        ∙ stop_not (is_not_shortest xs) (stop_at s.at NotShortest) (with_spot (number_of xs) (spot (s.at + 1 + count) s.nodes)) e

    pub long_window : is_not_shortest xs ≡ false → (n : ℕ) → n ≡ number_of xs → s.at + 1 + count + n ≤ length X → IsWindow X s (s.at + 1 + count) (s.at + 1 + count + n)
    long_window e n same le = behind X s (s.at + 1 + count) n (shortest e ∙ ap (λ m. Ok (m, spot (s.at + 1 + count) s.nodes)) (sym same)) le

    pub long_stops : is_not_shortest xs ≡ false → length X < s.at + 1 + count + number_of xs → HasNoWindow X s (stop_at s.at Short)
    long_stops e lt = too_few X s (s.at + 1 + count) (number_of xs) (shortest e) lt

-- NUMBERS of octets, gone on with
pub number_is : (xs : List ℕ) → number_of xs ≡ value_from 0 xs
number_is [] = refl
number_is (x ∷ xs) = ap (λ n. value_from n xs) (omega arith)

pub no_less : (xs : List ℕ) (n : ℕ) → n ≤ value_from n xs
no_less [] n = omega arith
no_less (x ∷ xs) n = omega (arith, no_less xs (256 * n + x))

or_same : (a b : Bool) → b ≡ false → a ≡ (a || b)
or_same true b e = refl
or_same false b e = sym e

or_true : (a b : Bool) → a ≡ true → a ≡ (a || b)
or_true true b e = refl
or_true false b e = absurd cc

-- two octets or more whose first is not 0 are those of 256 at least
pub first_tells : (xs : List ℕ) → 2 ≤ length xs → eqb (get_or xs 0 0) 0 ≡ is_not_shortest xs
first_tells [] le = absurd (omega (arith, le))
first_tells (x ∷ []) le = absurd (omega (arith, le))
first_tells (x ∷ y ∷ ys) le = elim (cases_lt 0 x) [
  | inl lt ↦ or_same (eqb x 0) (ltb (value_from (256 * x + y) ys) 128) (le-ltb (value_from (256 * x + y) ys) 128 (omega (arith, lt, no_less ys (256 * x + y))))
  | inr ge ↦ or_true (eqb x 0) (ltb (value_from (256 * x + y) ys) 128) (eq-eqb x 0 (omega (arith, ge)))
]

pub one_more : (xs : List ℕ) (n i : ℕ) → i < length xs → value_from n (drop i xs) ≡ value_from (256 * n + get_or xs i 0) (drop (i + 1) xs)
one_more xs n i lt =
    let e : suc i ≡ i + 1 = omega arith in
    ap (value_from n) (drop-cons xs i 0 lt) ∙ ap (λ j. value_from (256 * n + get_or xs i 0) (drop j xs)) e

pub too_large : (xs : List ℕ) (n i : ℕ) → i < length xs → 2 ^ 56 ≤ n → value_from n (drop i xs) ≡ value_from 0 xs → 2 ^ 64 ≤ number_of xs
too_large xs n i lt ge e = omega (arith, ge, e, number_is xs, one_more xs n i lt, no_less (drop (i + 1) xs) (256 * n + get_or xs i 0))

-- WHAT WAS FOUND, or a stop
pub found_window : (X : List ℕ) (s : Spot) (at n : ℕ) → (at + n ≤ length X → IsWindow X s at (at + n)) → (r : Result Window Stop)
    → IfOk r (λ w. (w.at ≡ at) × (w.end ≡ at + n) × (at + n ≤ length X)) → IfOk r (λ w. IsWindow X s w.at w.end)
found_window X s at n h (Ok w) k = subst (λ m. IsWindow X s m w.end) (sym k.0) (subst (λ m. IsWindow X s at m) (sym k.1) (h k.2))
found_window X s at n h (Err e) k = tt

pub found_stop : (X : List ℕ) (s : Spot) (n : ℕ) (stop : Stop) → (length X < n → HasNoWindow X s stop) → (r : Result Window Stop)
    → IfErr r (λ e. (e ≡ stop) × (length X < n)) → IfErr r (λ e. HasNoWindow X s e)
found_stop X s n stop h (Ok w) k = tt
found_stop X s n stop h (Err e) k = subst (λ d. HasNoWindow X s d) (sym k.0) (h k.1)
