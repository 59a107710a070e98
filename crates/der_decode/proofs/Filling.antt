-- Whole numbers that fill what is left.
use Rattle.std.proofs.Common.{◌≡◌, ℕ, ◌+◌, ◌<◌, ◌≤◌, true, false, not, ℤ, List, [], ◌∷◌, length, drop, refl, sym, ap, ◌∙◌, arith, Ok, Err}
use Rattle.std.proofs.lemmas.List.{length-drop}
use Rattle.simple_types.specs.Lexical.{is_128_bits}
use Rattle.base_codecs.specs.declared.spots.Spot.{Spot}
use Rattle.base_codecs.specs.Reading.{◌>>=◌, stop_if, with_spot, left_at}
use Rattle.base_codecs.proofs.Codecs.{same_spot, stop_not}
use Rattle.der_fields.specs.declared.stops.Stop.{Stop}
use Rattle.der_fields.specs.declared.stops.Why.TheVariants.{NotShortest, Content, TooWide}
use Rattle.der_fields.specs.Octets.{signed_value, are_nine_equal}
use Rattle.der_fields.specs.FieldsReading.{stop_at}
use Rattle.der_fields.specs.Reading.{is_nothing, whole_of, whole_at}
use Rattle.der_decode.specs.Private.Leaves.{end_of}
use Rattle.der_decode.proofs.Windows.{stop_so}
use Rattle.der_decode.proofs.Signs.{too_wide}

pub left_is : (X : List ℕ) (s : Spot) → s.at ≤ length X → left_at {S = Stop} X s ≡ Ok (drop s.at X, end_of X s)
unfolding left_at
left_is X s inside =
    ap (λ r. Ok (drop s.at X, r)) (same_spot (s.at + length (drop s.at X)) (length X) (s.nodes + 0) s.nodes (omega (arith, length-drop s.at X, inside)) (omega arith))

module _ (X : List ℕ) (s : Spot) (inside : s.at ≤ length X) where
  module _ (xs : List ℕ) (is : xs ≡ drop s.at X) where
    whole_from : whole_at X s ≡ whole_of s (xs, end_of X s)
    unfolding whole_at
    whole_from = ap (λ r. r >>= whole_of s) (left_is X s inside) ∙ ap (λ ys. whole_of s (ys, end_of X s)) (sym is)

    pub whole_nothing : length xs ≡ 0 → whole_at X s ≡ Err (stop_at s.at Content)
    whole_nothing e = whole_from ∙ by xs e
      where
        by : (ys : List ℕ) → length ys ≡ 0 → whole_of s (ys, end_of X s) ≡ Err (stop_at s.at Content)
        by [] h = refl
        by (y ∷ ys) h = absurd (omega (arith, h))

    module _ (some : 0 < length xs) where
      has_some : is_nothing xs ≡ false
      has_some = by xs some
        where
          by : (ys : List ℕ) → 0 < length ys → is_nothing ys ≡ false
          by [] h = absurd (omega (arith, h))
          by (y ∷ ys) h = refl

      checked : whole_at X s
          ≡ stop_if (are_nine_equal xs) (stop_at s.at NotShortest) (stop_if (not (is_128_bits (signed_value xs))) (stop_at s.at TooWide) (with_spot (signed_value xs) (end_of X s)))
      checked = whole_from ∙ stop_not (is_nothing xs) (stop_at s.at Content) _ has_some

      pub whole_long : are_nine_equal xs ≡ true → whole_at X s ≡ Err (stop_at s.at NotShortest)
      whole_long e = checked ∙ stop_so (are_nine_equal xs) (stop_at s.at NotShortest) _ e

      shortest : are_nine_equal xs ≡ false → whole_at X s ≡ stop_if (not (is_128_bits (signed_value xs))) (stop_at s.at TooWide) (with_spot (signed_value xs) (end_of X s))
      shortest e = checked ∙ stop_not (are_nine_equal xs) (stop_at s.at NotShortest) _ e

      pub whole_wide : are_nine_equal xs ≡ false → 16 < length xs → whole_at X s ≡ Err (stop_at s.at TooWide)
      whole_wide e long = shortest e ∙ stop_so (not (is_128_bits (signed_value xs))) (stop_at s.at TooWide) _ (ap not (by xs e long))
        where
          by : (ys : List ℕ) → are_nine_equal ys ≡ false → 16 < length ys → is_128_bits (signed_value ys) ≡ false
          by [] e h = absurd (omega (arith, h))
          by (y ∷ ys) e h = too_wide y ys (omega (arith, h)) e

      pub whole_is : are_nine_equal xs ≡ false → (z : ℤ) → z ≡ signed_value xs → is_128_bits z ≡ true → whole_at X s ≡ Ok (z, end_of X s)
      whole_is e z same fits =
          shortest e ∙ stop_not (not (is_128_bits (signed_value xs))) (stop_at s.at TooWide) _ (ap not (ap is_128_bits (sym same) ∙ fits)) ∙ ap (λ y. Ok (y, end_of X s)) (sym same)
