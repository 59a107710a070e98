-- Numbers in octets, each bit turned over or not, and how large they are.
use Rattle.std.proofs.Common.{◌≡◌, ℕ, suc, ◌+◌, ◌-◌, ◌*◌, ◌^◌, ◌<◌, ◌≤◌, Bool, true, false, ltb, ◌||◌, pos, negsuc, List, [], ◌∷◌, length, drop, get_or, refl, ap, ◌∙◌, arith, inl, inr}
use Rattle.std.proofs.lemmas.Bool.{cases_lt, lt-ltb, le-ltb, ltb-false}
use Rattle.std.proofs.lemmas.List.{length-map}
use Rattle.std.proofs.lemmas.Nat.{pow-add}
use Rattle.std.proofs.Math.Pow.{pow_mono}
use Rattle.std.proofs.Math.Seq.{drop-cons}
use Rattle.simple_types.specs.Lexical.{is_128_bits}
use Rattle.base_codecs.proofs.Sequences.{cond_true, cond_false}
use Rattle.der_fields.specs.Octets.{value_from, is_long, flipped, signed_value, are_nine_equal}
use Rattle.der_decode.specs.Private.Signs.{turned, turned_octet}

-- each octet makes a number 256 times as large
next_power : (k : ℕ) → 2 ^ (k + 8) ≡ 256 * 2 ^ k
next_power k = let e : 2 ^ k * 2 ^ 8 ≡ 256 * 2 ^ k = omega arith in pow-add 2 k 8 ∙ e

grows : (xs : List ℕ) (k n : ℕ) → 2 ^ k ≤ n → 2 ^ (8 * length xs + k) ≤ value_from n xs
grows [] k n h = let e : 8 * 0 + k ≡ k = omega arith in omega (arith, ap (λ m. 2 ^ m) e, h)
grows (x ∷ xs) k n h =
    let e : 8 * length xs + (k + 8) ≡ 8 * suc (length xs) + k = omega arith in
    let up : 2 ^ (k + 8) ≤ 256 * n + x = omega (arith, next_power k, h) in
    omega (arith, ap (λ m. 2 ^ m) e, grows xs (k + 8) (256 * n + x) up)

pub octet_more : (n x i : ℕ) → n < 2 ^ (8 * i + 7) → x < 256 → 256 * n + x < 2 ^ (8 * (i + 1) + 7)
octet_more n x i h lt =
    let e : 8 * (i + 1) + 7 ≡ 8 * i + 7 + 8 = omega arith in
    omega (arith, ap (λ m. 2 ^ m) e, next_power (8 * i + 7), h, lt)

pub fits_wide : (n i : ℕ) → i ≤ 15 → n < 2 ^ (8 * i + 7) → n < 2 ^ 127
fits_wide n i le h =
    let e : 8 * i + 7 ≤ 127 = omega (arith, le) in
    let m : 2 ^ (8 * i + 7) ≤ 2 ^ 127 = pow_mono e in
    omega (arith, m, h)

pub room : (n i : ℕ) → i < 15 → n < 2 ^ (8 * i + 7) → 256 * n + 255 < 2 ^ 127
room n i lt h = fits_wide (256 * n + 255) (i + 1) (omega (arith, lt)) (octet_more n 255 i h (omega arith))

-- TURNED OVER, or not
turned_front : (b : Bool) (n x : ℕ) (xs : List ℕ) → value_from n (turned b (x ∷ xs)) ≡ value_from (256 * n + turned_octet b x) (turned b xs)
turned_front true n x xs = refl
turned_front false n x xs = refl

pub turned_more : (b : Bool) (xs : List ℕ) (n i : ℕ) → i < length xs → value_from n (turned b (drop i xs)) ≡ value_from (256 * n + turned_octet b (get_or xs i 0)) (turned b (drop (i + 1) xs))
turned_more b xs n i lt =
    let e : suc i ≡ i + 1 = omega arith in
    ap (λ ys. value_from n (turned b ys)) (drop-cons xs i 0 lt) ∙ turned_front b n (get_or xs i 0) (drop (suc i) xs)
    ∙ ap (λ j. value_from (256 * n + turned_octet b (get_or xs i 0)) (turned b (drop j xs))) e

-- NUMBERS with a sign
pub signed_low : (x : ℕ) (xs : List ℕ) → x < 128 → signed_value (x ∷ xs) ≡ pos (value_from x xs)
signed_low x xs lt = cond_true (ltb x 128) (pos (value_from x xs)) (negsuc (value_from (255 - x) (flipped xs))) (lt-ltb x 128 lt)

pub signed_high : (x : ℕ) (xs : List ℕ) → 128 ≤ x → signed_value (x ∷ xs) ≡ negsuc (value_from (255 - x) (flipped xs))
signed_high x xs ge = cond_false (ltb x 128) (pos (value_from x xs)) (negsuc (value_from (255 - x) (flipped xs))) (le-ltb x 128 ge)

or_false : (a b : Bool) → (a || b) ≡ false → (a ≡ false) × (b ≡ false)
or_false false b e = (refl, e)
or_false true b e = absurd cc

wide_from : (x : ℕ) (xs : List ℕ) → 16 ≤ length xs → is_long 128 (x ∷ xs) ≡ false → 2 ^ 127 ≤ value_from x xs
wide_from x [] long e = absurd (omega (arith, long))
wide_from x (y ∷ ys) long e =
    let lead : 128 ≤ 256 * x + y = ltb-false (256 * x + y) 128 e in
    let far : 127 ≤ 8 * length ys + 7 = omega (arith, long) in
    let m : 2 ^ 127 ≤ 2 ^ (8 * length ys + 7) = pow_mono far in
    omega (arith, m, grows ys 7 (256 * x + y) lead)

-- the least octets of a number are no more than 16, or the number is too wide
pub too_wide : (x : ℕ) (xs : List ℕ) → 16 ≤ length xs → are_nine_equal (x ∷ xs) ≡ false → is_128_bits (signed_value (x ∷ xs)) ≡ false
too_wide x xs long e =
    let h = or_false (is_long 128 (x ∷ xs)) (is_long 128 (flipped (x ∷ xs))) e in
    elim (cases_lt x 128) [
      | inl lt ↦ ap is_128_bits (signed_low x xs lt) ∙ le-ltb (value_from x xs) (2 ^ 127) (wide_from x xs long h.0)
      | inr ge ↦ (
          let far : 16 ≤ length (flipped xs) = omega (arith, long, length-map xs (λ y. 255 - y)) in
          ap is_128_bits (signed_high x xs ge) ∙ le-ltb (value_from (255 - x) (flipped xs)) (2 ^ 127) (wide_from (255 - x) (flipped xs) far h.1))
    ]
