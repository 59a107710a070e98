-- Numbers with their sign.
use Rattle.std.proofs.Common.{◌≡◌, ℕ, suc, ◌+◌, ◌-◌, ◌*◌, ◌%◌, ◌<◌, ◌≤◌, ◌^◌, Bool, true, false, refl, sym, ap, ◌∙◌, subst, arith}
use Rattle.std.specs.Prelude.{ℤ, pos, negsuc, ◌-ℤ◌, unsigned_abs, int_le}
use Rattle.std.proofs.lemmas.Int.{ints}
use Rattle.std.proofs.lemmas.Bool.{leb-true, lt-ltb, le-ltb}
use Rattle.std.proofs.Common.{T, to_z, of_z}
use Rattle.std.specs.Int.{w128}
use Rattle.per_fields.proofs.WidthLaws.{pow_le}
use Rattle.per_fields.specs.Widths.{distance, signed_of, signed_by}

pub distance-abs : (a b : ℤ) → int_le a b ≡ true → unsigned_abs (b -ℤ a) ≡ distance a b
distance-abs (pos a) (pos b) h = let k : a ≤ b = leb-true a b h in let e : pos b -ℤ pos a ≡ pos (b - a) = omega (arith, ints, k) in ap unsigned_abs e
distance-abs (negsuc a) (pos b) h = omega arith
distance-abs (negsuc a) (negsuc b) h = let k : b ≤ a = leb-true b a h in let e : negsuc b -ℤ negsuc a ≡ pos (a - b) = omega (arith, ints, k) in ap unsigned_abs e
distance-abs (pos a) (negsuc b) h = absurd cc

pub signed-low : (width x : ℕ) → x < 2 ^ (width - 1) → signed_of width x ≡ pos x
signed-low width x h = ap (λ b. signed_by b width x) (lt-ltb x (2 ^ (width - 1)) h)

pub signed-high : (width x : ℕ) → 2 ^ (width - 1) ≤ x → signed_of width x ≡ negsuc (2 ^ width - suc x)
signed-high width x h = ap (λ b. signed_by b width x) (le-ltb x (2 ^ (width - 1)) h)

pub is_true : (b : Bool) → T b → b ≡ true
is_true true h = refl
is_true false h = absurd h

-- half of what so many octets hold
pub half_is : (more : ℕ) → more ≤ 15 → 1 * 2 ^ (8 * more + 7) % 340282366920938463463374607431768211456 ≡ 2 ^ (8 * more + 7)
half_is more few = let h = pow_le (8 * more + 7) 127 (omega arith) in omega (arith, h)

pub half_top : (more : ℕ) → more ≤ 15 → 2 ^ (8 * more + 7) ≤ 2 ^ 127
half_top more few = pow_le (8 * more + 7) 127 (omega arith)

pub two_halves : (more : ℕ) → 2 ^ (8 * (more + 1)) ≡ 2 * 2 ^ (8 * more + 7)
two_halves more = let e : 8 * (more + 1) ≡ suc (8 * more + 7) = omega arith in ap (λ n. 2 ^ n) e ∙ omega arith

pub low_is : (x more : ℕ) → more ≤ 15 → x < 2 ^ (8 * more + 7) → to_z w128 x ≡ signed_of (8 * (more + 1)) x
low_is x more few h =
    let top : x < 2 ^ 127 = omega (arith, h, half_top more few) in
    let e : 8 * (more + 1) - 1 ≡ 8 * more + 7 = omega arith in
    let a : to_z w128 x ≡ pos x = omega (arith, ints, top) in
    a ∙ sym (signed-low (8 * (more + 1)) x (subst (λ n. x < 2 ^ n) (sym e) h))

pub high_is : (x more half : ℕ) → more ≤ 15 → half ≡ 2 ^ (8 * more + 7) → half ≤ x → x < 2 ^ (8 * (more + 1))
    → to_z w128 (of_z w128 (negsuc 0 -ℤ to_z w128 (half - 1 - (x - half)))) ≡ signed_of (8 * (more + 1)) x
high_is x more half few is high fits =
    let top = half_top more few in
    let small : half - 1 - (x - half) < 2 ^ 127 = omega (arith, is, top) in
    let e : 8 * (more + 1) - 1 ≡ 8 * more + 7 = omega arith in
    let n : half - 1 - (x - half) ≡ 2 ^ (8 * (more + 1)) - suc x = omega (arith, is, two_halves more, high, fits) in
    negated (half - 1 - (x - half)) small ∙ ap negsuc n ∙ sym (signed-high (8 * (more + 1)) x (subst (λ n. 2 ^ n ≤ x) (sym e) (omega (arith, is, high))))
  where
    negated : (n : ℕ) → n < 2 ^ 127 → to_z w128 (of_z w128 (negsuc 0 -ℤ to_z w128 n)) ≡ negsuc n
    negated n h = omega (arith, ints, h)
