-- Numbers and their bits.
use Rattle.std.proofs.Common.{◌≡◌, ℕ, zero, suc, ◌+◌, ◌*◌, ◌/◌, ◌%◌, ◌<◌, ◌≤◌, ◌^◌, Bool, true, false, eqb, List, [], ◌∷◌, ◌++◌, length, refl, sym, ap, ◌∙◌, arith, append_assoc, take, get_or}
use Rattle.std.proofs.lemmas.List.{take_more, length-append, append-nil}
use Rattle.std.proofs.lemmas.Nat.{pow_below, pow-add, mul-le, mod_below, pow_pos, div-add-mod'}
use Rattle.base_codecs.specs.Bits.{bits, bit, number_from, number, octet, octet_bits}

pub length-bits : (n x : ℕ) → length (bits n x) ≡ n
unfolding bits
length-bits zero x = refl
length-bits (suc n) x = omega (arith, length-append (bits n (x / 2)) (eqb (x % 2) 1 ∷ []), length-bits n (x / 2))

-- the bits of a number are those of its high part and those of its low part
pub bits-split : (m n a r : ℕ) → r < 2 ^ n → bits (m + n) (a * 2 ^ n + r) ≡ bits m a ++ bits n r
unfolding bits
bits-split m zero a r h =
    let z : r ≡ 0 = omega arith in
    let e : a * 2 ^ 0 + r ≡ a = omega arith in
    let k : m + 0 ≡ m = omega arith in
    rw (e, k) (sym (append-nil (bits m a)))
bits-split m (suc n) a r h =
    let k : m + suc n ≡ suc (m + n) = omega arith in
    let p : 2 ^ suc n ≡ 2 * 2 ^ n = omega arith in
    let q : a * 2 ^ suc n ≡ 2 * (a * 2 ^ n) = ap (λ x. a * x) p ∙ omega arith in
    let half : (a * 2 ^ suc n + r) / 2 ≡ a * 2 ^ n + r / 2 = omega (arith, q) in
    let low : (a * 2 ^ suc n + r) % 2 ≡ r % 2 = omega (arith, q) in
    let lt : r / 2 < 2 ^ n = omega (arith, p, h) in
    rw k (rw (half, low) (ap (λ bs. bs ++ eqb (r % 2) 1 ∷ []) (bits-split m n a (r / 2) lt) ∙ append_assoc (bits m a) (bits n (r / 2)) (eqb (r % 2) 1 ∷ [])))

pub number_from-push : (acc : ℕ) (bs : List Bool) (b : Bool) → number_from acc (bs ++ b ∷ []) ≡ 2 * number_from acc bs + bit b
number_from-push acc [] b = refl
number_from-push acc (c ∷ bs) b = number_from-push (2 * acc + bit c) bs b

bit-eqb : (x : ℕ) → x < 2 → bit (eqb x 1) ≡ x
bit-eqb zero h = refl
bit-eqb (suc zero) h = refl
bit-eqb (suc (suc x)) h = absurd (omega arith)

pub number-bits : (n x : ℕ) → x < 2 ^ n → number (bits n x) ≡ x
unfolding bits
number-bits zero x h = omega arith
number-bits (suc n) x h =
    let p : 2 ^ suc n ≡ 2 * 2 ^ n = omega arith in
    let lt : x / 2 < 2 ^ n = omega (arith, p, h) in
    omega (arith, number_from-push 0 (bits n (x / 2)) (eqb (x % 2) 1), number-bits n (x / 2) lt, bit-eqb (x % 2) (omega arith))

eqb-bit : (acc : ℕ) (b : Bool) → eqb ((2 * acc + bit b) % 2) 1 ≡ b
eqb-bit acc true = let e : (2 * acc + 1) % 2 ≡ 1 = omega arith in rw e refl
eqb-bit acc false = let e : (2 * acc + 0) % 2 ≡ 0 = omega arith in rw e refl

half-bit : (acc : ℕ) (b : Bool) → (2 * acc + bit b) / 2 ≡ acc
half-bit acc true = omega arith
half-bit acc false = omega arith

pub bits-number_from : (k acc : ℕ) (bs : List Bool) → bits (k + length bs) (number_from acc bs) ≡ bits k acc ++ bs
unfolding bits
bits-number_from k acc [] = let e : k + 0 ≡ k = omega arith in rw e (sym (append-nil (bits k acc)))
bits-number_from k acc (b ∷ bs) =
    let e : k + suc (length bs) ≡ suc k + length bs = omega arith in
    rw e (bits-number_from (suc k) (2 * acc + bit b) bs
    ∙ ap (λ xs. xs ++ bs) (ap (λ x. bits k x ++ eqb ((2 * acc + bit b) % 2) 1 ∷ []) (half-bit acc b) ∙ ap (λ c. bits k acc ++ c ∷ []) (eqb-bit acc b))
    ∙ append_assoc (bits k acc) (b ∷ []) bs)

pub bits-number : (bs : List Bool) → bits (length bs) (number bs) ≡ bs
unfolding bits
bits-number bs = let e : 0 + length bs ≡ length bs = omega arith in ap (λ n. bits n (number bs)) (sym e) ∙ bits-number_from 0 0 bs

bit-lt : (b : Bool) → bit b < 2
bit-lt true = omega arith
bit-lt false = omega arith

number_from-lt : (acc : ℕ) (bs : List Bool) → number_from acc bs < (acc + 1) * 2 ^ length bs
number_from-lt acc [] = omega arith
number_from-lt acc (b ∷ bs) =
    let p : 2 ^ suc (length bs) ≡ 2 * 2 ^ length bs = omega arith in
    let m : (2 * acc + bit b + 1) * 2 ^ length bs ≤ (2 * acc + 2) * 2 ^ length bs = mul-le _ _ _ _ (omega (arith, bit-lt b)) (omega arith) in
    let q : (acc + 1) * 2 ^ suc (length bs) ≡ (2 * acc + 2) * 2 ^ length bs = ap (λ x. (acc + 1) * x) p ∙ omega arith in
    omega (arith, number_from-lt (2 * acc + bit b) bs, m, q)

pub number-lt : (bs : List Bool) → number bs < 2 ^ length bs
number-lt bs = omega (arith, number_from-lt 0 bs)

-- the first m bits of a number of m + n bits are those of its high part
pub bits-high : (m n x : ℕ) → bits (m + n) x ≡ bits m (x / 2 ^ n) ++ bits n (x % 2 ^ n)
bits-high m n x =
    let lt : x % 2 ^ n < 2 ^ n = mod_below x (2 ^ n) (pow_pos n) in
    ap (bits (m + n)) (sym (div-add-mod' x (2 ^ n))) ∙ bits-split m n (x / 2 ^ n) (x % 2 ^ n) lt

pub octet_bits-append : (xs ys : List ℕ) → octet_bits (xs ++ ys) ≡ octet_bits xs ++ octet_bits ys
octet_bits-append [] ys = refl
octet_bits-append (x ∷ xs) ys = ap (λ bs. octet x ++ bs) (octet_bits-append xs ys) ∙ sym (append_assoc (octet x) (octet_bits xs) (octet_bits ys))

pub length-octet_bits : (xs : List ℕ) → length (octet_bits xs) ≡ 8 * length xs
unfolding octet
length-octet_bits [] = refl
length-octet_bits (x ∷ xs) = omega (arith, length-append (bits 8 x) (octet_bits xs), length-bits 8 x, length-octet_bits xs)

-- one octet more
pub gather_below : (w all x : ℕ) → all < 2 ^ w → x < 256 → all * 256 + x < 2 ^ (w + 8)
gather_below w all x h k = let p : 2 ^ (w + 8) ≡ 2 ^ w * 256 = pow-add 2 w 8 in omega (arith, p)

pub gather_more : (u held all i x : ℕ) (xs : List ℕ) → i < length xs → x ≡ get_or xs i 0 → x < 256
    → bits (u + 8 * i) all ≡ bits u held ++ octet_bits (take i xs) → bits (u + 8 * (i + 1)) (all * 256 + x) ≡ bits u held ++ octet_bits (take (i + 1) xs)
unfolding octet
gather_more u held all i x xs at here lt so_far =
    let e : u + 8 * (i + 1) ≡ (u + 8 * i) + 8 = omega arith in
    let one : take (i + 1) xs ≡ take i xs ++ x ∷ [] = take_more xs i 0 at ∙ ap (λ y. take i xs ++ y ∷ []) (sym here) in
    let last : octet_bits (x ∷ []) ≡ octet x = append-nil (octet x) in
    rw e (bits-split (u + 8 * i) 8 all x lt ∙ ap (λ bs. bs ++ octet x) so_far ∙ append_assoc (bits u held) (octet_bits (take i xs)) (octet x)
    ∙ ap (λ bs. bits u held ++ bs) (ap (λ bs. octet_bits (take i xs) ++ bs) (sym last) ∙ sym (octet_bits-append (take i xs) (x ∷ [])) ∙ ap octet_bits (sym one)))

pub sum_fits : (w all x : ℕ) → all < 2 ^ w → w ≤ 71 → x < 256 → all * 256 + x < 2 ^ 128
sum_fits w all x h small k = omega (arith, pow_below w 72 (omega arith))
