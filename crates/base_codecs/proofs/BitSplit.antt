-- The bits that are taken, and those that are left.
use Rattle.std.proofs.Common.{◌≡◌, ℕ, ◌+◌, ◌-◌, ◌*◌, ◌/◌, ◌%◌, ◌<◌, ◌≤◌, ◌^◌, Bool, List, [], ◌∷◌, ◌++◌, length, sym, ap, ◌∙◌, subst, arith, append_assoc, take, drop, Option, Some}
use Rattle.std.proofs.lemmas.Nat.{mul-add-lt, pow_pos, pow-add, pow_below, shr_below, one_shl, mul-le}
use Rattle.std.proofs.lemmas.List.{append-nil, take_at, take_all, length-take-le}
use Rattle.std.proofs.Math.Nat.{mul_comm}
use Rattle.std.proofs.Math.Seq.{take-append-add, drop-append_seam}
use Rattle.base_codecs.specs.Bits.{bits, octet_bits, octet}
use Rattle.base_codecs.specs.Cursors.{ahead}
use Rattle.std.specs.Io.KnownBytes.{Consumes}
use Rattle.base_codecs.proofs.Taking.{told_rest}
use Rattle.base_codecs.proofs.BitLemmas.{bits-high, bits-split, octet_bits-append}

-- a number that fits so many bits fits more
pub grown : (x n m : ℕ) → x < 2 ^ n → x < 2 ^ (n + m)
grown x n m h = let a : 2 ^ n * 1 ≤ 2 ^ n * 2 ^ m = mul-le _ _ _ _ (omega arith) (omega (arith, pow_pos m)) in omega (arith, pow-add 2 n m, a)

pub below : (all w n left : ℕ) → all < 2 ^ w → n + left ≡ w → all / 2 ^ left < 2 ^ n
below all w n left h e = shr_below all n left (subst (λ k. all < 2 ^ k) (sym e) h)

pub fits_64 : (x n : ℕ) → x < 2 ^ n → n ≤ 64 → x < 2 ^ 64
fits_64 x n h k = let e : n + (64 - n) ≡ 64 = omega arith in subst (λ m. x < 2 ^ m) e (grown x n (64 - n) h)

-- what was left, as what is taken and what is left now
pub splits : (u held all w n left room k : ℕ) (xs old new : List ℕ) → all < 2 ^ w → n + left ≡ w → left < 128 → bits w all ≡ bits u held ++ octet_bits xs
    → old ≡ xs ++ new → length xs ≡ k → k ≤ room
    → bits u held ++ octet_bits (take room old) ≡ bits n (all / 2 ^ left) ++ (bits left (all % (1 * 2 ^ left % 2 ^ 128)) ++ octet_bits (take (room - k) new))
splits u held all w n left room k xs old new fits sum small same came long most =
    let p : 1 * 2 ^ left % 2 ^ 128 ≡ 2 ^ left = one_shl left 128 small in
    let r : room ≡ length xs + (room - k) = omega arith in
    let t : take room old ≡ xs ++ take (room - k) new = ap (take room) came ∙ ap (λ n. take n (xs ++ new)) r ∙ take-append-add xs new (room - k) in
    let b : bits w all ≡ bits n (all / 2 ^ left) ++ bits left (all % 2 ^ left) = ap (λ m. bits m all) (sym sum) ∙ bits-high n left all in
    ap (λ m. bits u held ++ octet_bits m) t ∙ ap (λ m. bits u held ++ m) (octet_bits-append xs (take (room - k) new)) ∙ sym (append_assoc (bits u held) (octet_bits xs) _)
    ∙ ap (λ m. m ++ octet_bits (take (room - k) new)) (sym same ∙ b) ∙ append_assoc (bits n (all / 2 ^ left)) (bits left (all % 2 ^ left)) _
    ∙ ap (λ m. bits n (all / 2 ^ left) ++ (bits left (all % m) ++ octet_bits (take (room - k) new))) (sym p)

-- the same, where the octet_bits stand at the front of a buffer
pub whole_below : (u all m : ℕ) (ys zs : List ℕ) → length ys ≡ m → all < 2 ^ (u + 8 * length (take m (ys ++ zs))) → all < 2 ^ (u + 8 * m)
whole_below u all m ys zs long h = subst (λ k. all < 2 ^ (u + 8 * k)) (ap length (take_at ys zs m long) ∙ long) h

pub splits_here : (u held all n left room k m : ℕ) (ys zs old new : List ℕ) → length ys ≡ m → all < 2 ^ (u + 8 * length (take m (ys ++ zs)))
    → bits (u + 8 * length (take m (ys ++ zs))) all ≡ bits u held ++ octet_bits (take m (ys ++ zs)) → n + left ≡ u + 8 * m → left < 128 → k ≡ m → k ≤ room → old ≡ take k ys ++ new
    → bits u held ++ octet_bits (take room old) ≡ bits n (all / 2 ^ left) ++ (bits left (all % (1 * 2 ^ left % 2 ^ 128)) ++ octet_bits (take (room - k) new))
splits_here u held all n left room k m ys zs old new long h same sum small count most came =
    let t : take m (ys ++ zs) ≡ ys = take_at ys zs m long in
    let s : bits (u + 8 * m) all ≡ bits u held ++ octet_bits ys = sym (ap (λ k. bits (u + 8 * k) all) (ap length t ∙ long)) ∙ same ∙ ap (λ xs. bits u held ++ octet_bits xs) t in
    let all_of : take k ys ≡ ys = take_all k ys (omega arith) in
    splits u held all (u + 8 * m) n left room k ys old new (whole_below u all m ys zs long h) sum small s (came ∙ ap (λ xs. xs ++ new) all_of) (omega arith) most

pub bits-mod : (n x : ℕ) → bits n (x % 2 ^ n) ≡ bits n x
unfolding bits
bits-mod n x =
    let h = bits-high 0 n x in
    let z : 0 + n ≡ n = omega arith in
    sym (ap (λ m. bits m x) (sym z) ∙ h)

-- one octet more is written
pub writes_octet : (items : List ℕ) (after all : ℕ) (whole : List Bool) → 8 ≤ after → octet_bits items ++ bits after all ≡ whole
    → octet_bits (items ++ (all / 2 ^ (after - 8) % 256) ∷ []) ++ bits (after - 8) all ≡ whole
unfolding octet
writes_octet items after all whole h so_far =
    let k : after ≡ 8 + (after - 8) = omega arith in
    let y = all / 2 ^ (after - 8) in
    let p : bits after all ≡ octet (y % 256) ++ bits (after - 8) all = ap (λ m. bits m all) k ∙ bits-high 8 (after - 8) all ∙ ap (λ m. m ++ bits (after - 8) (all % 2 ^ (after - 8))) (sym (bits-mod 8 y)) ∙ ap (λ m. octet (y % 256) ++ m) (bits-mod (after - 8) all) in
    ap (λ m. m ++ bits (after - 8) all) (octet_bits-append items ((y % 256) ∷ []) ∙ ap (λ m. octet_bits items ++ m) (append-nil (octet (y % 256))))
    ∙ append_assoc (octet_bits items) (octet (y % 256)) (bits (after - 8) all) ∙ ap (λ m. octet_bits items ++ m) (sym p) ∙ so_far

pub all_below : (part x used n : ℕ) → part < 2 ^ used → x < 2 ^ n → used + n ≤ 71 → part * 2 ^ n + x < 2 ^ 128
all_below part x used n h k le = omega (arith, mul-add-lt part (2 ^ n) x (2 ^ used) h k, pow-add 2 used n, pow_below (used + n) 72 (omega arith), mul_comm (2 ^ n) (2 ^ used))

pub written_all : (items old : List ℕ) (part x used n left all : ℕ) → x < 2 ^ n → all ≡ part * 2 ^ n + x → octet_bits items ++ bits left all ≡ octet_bits old ++ bits (used + n) all
    → octet_bits items ++ bits left (all % 2 ^ left) ≡ (octet_bits old ++ bits used part) ++ bits n x
written_all items old part x used n left all h e so_far =
    ap (λ m. octet_bits items ++ m) (bits-mod left all) ∙ so_far ∙ ap (λ m. octet_bits old ++ m) (ap (bits (used + n)) e ∙ bits-split used n part x h) ∙ sym (append_assoc (octet_bits old) (bits used part) (bits n x))

-- the bits ahead, where octets came from a source that tells what it has left
pub reads_bits : (position taken limit held all n left k m : ℕ) (ys zs octets : List ℕ) (old new : Option (List ℕ))
    → length ys ≡ m → position ≤ 8 * taken → all < 2 ^ (8 * taken - position + 8 * length (take m (ys ++ zs)))
    → bits (8 * taken - position + 8 * length (take m (ys ++ zs))) all ≡ bits (8 * taken - position) held ++ octet_bits (take m (ys ++ zs))
    → n + left ≡ 8 * taken - position + 8 * m → left < 128 → k ≡ m → k ≤ limit - taken → Consumes old new (take k ys) → old ≡ Some octets
    → ahead position taken held limit octets
    ≡ bits n (all / 2 ^ left) ++ ahead (position + n) (taken + k) (all % (1 * 2 ^ left % 2 ^ 128)) limit (drop (taken + k - taken) octets)
reads_bits position taken limit held all n left k m ys zs octets old new long behind fits same sum small count most came is =
    let told = told_rest old new (take k ys) octets came is in
    let short : length (take k ys) ≡ k = length-take-le k ys (omega arith) in
    let e : taken + k - taken ≡ length (take k ys) = omega arith in
    let back : drop (taken + k - taken) octets ≡ told.0 = ap (λ i. drop i octets) e ∙ ap (drop (length (take k ys))) told.2 ∙ drop-append_seam (take k ys) told.0 in
    let room : limit - (taken + k) ≡ limit - taken - k = omega arith in
    let held_now : 8 * (taken + k) - (position + n) ≡ left = omega arith in
    splits_here (8 * taken - position) held all n left (limit - taken) k m ys zs octets told.0 long fits same sum small count most told.2
    ∙ ap (λ w. bits n (all / 2 ^ left) ++ (bits w (all % (1 * 2 ^ left % 2 ^ 128)) ++ octet_bits (take (limit - taken - k) told.0))) (sym held_now)
    ∙ ap (λ r. bits n (all / 2 ^ left) ++ (bits (8 * (taken + k) - (position + n)) (all % (1 * 2 ^ left % 2 ^ 128)) ++ octet_bits (take r told.0))) (sym room)
    ∙ ap (λ xs. bits n (all / 2 ^ left) ++ (bits (8 * (taken + k) - (position + n)) (all % (1 * 2 ^ left % 2 ^ 128)) ++ octet_bits (take (limit - (taken + k)) xs))) (sym back)
