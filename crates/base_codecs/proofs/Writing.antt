-- What a sink of bits holds.
use Rattle.std.proofs.Common.{◌≡◌, ℕ, zero, suc, ◌+◌, ◌-◌, ◌*◌, ◌/◌, ◌%◌, ◌<◌, ◌≤◌, ◌^◌, Bool, false, List, [], ◌∷◌, ◌++◌, length, refl, sym, ap, ◌∙◌, subst, arith, append_assoc, drop, take}
use Rattle.std.proofs.lemmas.Nat.{mul-add-lt, pow_pos, pow-add, mod_below, shr_below}
use Rattle.std.proofs.lemmas.List.{append-nil, length-append, length-replicate, replicate_more, length-drop, take_all}
use Rattle.std.proofs.Math.Nat.{mul_comm, mul-lt-mul_of_pos_right}
use Rattle.std.specs.Prelude.{replicate, Result, Ok, Err, OnOk, is_ok, if◌then◌else◌}
use Rattle.std.specs.Int.{bytes_high_first, byte_at}
use Rattle.base_codecs.specs.Bits.{bits, octet_bits, octet, gap, padding}
use Rattle.base_codecs.proofs.BitLemmas.{bits-high, bits-split, octet_bits-append, length-bits, length-octet_bits}
use Rattle.base_codecs.proofs.BitSplit.{bits-mod, fits_64, grown}

pub bits-zero : (n : ℕ) → bits n 0 ≡ replicate n false
unfolding bits
bits-zero zero = refl
bits-zero (suc n) = let e : n + 1 ≡ suc n = omega arith in ap (λ bs. bs ++ false ∷ []) (bits-zero n) ∙ replicate_more n false ∙ ap (λ k. replicate k false) e

pub length-view : (items : List ℕ) (used part : ℕ) → length (octet_bits items ++ bits used part) ≡ 8 * length items + used
length-view items used part = omega (arith, length-append (octet_bits items) (bits used part), length-octet_bits items, length-bits used part)

-- at the end of an octet nothing is missing
pub no_padding : (bs : List Bool) → length bs % 8 ≡ 0 → bs ≡ bs ++ padding (length bs)
no_padding bs h = let e : gap (length bs) ≡ 0 = omega arith in sym (append-nil bs) ∙ ap (λ n. bs ++ replicate n false) (sym e)

-- the last octet is closed
pub closes : (items : List ℕ) (used part v : ℕ) (old : List Bool) → 0 < used → used ≤ 7 → part < 2 ^ used → v ≡ part * 2 ^ (8 - used) → old ≡ octet_bits items ++ bits used part
    → octet_bits (items ++ v ∷ []) ++ bits 0 0 ≡ old ++ padding (length old)
unfolding octet bits
closes items used part v old some few fits is seen =
    let k : used + (8 - used) ≡ 8 = omega arith in
    let e : gap (length old) ≡ 8 - used = ap gap (ap length seen ∙ length-view items used part) ∙ omega arith in
    let w : v ≡ part * 2 ^ (8 - used) + 0 = omega arith in
    let last : bits 8 v ≡ bits used part ++ replicate (8 - used) false =
    ap (bits 8) w ∙ ap (λ n. bits n (part * 2 ^ (8 - used) + 0)) (sym k) ∙ bits-split used (8 - used) part 0 (pow_pos (8 - used)) ∙ ap (λ bs. bits used part ++ bs) (bits-zero (8 - used)) in
    append-nil (octet_bits (items ++ v ∷ [])) ∙ octet_bits-append items (v ∷ []) ∙ ap (λ bs. octet_bits items ++ bs) (append-nil (bits 8 v) ∙ last)
    ∙ sym (append_assoc (octet_bits items) (bits used part) (replicate (8 - used) false)) ∙ ap (λ bs. bs ++ replicate (8 - used) false) (sym seen) ∙ ap (λ n. old ++ replicate n false) (sym e)

-- a list of whole octets is written in no part
pub whole : (items : List ℕ) (used part : ℕ) (all : List Bool) → used ≤ 7 → all ≡ octet_bits items ++ bits used part → length all % 8 ≡ 0 → octet_bits items ≡ all
unfolding bits
whole items used part all few seen h =
    let l : length all ≡ 8 * length items + used = ap length seen ∙ length-view items used part in
    let z : used ≡ 0 = omega arith in
    sym (seen ∙ ap (λ n. octet_bits items ++ bits n part) z ∙ append-nil (octet_bits items))

padded_length : (n g l : ℕ) → g ≡ gap n → l ≡ n + g → l % 8 ≡ 0
padded_length n g l e h = omega arith

-- what is padded is whole octets
pub padded : (items : List ℕ) (used part : ℕ) (old all : List Bool) → used ≤ 7 → all ≡ octet_bits items ++ bits used part → all ≡ old ++ padding (length old)
    → octet_bits items ≡ old ++ padding (length old)
padded items used part old all few seen is =
    let l : length all ≡ length old + gap (length old) = ap length is ∙ length-append old (padding (length old)) ∙ ap (λ n. length old + n) (length-replicate (gap (length old)) false) in
    whole items used part all few seen (padded_length (length old) (gap (length old)) (length all) refl l) ∙ is

-- where nothing is written in part
pub adds_octets : (items new octets : List ℕ) (used part : ℕ) (old : List Bool) → used ≡ 0 → old ≡ octet_bits items ++ bits used part → new ≡ items ++ octets
    → octet_bits new ++ bits used part ≡ old ++ octet_bits octets
unfolding bits
adds_octets items new octets used part old z seen is =
    ap (λ n. octet_bits new ++ bits n part) z ∙ append-nil (octet_bits new) ∙ ap octet_bits is ∙ octet_bits-append items octets
    ∙ ap (λ bs. bs ++ octet_bits octets) (sym (seen ∙ ap (λ n. octet_bits items ++ bits n part) z ∙ append-nil (octet_bits items)))

-- the octets of the low bits of a number
pow-256 : (k : ℕ) → 256 ^ k ≡ 2 ^ (8 * k)
pow-256 zero = refl
pow-256 (suc k) =
    let e : 8 * suc k ≡ 8 + 8 * k = omega arith in
    let p : 256 ^ suc k ≡ 256 * 256 ^ k = omega arith in
    rw (e, pow-add 2 8 (8 * k)) (omega (arith, p, pow-256 k))

byte_at-div : (i x : ℕ) → byte_at i x ≡ x / 2 ^ (8 * i) % 256
byte_at-div zero x = omega arith
byte_at-div (suc i) x = ap (λ n. x / n % 256) (pow-256 (suc i))

high_octets : (count x : ℕ) → octet_bits (bytes_high_first count x) ≡ bits (8 * count) x
unfolding octet bits
high_octets zero x = refl
high_octets (suc count) x =
    let k : 8 * suc count ≡ 8 + 8 * count = omega arith in
    ap (λ n. octet n ++ octet_bits (bytes_high_first count x)) (byte_at-div count x) ∙ ap (λ bs. octet (x / 2 ^ (8 * count) % 256) ++ bs) (high_octets count x)
    ∙ ap (λ bs. bs ++ bits (8 * count) x) (bits-mod 8 (x / 2 ^ (8 * count))) ∙ ap (λ bs. bits 8 (x / 2 ^ (8 * count)) ++ bs) (sym (bits-mod (8 * count) x))
    ∙ sym (bits-high 8 (8 * count) x) ∙ ap (λ n. bits n x) (sym k)

low_octets : (k count all x : ℕ) → all ≡ k + count → octet_bits (drop k (bytes_high_first all x)) ≡ bits (8 * count) x
low_octets zero count all x e = let f : all ≡ count = omega arith in ap (λ n. octet_bits (bytes_high_first n x)) f ∙ high_octets count x
low_octets (suc k) count zero x e = absurd (omega arith)
low_octets (suc k) count (suc all) x e = low_octets k count all x (omega arith)

pub writes_octets : (old new : List ℕ) (count x : ℕ) → count ≤ 8 → new ≡ old ++ drop (8 - count) (bytes_high_first 8 x) → octet_bits new ≡ octet_bits old ++ bits (8 * count) x
writes_octets old new count x few is =
    ap octet_bits is ∙ octet_bits-append old (drop (8 - count) (bytes_high_first 8 x)) ∙ ap (λ bs. octet_bits old ++ bs) (low_octets (8 - count) count 8 x (omega arith))

-- bits behind those that are written in part
pub writes_bits : (new items : List ℕ) (used part n x count left all : ℕ) (old : List Bool) → old ≡ octet_bits items ++ bits used part → all ≡ part * 2 ^ n + x % 2 ^ n
    → used + n ≡ 8 * count + left → octet_bits new ≡ octet_bits items ++ bits (8 * count) (all / 2 ^ left) → octet_bits new ++ bits left (all % 2 ^ left) ≡ old ++ bits n x
writes_bits new items used part n x count left all old seen is sum written =
    let h : bits (used + n) all ≡ bits (8 * count) (all / 2 ^ left) ++ bits left (all % 2 ^ left) = ap (λ m. bits m all) sum ∙ bits-high (8 * count) left all in
    let s : bits (used + n) all ≡ bits used part ++ bits n x =
    ap (bits (used + n)) is ∙ bits-split used n part (x % 2 ^ n) (mod_below x (2 ^ n) (pow_pos n)) ∙ ap (λ bs. bits used part ++ bs) (bits-mod n x) in
    ap (λ bs. bs ++ bits left (all % 2 ^ left)) written ∙ append_assoc (octet_bits items) (bits (8 * count) (all / 2 ^ left)) (bits left (all % 2 ^ left))
    ∙ ap (λ bs. octet_bits items ++ bs) (sym h ∙ s) ∙ sym (append_assoc (octet_bits items) (bits used part) (bits n x)) ∙ ap (λ bs. bs ++ bits n x) (sym seen)

-- the octets written are those of a number of 64 bits
pub octets_fit : (part x used n all : ℕ) → part < 2 ^ used → used ≤ 7 → n ≤ 64 → all ≡ part * 2 ^ n + x % 2 ^ n → all / 2 ^ ((used + n) % 8) < 2 ^ 64
octets_fit part x used n all fits few most is =
    let r : x % 2 ^ n < 2 ^ n = mod_below x (2 ^ n) (pow_pos n) in
    let w : all < 2 ^ (used + n) = omega (arith, is, mul-add-lt part (2 ^ n) (x % 2 ^ n) (2 ^ used) fits r, pow-add 2 used n, mul_comm (2 ^ n) (2 ^ used)) in
    let count = (used + n) / 8 in
    let sum : used + n ≡ 8 * count + (used + n) % 8 = omega arith in
    fits_64 (all / 2 ^ ((used + n) % 8)) (8 * count) (shr_below all (8 * count) ((used + n) % 8) (subst (λ k. all < 2 ^ k) sum w)) (omega arith)

length-bytes : (count x : ℕ) → length (bytes_high_first count x) ≡ count
length-bytes zero x = refl
length-bytes (suc count) x = ap (λ n. suc n) (length-bytes count x)

-- the same, as the calls of a vector say it
pub appended_octets : {T E : Type 0} (r : Result T E) (old new bytes : List ℕ) (count x : ℕ) → count ≤ 8 → bytes ≡ bytes_high_first 8 x
    → new ≡ (if is_ok r then old ++ take (8 - (8 - count)) (drop (8 - count) bytes) else old) → OnOk r (octet_bits new ≡ octet_bits old ++ bits (8 * count) x)
appended_octets (Ok t) old new bytes count x few low is =
    let l : length (drop (8 - count) bytes) ≤ 8 - (8 - count) = omega (arith, length-drop (8 - count) bytes, ap length low, length-bytes 8 x) in
    writes_octets old new count x few (is ∙ ap (λ xs. old ++ xs) (take_all (8 - (8 - count)) (drop (8 - count) bytes) l ∙ ap (drop (8 - count)) low))
appended_octets (Err e) old new bytes count x few low is = tt

pub closed : (items new : List ℕ) (used part v : ℕ) (old : List Bool) → 0 < used → used ≤ 7 → part < 2 ^ used → v ≡ part * 2 ^ (8 - used) % 256
    → octet_bits items ++ bits used part ≡ old → new ≡ items ++ v ∷ [] → octet_bits new ++ bits 0 0 ≡ old ++ padding (length old)
closed items new used part v old some few fits is seen pushed =
    let k : used + (8 - used) ≡ 8 = omega arith in
    let m : part * 2 ^ (8 - used) < 2 ^ used * 2 ^ (8 - used) = mul-lt-mul_of_pos_right fits (pow_pos (8 - used)) in
    let w : 2 ^ used * 2 ^ (8 - used) ≡ 256 = sym (pow-add 2 used (8 - used)) ∙ ap (λ n. 2 ^ n) k in
    let v' : v ≡ part * 2 ^ (8 - used) = is ∙ omega (arith, m, w) in
    ap (λ xs. octet_bits xs ++ bits 0 0) pushed ∙ closes items used part v old some few fits v' (sym seen)

-- the bits of a part and of a number
pub joined_fit : (part x used n all : ℕ) → part < 2 ^ used → all ≡ part * 2 ^ n + x % 2 ^ n → all < 2 ^ (used + n)
joined_fit part x used n all fits is =
    omega (arith, is, mul-add-lt part (2 ^ n) (x % 2 ^ n) (2 ^ used) fits (mod_below x (2 ^ n) (pow_pos n)), pow-add 2 used n, mul_comm (2 ^ n) (2 ^ used))

pub joined_small : (part x used n : ℕ) → part < 2 ^ used → used + n < 64 → part * 2 ^ n + x % 2 ^ n < 2 ^ 64
joined_small part x used n fits few = fits_64 (part * 2 ^ n + x % 2 ^ n) (used + n) (joined_fit part x used n _ fits refl) (omega arith)

pub joined_octet : (part x used n : ℕ) → part < 2 ^ used → used + n < 8 → part * 2 ^ n + x % 2 ^ n < 2 ^ 8
joined_octet part x used n fits few =
    let e : used + n + (8 - (used + n)) ≡ 8 = omega arith in
    subst (λ m. part * 2 ^ n + x % 2 ^ n < 2 ^ m) e (grown (part * 2 ^ n + x % 2 ^ n) (used + n) (8 - (used + n)) (joined_fit part x used n _ fits refl))

-- bits that stay within the octet that is written in part
pub joins_bits : (items : List ℕ) (used part n x all : ℕ) (old : List Bool) → old ≡ octet_bits items ++ bits used part → all ≡ part * 2 ^ n + x % 2 ^ n
    → octet_bits items ++ bits (used + n) all ≡ old ++ bits n x
joins_bits items used part n x all old seen is =
    ap (λ bs. octet_bits items ++ bs) (ap (bits (used + n)) is ∙ bits-split used n part (x % 2 ^ n) (mod_below x (2 ^ n) (pow_pos n)) ∙ ap (λ bs. bits used part ++ bs) (bits-mod n x))
    ∙ sym (append_assoc (octet_bits items) (bits used part) (bits n x)) ∙ ap (λ bs. bs ++ bits n x) (sym seen)

-- behind the octets that were whole
pub leaves_bits : (new items : List ℕ) (used part n x left all : ℕ) (old : List Bool) → old ≡ octet_bits items ++ bits used part → all ≡ part * 2 ^ n + x % 2 ^ n
    → octet_bits new ++ bits left all ≡ octet_bits items ++ bits (used + n) all → octet_bits new ++ bits left (all % 2 ^ left) ≡ old ++ bits n x
leaves_bits new items used part n x left all old seen is so_far =
    ap (λ bs. octet_bits new ++ bs) (bits-mod left all) ∙ so_far ∙ joins_bits items used part n x all old seen is
