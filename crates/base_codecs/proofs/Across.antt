-- Octets that stand across two others.
use Rattle.std.proofs.Common.{◌≡◌, ℕ, ◌+◌, ◌-◌, ◌*◌, ◌/◌, ◌%◌, ◌<◌, ◌≤◌, ◌^◌, Bool, List, [], ◌∷◌, ◌++◌, length, sym, ap, ◌∙◌, arith, append_assoc, take, drop, get_or, set, Option, Some}
use Rattle.std.proofs.lemmas.Nat.{pow_pos, mod_below}
use Rattle.std.proofs.lemmas.List.{append-nil, take_more, take_more_set, drop_more, drop-set-lt, take_all}
use Rattle.std.proofs.lemmas.Grind.{drop_more_same}
use Rattle.std.proofs.Math.Seq.{take-append-add, drop-append_seam}
use Rattle.std.specs.Io.KnownBytes.{Consumes}
use Rattle.base_codecs.specs.Bits.{bits, octet_bits, octet}
use Rattle.base_codecs.specs.Cursors.{ahead}
use Rattle.base_codecs.proofs.BitLemmas.{bits-high, bits-split, octet_bits-append}
use Rattle.base_codecs.proofs.Taking.{told_rest}

-- eight bits more, and one octet comes out
pub octet_across : (u held x : ℕ) → x < 256 → octet ((held * 256 + x) / 2 ^ u) ++ bits u ((held * 256 + x) % 2 ^ u) ≡ bits u held ++ octet x
unfolding octet
octet_across u held x lt =
    let k : u + 8 ≡ 8 + u = omega arith in
    sym (bits-high 8 u (held * 256 + x)) ∙ ap (λ n. bits n (held * 256 + x)) (sym k) ∙ bits-split u 8 held x lt

-- what is left fits
pub left_below : (u all : ℕ) → all % 2 ^ u < 2 ^ u
left_below u all = mod_below all (2 ^ u) (pow_pos u)

-- one octet more came out behind those before
across_more : (u left x : ℕ) (base : List Bool) (done front : List ℕ) → x < 256 → octet_bits done ++ bits u left ≡ base ++ octet_bits front
    → octet_bits (done ++ ((left * 256 + x) / 2 ^ u) ∷ []) ++ bits u ((left * 256 + x) % 2 ^ u) ≡ base ++ octet_bits (front ++ x ∷ [])
across_more u left x base done front lt so_far =
    let y = (left * 256 + x) / 2 ^ u in
    let next = (left * 256 + x) % 2 ^ u in
    ap (λ bs. bs ++ bits u next) (octet_bits-append done (y ∷ []) ∙ ap (λ bs. octet_bits done ++ bs) (append-nil (octet y)))
    ∙ append_assoc (octet_bits done) (octet y) (bits u next) ∙ ap (λ bs. octet_bits done ++ bs) (octet_across u left x lt) ∙ sym (append_assoc (octet_bits done) (bits u left) (octet x))
    ∙ ap (λ bs. bs ++ octet x) so_far ∙ append_assoc base (octet_bits front) (octet x)
    ∙ ap (λ bs. base ++ bs) (ap (λ bs. octet_bits front ++ bs) (sym (append-nil (octet x))) ∙ sym (octet_bits-append front (x ∷ [])))

-- behind those of a list
pub appended : (u left x i : ℕ) (base : List Bool) (items new more : List ℕ) → i < length more → x ≡ get_or more i 0 → x < 256 → new ≡ items ++ ((left * 256 + x) / 2 ^ u) ∷ []
    → octet_bits items ++ bits u left ≡ base ++ octet_bits (take i more) → octet_bits new ++ bits u ((left * 256 + x) % 2 ^ u) ≡ base ++ octet_bits (take (i + 1) more)
appended u left x i base items new more at here small is so_far =
    let front : take (i + 1) more ≡ take i more ++ x ∷ [] = take_more more i 0 at ∙ ap (λ y. take i more ++ y ∷ []) (sym here) in
    ap (λ ys. octet_bits ys ++ bits u ((left * 256 + x) % 2 ^ u)) is ∙ across_more u left x base items (take i more) small so_far ∙ ap (λ ys. base ++ octet_bits ys) (sym front)

-- in a buffer
pub carried : (u left x i : ℕ) (base : List Bool) (xs orig : List ℕ) → i < length xs → i < length orig → x ≡ get_or xs i 0 → x < 256 → drop i xs ≡ drop i orig
    → octet_bits (take i xs) ++ bits u left ≡ base ++ octet_bits (take i orig)
    → (drop (i + 1) (set xs i ((left * 256 + x) / 2 ^ u)) ≡ drop (i + 1) orig)
    × (octet_bits (take (i + 1) (set xs i ((left * 256 + x) / 2 ^ u))) ++ bits u ((left * 256 + x) % 2 ^ u) ≡ base ++ octet_bits (take (i + 1) orig))
carried u left x i base xs orig here there is small rest so_far =
    let v = (left * 256 + x) / 2 ^ u in
    let heads : get_or xs i 0 ∷ drop (i + 1) xs ≡ get_or orig i 0 ∷ drop (i + 1) orig = sym (drop_more xs i 0 here) ∙ rest ∙ drop_more orig i 0 there in
    let same : get_or xs i 0 ≡ get_or orig i 0 = cc in
    (drop-set-lt (i + 1) xs i v (omega arith) ∙ drop_more_same xs orig i rest, appended u left x i base (take i xs) _ orig there (is ∙ same) small (take_more_set xs i v here) so_far)

-- the bits ahead, where octets came from a source that tells what it has left, and each stands across two
pub fills : (position taken limit held left_over k position' : ℕ) (came filled octets : List ℕ) (old new : Option (List ℕ))
    → position' ≡ position + 8 * k → 8 * taken - position ≤ 7 → position ≤ 8 * taken → octet_bits filled ++ bits (8 * taken - position) left_over ≡ bits (8 * taken - position) held ++ octet_bits came
    → k ≡ length came → k ≤ limit - taken → Consumes old new (take k came) → old ≡ Some octets
    → ahead position taken held limit octets ≡ octet_bits filled ++ ahead position' (taken + k) left_over limit (drop (taken + k - taken) octets)
fills position taken limit held left_over k position' came filled octets old new moved few behind same count most comes is =
    let all_of : take k came ≡ came = take_all k came (omega (arith, count)) in
    let told = told_rest old new (take k came) octets comes is in
    let split : octets ≡ came ++ told.0 = told.2 ∙ ap (λ xs. xs ++ told.0) all_of in
    let room = limit - taken in
    let r : room ≡ length came + (room - k) = omega (arith, count, most) in
    let t : take room octets ≡ came ++ take (room - k) told.0 = ap (take room) split ∙ ap (λ n. take n (came ++ told.0)) r ∙ take-append-add came told.0 (room - k) in
    let e : taken + k - taken ≡ length came = omega (arith, count) in
    let back : drop (taken + k - taken) octets ≡ told.0 = ap (λ i. drop i octets) e ∙ ap (drop (length came)) split ∙ drop-append_seam came told.0 in
    let room_now : limit - (taken + k) ≡ room - k = omega arith in
    let held_now : 8 * (taken + k) - position' ≡ 8 * taken - position = omega (arith, moved) in
    ap (λ xs. bits (8 * taken - position) held ++ octet_bits xs) t ∙ ap (λ bs. bits (8 * taken - position) held ++ bs) (octet_bits-append came (take (room - k) told.0))
    ∙ sym (append_assoc (bits (8 * taken - position) held) (octet_bits came) _) ∙ ap (λ bs. bs ++ octet_bits (take (room - k) told.0)) (sym same)
    ∙ append_assoc (octet_bits filled) (bits (8 * taken - position) left_over) _
    ∙ ap (λ w. octet_bits filled ++ (bits w left_over ++ octet_bits (take (room - k) told.0))) (sym held_now)
    ∙ ap (λ n. octet_bits filled ++ (bits (8 * (taken + k) - position') left_over ++ octet_bits (take n told.0))) (sym room_now)
    ∙ ap (λ xs. octet_bits filled ++ (bits (8 * (taken + k) - position') left_over ++ octet_bits (take (limit - (taken + k)) xs))) (sym back)
