-- What was put, one behind the other, and in fragments.
use Rattle.std.proofs.Common.{◌≡◌, ℕ, ◌+◌, ◌-◌, ◌*◌, ◌<◌, ◌≤◌, Bool, true, false, List, [], ◌∷◌, ◌++◌, length, refl, sym, ap, ◌∙◌, subst, arith, append_assoc, take, drop, Result, Ok, Err, map}
use Rattle.std.specs.Prelude.{OnOk, ℤ}
use Rattle.std.proofs.lemmas.List.{length-append, length-drop, drop-drop, append-nil, take_rest}
use Rattle.base_codecs.specs.Bits.{bits, padding}
use Rattle.per_fields.specs.Fields.{gap_bits, head_bits, Writer, Last, Units, length_bits, counted_bits, in_turn, then_bits, units_of, large_bits, from_bits, signed_bits}
use Rattle.per_fields.specs.Widths.{width_of, more_of, distance, more_signed, complement}
use Rattle.per_fields.proofs.Fragments.{map-length, map-take, map-drop}
use Rattle.per_fields.proofs.FragmentSteps.{counted-last, counted-more}

pub on_ok : {A E : Type 0} (r : Result A E) {P Q : Type 0} → (P → Q) → OnOk r P → OnOk r Q
on_ok (Ok x) f h = f h
on_ok (Err e) f h = tt

pub then_put : (old mid new a b : List Bool) → mid ≡ old ++ a → new ≡ mid ++ b → new ≡ old ++ (a ++ b)
then_put old mid new a b p q = q ∙ ap (λ m. m ++ b) p ∙ append_assoc old a b

pub then_written : (old mid new a : List Bool) (w : Writer) → mid ≡ old ++ a → new ≡ mid ++ w (length mid) → new ≡ old ++ then_bits a w (length old)
then_written old mid new a w p q =
    let l : length mid ≡ length old + length a = ap length p ∙ length-append old a in
    then_put old mid new a (w (length mid)) p q ∙ ap (λ n. old ++ (a ++ w n)) l

-- the first of what is left was put
pub turn_taken : (old sink new : List Bool) (w : Writer) (ws : List Writer) → sink ++ in_turn (w ∷ ws) (length sink) ≡ old → new ≡ sink ++ w (length sink) → new ++ in_turn ws (length new) ≡ old
unfolding in_turn
turn_taken old sink new w ws so_far put = then_written sink new (new ++ in_turn ws (length new)) (w (length sink)) (in_turn ws) put refl ∙ so_far

-- nothing is left
pub nothing_left : (sink : List Bool) (p : ℕ) → sink ++ in_turn [] p ≡ sink
unfolding in_turn
nothing_left sink p = append-nil sink

-- a fragment was put: what is left behind it makes the whole
pub fragment_taken : (aligned : Bool) {A : Type 0} (f : A → Writer) (xs : List A) (k : ℕ) (old sink mid new : List Bool) → 16384 ≤ length xs → units_of (length xs) ≡ k
    → mid ≡ sink ++ head_bits aligned (Units k) (length sink) → new ≡ mid ++ in_turn (map f (take (k * 16384) xs)) (length mid)
    → sink ++ counted_bits aligned (map f xs) (length sink) ≡ old → new ++ counted_bits aligned (map f (drop (k * 16384) xs)) (length new) ≡ old
fragment_taken aligned f xs k old sink mid new long is head items so_far =
    let ws = map f xs in
    let p = length sink in
    let m : length ws ≡ length xs = map-length f xs in
    let us = take (k * 16384) ws in
    let rest = map f (drop (k * 16384) xs) in
    let whole = new ++ counted_bits aligned rest (length new) in
    let first : new ≡ mid ++ in_turn us (length mid) = items ∙ ap (λ vs. mid ++ in_turn vs (length mid)) (sym (map-take f (k * 16384) xs)) in
    let d : rest ≡ drop (k * 16384) ws = sym (map-drop f (k * 16384) xs) in
    let behind : whole ≡ mid ++ then_bits (in_turn us (length mid)) (counted_bits aligned rest) (length mid) = then_written mid new whole (in_turn us (length mid)) (counted_bits aligned rest) first refl in
    then_written sink mid whole (head_bits aligned (Units k) p) (λ r. then_bits (in_turn us r) (counted_bits aligned rest) r) head behind
    ∙ ap (λ vs. sink ++ then_bits (head_bits aligned (Units k) p) (λ r. then_bits (in_turn us r) (counted_bits aligned vs) r) p) d
    ∙ ap (λ bs. sink ++ bs) (sym (counted-more aligned ws p k (omega (arith, long, m)) (ap units_of m ∙ is))) ∙ so_far

-- the last length and what stands behind it were put
pub last_taken : (aligned : Bool) {A : Type 0} (f : A → Writer) (xs : List A) (old sink mid new : List Bool) → length xs < 16384
    → sink ++ counted_bits aligned (map f xs) (length sink) ≡ old → mid ≡ sink ++ head_bits aligned (Last (length xs)) (length sink)
    → new ≡ mid ++ in_turn (map f xs) (length mid) → new ≡ old
last_taken aligned f xs old sink mid new short so_far head items =
    let ws = map f xs in
    let p = length sink in
    let m : length ws ≡ length xs = map-length f xs in
    then_written sink mid new (head_bits aligned (Last (length xs)) p) (in_turn ws) head items
    ∙ ap (λ n. sink ++ then_bits (head_bits aligned (Last n) p) (in_turn ws) p) (sym m)
    ∙ ap (λ bs. sink ++ bs) (sym (counted-last aligned ws p (omega (arith, short, m)))) ∙ so_far

-- a fragment of the rest of a list from a number on was put
pub fragment_put : (aligned : Bool) {A : Type 0} (f : A → Writer) (xs : List A) (at k : ℕ) (old sink mid new : List Bool) → 16384 ≤ length xs - at → units_of (length xs - at) ≡ k
    → mid ≡ sink ++ head_bits aligned (Units k) (length sink) → new ≡ mid ++ in_turn (map f (take (at + k * 16384 - at) (drop at xs))) (length mid)
    → sink ++ counted_bits aligned (map f (drop at xs)) (length sink) ≡ old → new ++ counted_bits aligned (map f (drop (at + k * 16384) xs)) (length new) ≡ old
fragment_put aligned f xs at k old sink mid new long is head items so_far =
    let ys = drop at xs in
    let n : length ys ≡ length xs - at = length-drop at xs in
    let z : at + k * 16384 - at ≡ k * 16384 = omega arith in
    subst (λ zs. new ++ counted_bits aligned (map f zs) (length new) ≡ old) (drop-drop (k * 16384) at xs)
    (fragment_taken aligned f ys k old sink mid new (omega (arith, long, n)) (ap units_of n ∙ is) head (items ∙ ap (λ j. mid ++ in_turn (map f (take j ys)) (length mid)) z) so_far)

pub last_put : (aligned : Bool) {A : Type 0} (f : A → Writer) (xs : List A) (at : ℕ) (old sink mid new : List Bool) → length xs - at < 16384
    → sink ++ counted_bits aligned (map f (drop at xs)) (length sink) ≡ old → mid ≡ sink ++ head_bits aligned (Last (length xs - at)) (length sink)
    → new ≡ mid ++ in_turn (map f (take (length xs - at) (drop at xs))) (length mid) → new ≡ old
last_put aligned f xs at old sink mid new short so_far head put =
    let n : length (drop at xs) ≡ length xs - at = length-drop at xs in
    last_taken aligned f (drop at xs) old sink mid new (omega (arith, short, n)) so_far (head ∙ ap (λ j. sink ++ head_bits aligned (Last j) (length sink)) (sym n))
    (put ∙ ap (λ ys. mid ++ in_turn (map f ys) (length mid)) (take_rest xs at))

-- octets behind their length
pub counted_put : (aligned : Bool) (old a b new head octets : List Bool) → a ≡ old ++ gap_bits aligned (length old) → b ≡ a ++ head → new ≡ b ++ octets → new ≡ old ++ (gap_bits aligned (length old) ++ (head ++ octets))
counted_put aligned old a b new head octets e f g = then_put old a new (gap_bits aligned (length old)) (head ++ octets) e (then_put a b new head octets f g)

-- what is before a field, where something is, and where nothing is
pub gap_put : (aligned : Bool) (old new : List Bool) → aligned ≡ true → new ≡ old ++ padding (length old) → new ≡ old ++ gap_bits aligned (length old)
gap_put true old new e p = p
gap_put false old new e p = absurd cc

pub no_gap : (aligned : Bool) (old : List Bool) → aligned ≡ false → old ≡ old ++ gap_bits aligned (length old)
no_gap true old e = absurd cc
no_gap false old e = sym (append-nil old)

-- a number behind its octet count
pub large_put : (top x : ℕ) (old mid new : List Bool) → mid ≡ old ++ bits (width_of (more_of top)) (more_of x)
    → new ≡ mid ++ (padding (length mid) ++ bits (8 * (more_of x + 1)) x) → new ≡ old ++ large_bits top x (length old)
unfolding large_bits
large_put top x old mid new p q = then_written old mid new (bits (width_of (more_of top)) (more_of x)) (λ r. then_bits (padding r) (λ s. bits (8 * (more_of x + 1)) x) r) p q

-- a number from a least one, and one with its sign
pub from_put : (aligned : Bool) (least z : ℤ) (x behind : ℕ) (old a b new : List Bool) → x ≡ distance least z → behind ≡ more_of x → a ≡ old ++ gap_bits aligned (length old) → b ≡ a ++ length_bits (behind + 1)
    → new ≡ b ++ bits (8 * (behind + 1)) x → new ≡ old ++ from_bits aligned least z (length old)
unfolding from_bits
from_put aligned least z x behind old a b new is octets e f g =
    counted_put aligned old a b new (length_bits (behind + 1)) (bits (8 * (behind + 1)) x) e f g
    ∙ ap (λ k. old ++ (gap_bits aligned (length old) ++ (length_bits (k + 1) ++ bits (8 * (k + 1)) x))) octets
    ∙ ap (λ y. old ++ (gap_bits aligned (length old) ++ (length_bits (more_of y + 1) ++ bits (8 * (more_of y + 1)) y))) is

pub signed_put : (aligned : Bool) (z : ℤ) (behind x : ℕ) (old a b new : List Bool) → behind ≡ more_signed z → x ≡ complement (8 * (behind + 1)) z → a ≡ old ++ gap_bits aligned (length old)
    → b ≡ a ++ length_bits (behind + 1) → new ≡ b ++ bits (8 * (behind + 1)) x → new ≡ old ++ signed_bits aligned z (length old)
unfolding signed_bits
signed_put aligned z behind x old a b new octets is e f g =
    counted_put aligned old a b new (length_bits (behind + 1)) (bits (8 * (behind + 1)) x) e f g
    ∙ ap (λ y. old ++ (gap_bits aligned (length old) ++ (length_bits (behind + 1) ++ bits (8 * (behind + 1)) y))) is
    ∙ ap (λ k. old ++ (gap_bits aligned (length old) ++ (length_bits (k + 1) ++ bits (8 * (k + 1)) (complement (8 * (k + 1)) z)))) octets
