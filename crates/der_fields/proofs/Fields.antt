-- Lengths, contents and heads: what is written is read, and what is read was written.
use Rattle.std.proofs.Common.{◌≡◌, ℕ, zero, suc, ◌+◌, ◌-◌, ◌<◌, ◌≤◌, Bool, true, false, cond, eqb, ltb, not, ◌||◌, List, [], ◌∷◌, ◌++◌, length, drop, refl, sym, ap, ◌∙◌, subst, arith, Ok, inl, inr}
use Rattle.std.proofs.lemmas.Bool.{cases_lt, lt-ltb, le-ltb, ltb-false, ne_eqb, not-false}
use Rattle.std.proofs.lemmas.List.{drop-drop}
use Rattle.base_codecs.specs.declared.spots.Spot.{Spot}
use Rattle.base_codecs.specs.Reading.{◌>>=◌, Writer, then_write, moved, stop_if, with_spot, window_at, left_at}
use Rattle.base_codecs.specs.Codec.{most_nodes, Stands, Came, CodecBefore, Anything, Codec, Filling}
use Rattle.base_codecs.proofs.Codecs.{stop_ok, stop_not, ok_is, same_spot, split, behind, came-then, moved-again, then_codec, check_codec, other_words, other_reader, left_codec, window_codec}
use Rattle.base_codecs.proofs.Lists.{all_front, all_take, all_drop}
use Rattle.base_codecs.proofs.Sequences.{cond_true, cond_false}
use Rattle.der_fields.specs.declared.stops.Stop.{Stop}
use Rattle.der_fields.specs.declared.stops.Why.TheVariants.{Short, Tag, NotShortest}
use Rattle.der_fields.specs.Octets.{octets_of, value_from, length_octets, is_not_shortest, begins}
use Rattle.der_fields.specs.FieldsReading.{stop_at, AreOctets, Octets, raw_at, number_of, length_from, length_at, sized_at, tagged_at, expected_at}
use Rattle.der_fields.proofs.FieldsNumbers.{Leads, shape_of, octets_again}
use Rattle.der_fields.proofs.Heads.{begins_all, begins_parts}

-- what was taken of octets are octets
pub came_octets : (X : List ℕ) (s r : Spot) (found : List ℕ) (n : ℕ) → AreOctets X → Came X s r found n → AreOctets found
came_octets X s r found n all c = all_front (λ x. x < 256) found (drop r.at X) (subst AreOctets c.taken.parts (all_drop (λ x. x < 256) s.at X all))

-- a value that is read is told to be of octets
module _ {A : Type 0} (Rest : List ℕ → Type 0) (V : A → Type 0) (w : A → ℕ) (write : A → Writer ℕ) (read : Octets A) where
  pub octets_codec : CodecBefore AreOctets Rest V w write read → ((a : A) → V a → (p q : ℕ) → write a p ≡ write a q) → CodecBefore AreOctets Rest (λ a. V a × AreOctets (write a 0)) w write read
  octets_codec one same = record {
    again = λ X rest s a follows v few h. one.again X rest s a follows v.0 few h;
    takes = λ X s x fine inside e.
        let k = one.takes X s x fine inside e in
        (k.0, (k.1, subst AreOctets (same x.0 k.1 s.at 0) (came_octets X s x.1 (write x.0 s.at) (w x.0) fine k.0)), k.2);
  }

-- n octets
pub raw_field : (begin n : ℕ) → Codec AreOctets (λ xs. (length xs ≡ n) × AreOctets xs) (λ xs. 0) (λ xs p. xs) (raw_at begin n)
unfolding raw_at
raw_field begin n =
    other_words AreOctets Anything (λ xs. (Unit {0} × (length xs ≡ n)) × AreOctets xs) (λ xs. (length xs ≡ n) × AreOctets xs) (λ xs. 0) (λ xs. 0) (λ xs p. xs) (λ xs p. xs) (raw_at begin n)
    (octets_codec Anything (λ xs. Unit {0} × (length xs ≡ n)) (λ xs. 0) (λ xs p. xs) (raw_at begin n)
    (window_codec AreOctets (λ xs. Unit {0}) (λ xs. 0) (λ xs p. xs) left_at length (stop_at begin Short) n (all_take (λ x. x < 256)) (λ xs p. refl) (left_codec AreOctets)) (λ xs v p q. refl))
    (λ xs v. (((tt, v.0), v.1), refl, λ p. refl))
    (λ xs v. (v.0.1, v.1))

-- LENGTHS. The first octet, and those behind it.
abbrev length_first : ℕ → ℕ
length_first n = cond (ltb n 128) n (128 + length (octets_of 256 n))

abbrev length_rest : ℕ → List ℕ
length_rest n = cond (ltb n 128) [] (octets_of 256 n)

length_parts : (n : ℕ) → length_octets n ≡ length_first n ∷ length_rest n
length_parts n = by (ltb n 128)
  where
    by : (b : Bool) → cond b (n ∷ []) ((128 + length (octets_of 256 n)) ∷ octets_of 256 n) ≡ cond b n (128 + length (octets_of 256 n)) ∷ cond b [] (octets_of 256 n)
    by true = refl
    by false = refl

or_false : (a b : Bool) → (a || b) ≡ false → (a ≡ false) × (b ≡ false)
or_false false b e = (refl, e)
or_false true b e = absurd cc

-- the octets of a long form are the least of their value
least_again : (xs : List ℕ) → AreOctets xs → is_not_shortest xs ≡ false → (octets_of 256 (number_of xs) ≡ xs) × (128 ≤ number_of xs)
least_again [] all e = absurd cc
least_again (x ∷ xs) all e =
    let h = or_false (eqb x 0) (ltb (value_from x xs) 128) e in
    let some : 0 < x = by x h.0 in
    (octets_again 256 (omega arith) x xs all.0 (leads xs some) all.1, ltb-false (value_from x xs) 128 h.1)
  where
    by : (x : ℕ) → eqb x 0 ≡ false → 0 < x
    by zero e = absurd cc
    by (suc x) e = omega arith

    leads : (ys : List ℕ) → 0 < x → Leads 256 x ys
    leads [] some = tt
    leads (y ∷ ys) some = omega (arith, some)

-- and are shortest
again_least : (n : ℕ) → 128 ≤ n → (number_of (octets_of 256 n) ≡ n) × (is_not_shortest (octets_of 256 n) ≡ false) × AreOctets (octets_of 256 n)
again_least n ge =
    let k = shape_of 256 (omega arith) n in
    let value : number_of (octets_of 256 n) ≡ n = ap number_of k.is ∙ k.value in
    (value, ap is_not_shortest k.is ∙ both (eqb k.first 0) (ltb (value_from k.first k.others) 128) (some k.first k.others k.leads k.octets k.value) (le-ltb (value_from k.first k.others) 128 (omega (arith, ge, k.value))), subst AreOctets (sym k.is) (k.small, k.octets))
  where
    both : (a b : Bool) → a ≡ false → b ≡ false → (a || b) ≡ false
    both a b e f = rw e f

    some : (x : ℕ) (xs : List ℕ) → Leads 256 x xs → AreOctets xs → value_from x xs ≡ n → eqb x 0 ≡ false
    some x [] l all e = ne_eqb x 0 (omega (arith, ge, e))
    some x (y ∷ ys) l all e = ne_eqb x 0 (omega (arith, l, all.0))

-- behind the first octet
rest_field : (begin x : ℕ) → Codec AreOctets (λ n. Unit {0} × (length_first n ≡ x)) (λ n. 0) (λ n p. length_rest n) (length_from begin x)
unfolding length_from
rest_field begin x = elim (cases_lt x 128) [
  | inl small ↦ record {
    again = λ X rest s n any v few h.
        let low = below n small v.1 in
        cond_true (ltb x 128) (Ok (x, s)) (far X s) (lt-ltb x 128 small)
        ∙ ap (λ m. Ok (m, s)) (sym low.1)
        ∙ ap (λ r. Ok (n, r)) (same_spot s.at (s.at + length (length_rest n)) s.nodes (s.nodes + 0) (omega (arith, ap length low.2)) (omega arith));
    takes = λ X s y fine inside e.
        let same = ok_is {S = Stop} (x, s) y (sym (cond_true (ltb x 128) (Ok (x, s)) (far X s) (lt-ltb x 128 small)) ∙ e) in
        subst (λ (z : ℕ × Spot). Came X s z.1 (length_rest z.0) 0 × (Unit {0} × (length_first z.0 ≡ x)) × Unit {0}) same (
          record { taken = record { parts = ap (λ m. m ++ drop s.at X) (sym (cond_true (ltb x 128) [] (octets_of 256 x) (lt-ltb x 128 small))); end = omega (arith, ap length (cond_true (ltb x 128) [] (octets_of 256 x) (lt-ltb x 128 small))); inside = inside }; nodes = omega arith; few = λ h. h },
          (tt, cond_true (ltb x 128) x (128 + length (octets_of 256 x)) (lt-ltb x 128 small)),
          tt,
        );
  }
  | inr large ↦ other_reader AreOctets Anything (λ n. Unit {0} × (length_first n ≡ x)) (λ n. 0) (λ n p. length_rest n) far (length_from begin x) (long_field large) (λ X s. cond_false (ltb x 128) (Ok (x, s)) (far X s) (le-ltb x 128 large))
]
  where
    far : Octets ℕ
    far X s = raw_at begin (x - 128) X s >>= λ a. stop_if (is_not_shortest a.0) (stop_at begin NotShortest) (with_spot (number_of a.0) a.1)

    below : (n : ℕ) → x < 128 → length_first n ≡ x → (n < 128) × (n ≡ x) × (length_rest n ≡ [])
    below n small e = elim (cases_lt n 128) [
      | inl lt ↦ (lt, sym (cond_true (ltb n 128) n (128 + length (octets_of 256 n)) (lt-ltb n 128 lt)) ∙ e, cond_true (ltb n 128) [] (octets_of 256 n) (lt-ltb n 128 lt))
      | inr ge ↦ absurd (omega (arith, small, e, cond_false (ltb n 128) n (128 + length (octets_of 256 n)) (le-ltb n 128 ge)))
    ]

    above : (n : ℕ) → 128 ≤ x → length_first n ≡ x → (128 ≤ n) × (length (octets_of 256 n) ≡ x - 128) × (length_rest n ≡ octets_of 256 n)
    above n large e = elim (cases_lt n 128) [
      | inl lt ↦ absurd (omega (arith, lt, large, e, cond_true (ltb n 128) n (128 + length (octets_of 256 n)) (lt-ltb n 128 lt)))
      | inr ge ↦ (ge, omega (arith, e, cond_false (ltb n 128) n (128 + length (octets_of 256 n)) (le-ltb n 128 ge)), cond_false (ltb n 128) [] (octets_of 256 n) (le-ltb n 128 ge))
    ]

    long_field : 128 ≤ x → Codec AreOctets (λ n. Unit {0} × (length_first n ≡ x)) (λ n. 0) (λ n p. length_rest n) far
    long_field large =
        other_words AreOctets Anything (λ n. Unit {0} × (length_first n ≡ x)) (λ n. Unit {0} × (length_first n ≡ x)) (λ n. 0) (λ n. 0) (λ n p. octets_of 256 n) (λ n p. length_rest n) far
        (check_codec AreOctets Anything (λ xs. (length xs ≡ x - 128) × AreOctets xs) (λ xs. 0) (λ xs p. xs) (raw_at begin (x - 128)) (λ n. Unit {0} × (length_first n ≡ x)) (λ n. octets_of 256 n)
        (λ s a. stop_if (is_not_shortest a.0) (stop_at begin NotShortest) (with_spot (number_of a.0) a.1)) (raw_field begin (x - 128))
        (λ s r n v.
        let h = above n large v.1 in
        let l = again_least n h.0 in
        ((h.1, l.2), stop_not (is_not_shortest (octets_of 256 n)) (stop_at begin NotShortest) (with_spot (number_of (octets_of 256 n)) r) l.1 ∙ ap (λ m. with_spot m r) l.0))
        (λ s a y v e.
        let g = stop_ok (is_not_shortest a.0) (stop_at begin NotShortest) (with_spot (number_of a.0) a.1) y e in
        let l = least_again a.0 v.1 g.0 in
        let n = number_of a.0 in
        subst (λ (z : ℕ × Spot). (Unit {0} × (length_first z.0 ≡ x)) × (octets_of 256 z.0 ≡ a.0) × (z.1 ≡ a.1)) (ok_is {S = Stop} (n, a.1) y g.1)
        ((tt, cond_false (ltb n 128) n (128 + length (octets_of 256 n)) (le-ltb n 128 l.1) ∙ (omega (arith, ap length l.0, v.0, large))), l.0, refl)))
        (λ n v. (v, refl, λ p. (above n large v.1).2))
        (λ n v. v)

first_octet : Codec AreOctets (λ xs. length xs ≡ 1) (λ xs. 0) (λ xs p. xs) (λ X s. raw_at s.at 1 X s)
unfolding raw_at
first_octet = record {
  again = λ X rest s xs any v few h. (raw s.at).again X rest s xs tt (tt, v) few h;
  takes = λ X s x fine inside e. let k = (raw s.at).takes X s x fine inside e in (k.0, k.1.1, tt);
}
  where
    raw : (begin : ℕ) → Codec AreOctets (λ xs. Unit {0} × (length xs ≡ 1)) (λ xs. 0) (λ xs p. xs) (raw_at begin 1)
    raw begin = window_codec AreOctets (λ xs. Unit {0}) (λ xs. 0) (λ xs p. xs) left_at length (stop_at begin Short) 1 (all_take (λ x. x < 256)) (λ xs p. refl) (left_codec AreOctets)

only_one : (xs : List ℕ) → length xs ≡ 1 → xs ≡ number_of xs ∷ []
only_one [] e = absurd cc
only_one (x ∷ []) e = refl
only_one (x ∷ y ∷ ys) e = absurd (omega (arith, e))

head_is : (x y : ℕ) → x ∷ [] ≡ y ∷ [] → x ≡ y
head_is x y e = cc

pub length_field : Codec AreOctets (λ n. Unit {0}) (λ n. 0) (λ n p. length_octets n) length_at
unfolding length_at
length_field =
    other_words AreOctets Anything (λ n. Unit {0}) (λ n. Unit {0}) (λ n. 0 + 0) (λ n. 0) (λ n p. then_write (length_first n ∷ []) (λ q. length_rest n) p) (λ n p. length_octets n) length_at
    (then_codec AreOctets Anything (λ xs. length xs ≡ 1) (λ xs. 0) (λ xs p. xs) (λ X s. raw_at s.at 1 X s) (λ n. Unit {0}) (λ n. 0) (λ n p. length_rest n) (λ s xs. length_from s.at (number_of xs)) (λ n. length_first n ∷ [])
    first_octet (λ n v. refl)
    (λ s xs one.
    let x = number_of xs in
    other_words AreOctets Anything (λ n. Unit {0} × (length_first n ≡ x)) (λ n. Unit {0} × (length_first n ∷ [] ≡ xs)) (λ n. 0) (λ n. 0) (λ n p. length_rest n) (λ n p. length_rest n) (length_from s.at x) (rest_field s.at x)
    (λ n v. ((tt, head_is (length_first n) x (v.1 ∙ only_one xs one)), refl, λ p. refl))
    (λ n v. (tt, ap (λ m. m ∷ []) v.1 ∙ sym (only_one xs one)))))
    (λ n v. (tt, omega arith, λ p. length_parts n))
    (λ n v. tt)

-- CONTENTS behind their length
module _ {A : Type 0} (V : A → Type 0) (w : A → ℕ) (octets : A → List ℕ) (contents : Octets A) where
  pub sized_codec : Filling AreOctets V w (λ a p. octets a) contents → Codec AreOctets V w (λ a p. length_octets (length (octets a)) ++ octets a) (sized_at contents)
  unfolding sized_at
  sized_codec one =
      other_words AreOctets Anything V V (λ a. 0 + w a) w (λ a p. then_write (length_octets (length (octets a))) (λ q. octets a) p) (λ a p. length_octets (length (octets a)) ++ octets a) (sized_at contents)
      (then_codec AreOctets Anything (λ n. Unit {0}) (λ n. 0) (λ n p. length_octets n) length_at V w (λ a p. octets a) (λ s n. window_at (stop_at s.at Short) n contents) (λ a. length (octets a))
      length_field (λ a v. tt)
      (λ s n any. window_codec AreOctets V w (λ a p. octets a) contents (λ a. length (octets a)) (stop_at s.at Short) n (all_take (λ x. x < 256)) (λ a p. refl) one))
      (λ a v. (v, omega arith, λ p. refl))
      (λ a v. v)

-- HEADS
not_true : (b : Bool) → b ≡ true → not b ≡ false
not_true b e = ap not e

module _ {A : Type 0} (Rest : List ℕ → Type 0) (V : A → Type 0) (w : A → ℕ) (octets : A → List ℕ) (head : List ℕ) (read : Octets A) where
  pub tagged_codec : CodecBefore AreOctets Rest V w (λ a p. octets a) read → CodecBefore AreOctets Rest V w (λ a p. head ++ octets a) (tagged_at head read)
  unfolding tagged_at
  tagged_codec one = record { again = again; takes = takes }
    where
      again : (X rest : List ℕ) (s : Spot) (a : A) → Rest rest → V a → s.nodes + w a ≤ most_nodes → Stands X s.at (head ++ octets a) rest
          → stop_if (not (begins head (drop s.at X))) (stop_at s.at Tag) (read X (moved s (length head) 0)) ≡ Ok (a, moved s (length (head ++ octets a)) (w a))
      again X rest s a follows v few h =
          let q = split X s.at head (octets a) rest h in
          let there : begins head (drop s.at X) ≡ true = ap (begins head) q.0.is ∙ begins_all head (octets a ++ rest) in
          stop_not (not (begins head (drop s.at X))) (stop_at s.at Tag) (read X (moved s (length head) 0)) (not_true (begins head (drop s.at X)) there)
          ∙ one.again X rest (moved s (length head) 0) a follows v (omega (arith, few)) q.1
          ∙ ap (λ r. Ok (a, r)) (moved-again s head (octets a) 0 (w a) ∙ same_spot (s.at + length (head ++ octets a)) (s.at + length (head ++ octets a)) (s.nodes + (0 + w a)) (s.nodes + w a) refl (omega arith))

      takes : (X : List ℕ) (s : Spot) (x : A × Spot) → AreOctets X → s.at ≤ length X → stop_if (not (begins head (drop s.at X))) (stop_at s.at Tag) (read X (moved s (length head) 0)) ≡ Ok x
          → Came X s x.1 (head ++ octets x.0) (w x.0) × V x.0 × Rest (drop x.1.at X)
      takes X s x fine inside e =
          let g = stop_ok (not (begins head (drop s.at X))) (stop_at s.at Tag) (read X (moved s (length head) 0)) x e in
          let cut = begins_parts head (drop s.at X) (not-false (begins head (drop s.at X)) g.0) in
          let back : drop (length head) (drop s.at X) ≡ drop (s.at + length head) X = drop-drop (length head) s.at X in
          let st : Stands X s.at head (drop (length head) (drop s.at X)) = record { inside = inside; is = cut } in
          let b = behind X s.at head (drop (length head) (drop s.at X)) st in
          let r = moved s (length head) 0 in
          let first : Came X s r head 0 = record { taken = record { parts = cut ∙ ap (λ m. head ++ m) back; end = refl; inside = b.inside }; nodes = refl; few = λ h. omega (arith, h) } in
          let k = one.takes X r x fine b.inside g.1 in
          let all = came-then X s r x.1 head (octets x.0) 0 (w x.0) first k.0 in
          (record { taken = all.taken; nodes = omega (arith, all.nodes); few = all.few }, k.1, k.2)

module _ {A : Type 0} (Rest : List ℕ → Type 0) (V : A → Type 0) (w : A → ℕ) (write : A → Writer ℕ) (head : List ℕ) (read : Octets A) where
  pub expected_codec : CodecBefore AreOctets Rest V w write read → ((a : A) (p : ℕ) (rest : List ℕ) → V a → begins head (write a p ++ rest) ≡ true) → CodecBefore AreOctets Rest V w write (expected_at head read)
  unfolding expected_at
  expected_codec one heads = record {
    again = λ X rest s a follows v few h.
        stop_not (not (begins head (drop s.at X))) (stop_at s.at Tag) (read X s) (not_true (begins head (drop s.at X)) (ap (begins head) h.is ∙ heads a s.at rest v)) ∙ one.again X rest s a follows v few h;
    takes = λ X s x fine inside e. one.takes X s x fine inside (stop_ok (not (begins head (drop s.at X))) (stop_at s.at Tag) (read X s) x e).1;
  }
