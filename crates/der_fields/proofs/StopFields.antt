-- Lengths, and contents without nodes, stop where reading them stops.
use Rattle.std.proofs.Common.{◌≡◌, ℕ, ◌+◌, ◌-◌, ◌<◌, ◌≤◌, Bool, true, false, eqb, ltb, not, ◌&&◌, ◌||◌, ℤ, Option, Some, None, List, [], ◌∷◌, ◌++◌, length, take, drop, refl, sym, ap, ◌∙◌, subst, arith, Result, Ok, Err, inl, inr, ◌⊎◌}
use Rattle.std.proofs.lemmas.Bool.{cases_lt, lt-ltb, le-ltb, eqb-true}
use Rattle.std.proofs.lemmas.List.{length-drop, length-take-le, drop-take, drop-drop, drop_all, append-nil}
use Rattle.base_trees.specs.Rose.{Rose}
use Rattle.simple_types.specs.declared.labels.ValueLabel.{ValueLabel}
use Rattle.simple_types.specs.declared.labels.ValueLabel.TheVariants as value
use Rattle.simple_types.specs.Lexical.{is_128_bits, is_from, is_to}
use Rattle.asn_types.specs.declared.types.Form.{Form}
use Rattle.base_codecs.specs.declared.spots.Spot.{Spot}
use Rattle.base_codecs.specs.Reading.{◌>>=◌, moved, stop_if, with_spot, window_at, left_at}
use Rattle.base_codecs.specs.Codec.{Came, Anything, Nothing}
use Rattle.base_codecs.proofs.Lists.{all_take}
use Rattle.base_codecs.proofs.Sequences.{cond_true, cond_false}
use Rattle.base_codecs.proofs.Steps.{Iff, Told, Inside, err_is, stop_err, err_stop, err_later, none_stops, map_told, then_told}
use Rattle.base_codecs.proofs.Told.{window_told}
use Rattle.der_fields.specs.declared.stops.Stop.{Stop}
use Rattle.der_fields.specs.declared.stops.Why.{Why}
use Rattle.der_fields.specs.declared.stops.Why.TheVariants.{Short, NotShortest, Content, TooWide, Range}
use Rattle.der_fields.specs.Octets.{length_octets, signed_octets, signed_value, are_nine_equal, is_not_shortest}
use Rattle.der_fields.specs.FieldsReading.{stop_at, AreOctets, Octets, raw_at, number_of, length_from, length_at, sized_at}
use Rattle.der_fields.proofs.Fields.{length_field}
use Rattle.der_fields.specs.Encoding.{item_number}
use Rattle.der_fields.specs.Reading.{leaf_of, bool_of, bool_at, whole_of, whole_at, int_of, int_at, item_with, item_of, item_at, enum_at}
use Rattle.der_fields.proofs.Numbers.{IsWhole, whole_codec, HasItems}
use Rattle.der_fields.specs.Faults.{LengthFault, IsBoolean, BooleanFault, WholeFault, IntegerFault}
use Rattle.der_fields.specs.Stopping.{LeftStops, SizedStops}

abbrev stops : {A : Type 0} → Stop → Result A Stop
stops stop = Err stop

same_stop : {A : Type 0} (d stop : Stop) → stops {A = A} d ≡ Err stop → stop ≡ d
same_stop {A = A} d stop e = sym (err_is (stops {A = A} d) d stop refl e)

-- LENGTHS
raw_short : (begin n : ℕ) (X : List ℕ) (s : Spot) → length X < s.at + n → raw_at begin n X s ≡ Err (stop_at begin Short)
unfolding raw_at window_at
raw_short begin n X s short = ap (λ b. stop_if b (stop_at begin Short) (left_at (take (s.at + n) X) s)) (lt-ltb (length X) (s.at + n) short)

raw_is : (begin n : ℕ) (X : List ℕ) (s : Spot) → s.at + n ≤ length X → raw_at begin n X s ≡ Ok (take n (drop s.at X), moved s n 0)
unfolding raw_at window_at left_at
raw_is begin n X s all =
    let Y = take (s.at + n) X in
    let cut : drop s.at Y ≡ take n (drop s.at X) = drop-take s.at n X in
    let long : length (drop s.at Y) ≡ n = ap length cut ∙ length-take-le n (drop s.at X) (omega (arith, length-drop s.at X, all)) in
    ap (λ b. stop_if b (stop_at begin Short) (with_spot (drop s.at Y) (moved s (length (drop s.at Y)) 0))) (le-ltb (length X) (s.at + n) all)
    ∙ ap (λ k. with_spot (drop s.at Y) (moved s k 0)) long ∙ ap (λ ys. with_spot ys (moved s n 0)) cut

abbrev LengthStops : List ℕ → Spot → Stop → Type 0
LengthStops ys s stop = (why : Why) × LengthFault ys why × (stop ≡ stop_at s.at why)

-- behind its first octet
far_told : (x : ℕ) (xs X : List ℕ) (s r : Spot) (stop : Stop) → 128 ≤ x → drop r.at X ≡ xs → r.at ≤ length X → Iff (length_from s.at x X r ≡ Err stop) (LengthStops (x ∷ xs) s stop)
unfolding length_from
far_told x xs X s r stop large behind inside = (λ e. forth (sym (cond_false (ltb x 128) (Ok (x, r)) far (le-ltb x 128 large)) ∙ e), λ h. cond_false (ltb x 128) (Ok (x, r)) far (le-ltb x 128 large) ∙ back h)
  where
    n : ℕ
    n = x - 128

    left : length xs ≡ length X - r.at
    left = ap length (sym behind) ∙ length-drop r.at X

    check : List ℕ × Spot → Result (ℕ × Spot) Stop
    check a = stop_if (is_not_shortest a.0) (stop_at s.at NotShortest) (with_spot (number_of a.0) a.1)

    far : Result (ℕ × Spot) Stop
    far = raw_at s.at n X r >>= check

    found : r.at + n ≤ length X → far ≡ check (take n xs, moved r n 0)
    found all = ap (λ q. q >>= check) (raw_is s.at n X r all) ∙ ap (λ ys. check (take n ys, moved r n 0)) behind

    forth : far ≡ Err stop → LengthStops (x ∷ xs) s stop
    forth e = elim (cases_lt (length X) (r.at + n)) [
      | inl short ↦ (Short, (large, inl (omega (arith, short, left, inside), refl)), same_stop {A = ℕ × Spot} (stop_at s.at Short) stop (sym (ap (λ q. q >>= check) (raw_short s.at n X r short)) ∙ e))
      | inr all ↦ (elim (stop_err (is_not_shortest (take n xs)) (stop_at s.at NotShortest) (with_spot (number_of (take n xs)) (moved r n 0)) stop (sym (found all) ∙ e)) [
        | inl h ↦ (NotShortest, (large, inr (omega (arith, all, left), h.0, refl)), h.1)
        | inr h ↦ none_stops {S = Stop} (number_of (take n xs)) (moved r n 0) stop h.1
      ])
    ]

    back : LengthStops (x ∷ xs) s stop → far ≡ Err stop
    back (why, (ge, inl h), is) = ap (λ q. q >>= check) (raw_short s.at n X r (omega (arith, h.0, left))) ∙ ap Err (sym (is ∙ ap (stop_at s.at) h.1))
    back (why, (ge, inr h), is) =
        found (omega (arith, h.0, left, inside)) ∙ err_stop (is_not_shortest (take n xs)) (stop_at s.at NotShortest) stop (with_spot (number_of (take n xs)) (moved r n 0)) h.1 (is ∙ ap (stop_at s.at) h.2)

near_told : (x : ℕ) (xs X : List ℕ) (s r : Spot) (stop : Stop) → x < 128 → Iff (length_from s.at x X r ≡ Err stop) (LengthStops (x ∷ xs) s stop)
unfolding length_from
near_told x xs X s r stop lt = (λ f. none_stops {S = Stop} x r stop (sym (cond_true (ltb x 128) (Ok (x, r)) _ (lt-ltb x 128 lt)) ∙ f), λ h. absurd (omega (arith, lt, h.1.0)))

length_told : (X : List ℕ) (s : Spot) (stop : Stop) → s.at ≤ length X → Iff (length_at X s ≡ Err stop) (LeftStops X LengthFault s stop)
unfolding length_at
length_told X s stop inside = by (drop s.at X) refl
  where
    first : List ℕ × Spot → Result (ℕ × Spot) Stop
    first x = length_from s.at (number_of x.0) X x.1

    left : length (drop s.at X) ≡ length X - s.at
    left = length-drop s.at X

    by : (ys : List ℕ) → drop s.at X ≡ ys → Iff ((raw_at s.at 1 X s >>= first) ≡ Err stop) (LeftStops X LengthFault s stop)
    by [] e = subst (λ ys. Iff ((raw_at s.at 1 X s >>= first) ≡ Err stop) (LengthStops ys s stop)) (sym e) (forth, back)
      where
        none : (raw_at s.at 1 X s >>= first) ≡ Err (stop_at s.at Short)
        none = ap (λ q. q >>= first) (raw_short s.at 1 X s (omega (arith, left, ap length e)))

        forth : (raw_at s.at 1 X s >>= first) ≡ Err stop → LengthStops [] s stop
        forth f = (Short, refl, same_stop {A = ℕ × Spot} (stop_at s.at Short) stop (sym none ∙ f))

        back : LengthStops [] s stop → (raw_at s.at 1 X s >>= first) ≡ Err stop
        back (why, is, told) = none ∙ ap Err (sym (told ∙ ap (stop_at s.at) is))
    by (x ∷ xs) e = subst (λ ys. Iff ((raw_at s.at 1 X s >>= first) ≡ Err stop) (LengthStops ys s stop)) (sym e) (at (cases_lt x 128))
      where
        r : Spot
        r = moved s 1 0

        within : s.at + 1 ≤ length X
        within = omega (arith, left, ap length e, inside)

        behind : drop (s.at + 1) X ≡ xs
        behind = sym (drop-drop 1 s.at X) ∙ ap (drop 1) e

        one : (raw_at s.at 1 X s >>= first) ≡ length_from s.at x X r
        one = ap (λ q. q >>= first) (raw_is s.at 1 X s within) ∙ ap (λ ys. first (take 1 ys, r)) e

        at : (x < 128) ⊎ (128 ≤ x) → Iff ((raw_at s.at 1 X s >>= first) ≡ Err stop) (LengthStops (x ∷ xs) s stop)
        at (inl lt) = let k = near_told x xs X s r stop lt in (λ f. k.0 (sym one ∙ f), λ h. one ∙ k.1 h)
        at (inr ge) = let k = far_told x xs X s r stop ge behind within in (λ f. k.0 (sym one ∙ f), λ h. one ∙ k.1 h)

-- A LENGTH, and contents that fill it
module _ {A : Type 0} (contents : Octets A) (C C' : List ℕ → Spot → Stop → Type 0) (X : List ℕ) (fine : AreOctets X) (s : Spot) (stop : Stop) (inside : Inside X s)
    (known : (Y : List ℕ) (r : Spot) → AreOctets Y → Inside Y r → Told (contents Y r ≡ Err stop) (C Y r stop) (C' Y r stop)) where
  pub sized_told : Told (sized_at contents X s ≡ Err stop) (SizedStops C X s stop) (SizedStops C' X s stop)
  unfolding sized_at
  sized_told = (λ e. forth (told.0 e), λ h. told.1 (back h))
    where
      Next : (List ℕ → Spot → Stop → Type 0) → ℕ → Spot → Type 0
      Next D n r = ((length X < r.at + n) × (stop ≡ stop_at s.at Short)) ⊎ ((r.at + n ≤ length X) × D (take (r.at + n) X) r stop)

      Behind : (List ℕ → Spot → Stop → Type 0) → Type 0
      Behind D = (n : ℕ) × (r : Spot) × Unit {0} × Came X s r (length_octets n) 0 × Unit {0} × Next D n r

      window : (n : ℕ) (r : Spot) → Inside X r → Told (window_at (stop_at s.at Short) n contents X r ≡ Err stop) (Next C n r) (Next C' n r)
      window n r in_ = (λ e. on (w.0 e), λ h. w.1 (off h))
        where
          w : Iff (window_at (stop_at s.at Short) n contents X r ≡ Err stop) (((length X < r.at + n) × (stop ≡ stop_at s.at Short)) ⊎ ((r.at + n ≤ length X) × (contents (take (r.at + n) X) r ≡ Err stop)))
          w = window_told (stop_at s.at Short) n contents X r stop

          within : r.at + n ≤ length X → Inside (take (r.at + n) X) r
          within le = (omega (arith, length-take-le (r.at + n) X le), in_.1)

          on : ((length X < r.at + n) × (stop ≡ stop_at s.at Short)) ⊎ ((r.at + n ≤ length X) × (contents (take (r.at + n) X) r ≡ Err stop)) → Next C n r
          on (inl h) = inl h
          on (inr h) = inr (h.0, (known (take (r.at + n) X) r (all_take (λ x. x < 256) (r.at + n) X fine) (within h.0)).0 h.1)

          off : Next C' n r → ((length X < r.at + n) × (stop ≡ stop_at s.at Short)) ⊎ ((r.at + n ≤ length X) × (contents (take (r.at + n) X) r ≡ Err stop))
          off (inl h) = inl h
          off (inr h) = inr (h.0, (known (take (r.at + n) X) r (all_take (λ x. x < 256) (r.at + n) X fine) (within h.0)).1 h.1)

      told : Told ((length_at X s >>= λ n. window_at (stop_at s.at Short) n.0 contents X n.1) ≡ Err stop) (LeftStops X LengthFault s stop ⊎ Behind C) (LeftStops X LengthFault s stop ⊎ Behind C')
      told =
          then_told AreOctets Anything X fine (λ n. Unit {0}) (λ n. 0) (λ n p. length_octets n) length_at length_field (λ n. window_at (stop_at s.at Short) n.0 contents X n.1) (LeftStops X LengthFault s stop) (LeftStops X LengthFault s stop) (Next C) (Next C') s stop inside
          (length_told X s stop inside.0)
          (λ n r any in_. window n r in_)

      forth : LeftStops X LengthFault s stop ⊎ Behind C → SizedStops C X s stop
      forth (inl h) = inl h
      forth (inr k) = inr (k.0, k.1, k.3, k.5)

      back : SizedStops C' X s stop → LeftStops X LengthFault s stop ⊎ Behind C'
      back (inl h) = inl h
      back (inr k) = inr (k.0, k.1, tt, k.2, tt, k.3)

-- CONTENTS THAT ARE OCTETS
module _ (X : List ℕ) (s : Spot) (stop : Stop) where
  abbrev all : List ℕ
  all = drop s.at X

  abbrev end : Spot
  end = moved s (length (drop s.at X)) 0

  -- BOOLEAN
  boolean_by : (ys : List ℕ) (r : Spot) → Iff (bool_of s (ys, r) ≡ Err stop) ((why : Why) × BooleanFault ys why × (stop ≡ stop_at s.at why))
  boolean_by [] r = (λ e. (Content, (λ h. none h, refl), same_stop {A = Rose ValueLabel × Spot} (stop_at s.at Content) stop e), λ h. ap Err (sym (h.2 ∙ ap (stop_at s.at) h.1.1)))
    where
      none : IsBoolean [] → ⊥
      none (inl e) = cc
      none (inr e) = cc
  boolean_by (x ∷ y ∷ ys) r = (λ e. (Content, (λ h. more_than h, refl), same_stop {A = Rose ValueLabel × Spot} (stop_at s.at Content) stop e), λ h. ap Err (sym (h.2 ∙ ap (stop_at s.at) h.1.1)))
    where
      more_than : IsBoolean (x ∷ y ∷ ys) → ⊥
      more_than (inl e) = cc
      more_than (inr e) = cc
  boolean_by (x ∷ []) r = (forth, back)
    where
      is_two : (x : ℕ) → (eqb x 0x00 || eqb x 0xFF) ≡ true → IsBoolean (x ∷ [])
      is_two x e = by (eqb x 0) (eqb x 255) refl refl e
        where
          by : (a b : Bool) → eqb x 0 ≡ a → eqb x 255 ≡ b → (a || b) ≡ true → IsBoolean (x ∷ [])
          by true b f g h = inl (ap (λ y. y ∷ []) (eqb-true x 0 f))
          by false true f g h = inr (ap (λ y. y ∷ []) (eqb-true x 255 g))
          by false false f g h = absurd cc

      two_is : IsBoolean (x ∷ []) → (eqb x 0x00 || eqb x 0xFF) ≡ true
      two_is (inl e) = let same : x ≡ 0 = cc in ap (λ y. eqb y 0x00 || eqb y 0xFF) same
      two_is (inr e) = let same : x ≡ 255 = cc in ap (λ y. eqb y 0x00 || eqb y 0xFF) same

      forth : bool_of s (x ∷ [], r) ≡ Err stop → (why : Why) × BooleanFault (x ∷ []) why × (stop ≡ stop_at s.at why)
      forth e = elim (stop_err (not (eqb x 0x00 || eqb x 0xFF)) (stop_at s.at Content) (with_spot (leaf_of (value.Bool (eqb x 0xFF))) r) stop e) [
        | inl h ↦ (Content, (λ k. let f : false ≡ true = sym (ap not (two_is k)) ∙ h.0 in cc, refl), h.1)
        | inr h ↦ none_stops {S = Stop} (leaf_of (value.Bool (eqb x 0xFF))) r stop h.1
      ]

      back : (why : Why) × BooleanFault (x ∷ []) why × (stop ≡ stop_at s.at why) → bool_of s (x ∷ [], r) ≡ Err stop
      back h = by (eqb x 0x00 || eqb x 0xFF) refl
        where
          by : (b : Bool) → (eqb x 0x00 || eqb x 0xFF) ≡ b → stop_if (not (eqb x 0x00 || eqb x 0xFF)) (stop_at s.at Content) (with_spot (leaf_of (value.Bool (eqb x 0xFF))) r) ≡ Err stop
          by true e = absurd (h.1.0 (is_two x e))
          by false e = err_stop (not (eqb x 0x00 || eqb x 0xFF)) (stop_at s.at Content) stop (with_spot (leaf_of (value.Bool (eqb x 0xFF))) r) (ap not e) (h.2 ∙ ap (stop_at s.at) h.1.1)

  pub boolean_told : Iff (bool_at X s ≡ Err stop) (LeftStops X BooleanFault s stop)
  unfolding bool_at left_at
  boolean_told = boolean_by (drop s.at X) (moved s (length (drop s.at X)) 0)

  -- WHOLE NUMBERS
  whole_by : (ys : List ℕ) (r : Spot) → Iff (whole_of s (ys, r) ≡ Err stop) ((why : Why) × WholeFault ys why × (stop ≡ stop_at s.at why))
  whole_by [] r = (λ e. (Content, inl (refl, refl), same_stop {A = ℤ × Spot} (stop_at s.at Content) stop e), back)
    where
      back : (why : Why) × WholeFault [] why × (stop ≡ stop_at s.at why) → whole_of s ([], r) ≡ Err stop
      back (why, inl h, is) = ap Err (sym (is ∙ ap (stop_at s.at) h.1))
      back (why, inr (inl h), is) = absurd (omega (arith, h.0))
      back (why, inr (inr h), is) = absurd (omega (arith, h.0))
  whole_by (x ∷ xs) r = (forth, back)
    where
      ys : List ℕ
      ys = x ∷ xs

      some : 0 < length (x ∷ xs)
      some = omega arith

      wide : Result (ℤ × Spot) Stop
      wide = stop_if (not (is_128_bits (signed_value (x ∷ xs)))) (stop_at s.at TooWide) (with_spot (signed_value (x ∷ xs)) r)

      not_true : (b : Bool) → not b ≡ true → b ≡ false
      not_true true e = absurd cc
      not_true false e = refl

      forth : stop_if (are_nine_equal (x ∷ xs)) (stop_at s.at NotShortest) wide ≡ Err stop → (why : Why) × WholeFault (x ∷ xs) why × (stop ≡ stop_at s.at why)
      forth e = elim (stop_err (are_nine_equal (x ∷ xs)) (stop_at s.at NotShortest) wide stop e) [
        | inl h ↦ (NotShortest, inr (inl (some, h.0, refl)), h.1)
        | inr h ↦ (elim (stop_err (not (is_128_bits (signed_value (x ∷ xs)))) (stop_at s.at TooWide) (with_spot (signed_value (x ∷ xs)) r) stop h.1) [
          | inl k ↦ (TooWide, inr (inr (some, h.0, not_true (is_128_bits (signed_value (x ∷ xs))) k.0, refl)), k.1)
          | inr k ↦ none_stops {S = Stop} (signed_value (x ∷ xs)) r stop k.1
        ])
      ]

      back : (why : Why) × WholeFault (x ∷ xs) why × (stop ≡ stop_at s.at why) → stop_if (are_nine_equal (x ∷ xs)) (stop_at s.at NotShortest) wide ≡ Err stop
      back (why, inl h, is) = absurd (omega (arith, ap length h.0))
      back (why, inr (inl h), is) = err_stop (are_nine_equal (x ∷ xs)) (stop_at s.at NotShortest) stop wide h.1 (is ∙ ap (stop_at s.at) h.2)
      back (why, inr (inr h), is) =
          err_later (are_nine_equal (x ∷ xs)) (stop_at s.at NotShortest) stop wide h.1
          (err_stop (not (is_128_bits (signed_value (x ∷ xs)))) (stop_at s.at TooWide) stop (with_spot (signed_value (x ∷ xs)) r) (ap not h.2) (is ∙ ap (stop_at s.at) h.3))

  pub whole_told : Iff (whole_at X s ≡ Err stop) (LeftStops X WholeFault s stop)
  unfolding whole_at left_at
  whole_told = whole_by (drop s.at X) (moved s (length (drop s.at X)) 0)

  -- what fills the contents
  filled : (r : Spot) (found : List ℕ) (n : ℕ) → Came X s r found n → drop r.at X ≡ [] → drop s.at X ≡ found
  filled r found n c e = c.taken.parts ∙ ap (λ ys. found ++ ys) e ∙ append-nil found

  fills : (found : List ℕ) → Inside X s → drop s.at X ≡ found → Came X s (moved s (length found) 0) found 0 × (drop (s.at + length found) X ≡ [])
  fills found inside e =
      let long : length found ≡ length X - s.at = ap length (sym e) ∙ length-drop s.at X in
      let none : drop (s.at + length found) X ≡ [] = drop_all (s.at + length found) X (omega (arith, long)) in
      (record { taken = record { parts = e ∙ sym (append-nil found) ∙ ap (λ ys. found ++ ys) (sym none); end = refl; inside = omega (arith, long, inside.0) }; nodes = refl; few = λ h. omega (arith, h) }, none)

  -- a number that has a fault of its own
  module _ {B : Type 0} (inside : Inside X s) (fine : AreOctets X) (f : ℤ × Spot → Result B Stop) (Bad : ℤ → Type 0) (told : (z : ℤ) (r : Spot) → IsWhole z → Iff (f (z, r) ≡ Err stop) (Bad z × (stop ≡ stop_at s.at Range))) where
    abbrev Fault : List ℕ → Why → Type 0
    Fault ys why = WholeFault ys why ⊎ ((z : ℤ) × (is_128_bits z ≡ true) × (ys ≡ signed_octets z) × Bad z × (why ≡ Range))

    ranged_told : Iff ((whole_at X s >>= f) ≡ Err stop) (LeftStops X Fault s stop)
    ranged_told = (λ e. forth (both.0 e), λ h. both.1 (back h))
      where
        Next : ℤ → Spot → Type 0
        Next z r = Bad z × (stop ≡ stop_at s.at Range)

        Behind : Type 0
        Behind = (z : ℤ) × (r : Spot) × IsWhole z × Came X s r (signed_octets z) 0 × (drop r.at X ≡ []) × Next z r

        both : Told ((whole_at X s >>= f) ≡ Err stop) (LeftStops X WholeFault s stop ⊎ Behind) (LeftStops X WholeFault s stop ⊎ Behind)
        both = then_told AreOctets Nothing X fine IsWhole (λ z. 0) (λ z p. signed_octets z) whole_at whole_codec f (LeftStops X WholeFault s stop) (LeftStops X WholeFault s stop) Next Next s stop inside whole_told (λ z r whole in_. told z r whole)

        forth : LeftStops X WholeFault s stop ⊎ Behind → LeftStops X Fault s stop
        forth (inl h) = (h.0, inl h.1, h.2)
        forth (inr k) = (Range, inr (k.0, k.2, filled k.1 (signed_octets k.0) 0 k.3 k.4, k.5.0, refl), k.5.1)

        back : LeftStops X Fault s stop → LeftStops X WholeFault s stop ⊎ Behind
        back (why, inl h, is) = inl (why, h, is)
        back (why, inr h, is) =
            let k = fills (signed_octets h.0) inside h.2 in
            inr (h.0, moved s (length (signed_octets h.0)) 0, h.1, k.0, k.1, (h.3, is ∙ ap (stop_at s.at) h.4))

  pub integer_told : (least greatest : Option ℤ) → Inside X s → AreOctets X → Iff (int_at least greatest X s ≡ Err stop) (LeftStops X (IntegerFault least greatest) s stop)
  unfolding int_at
  integer_told least greatest inside fine = ranged_told inside fine (int_of least greatest s) (λ z. (is_from least z && is_to greatest z) ≡ false) told
    where
      not_true : (b : Bool) → not b ≡ true → b ≡ false
      not_true true e = absurd cc
      not_true false e = refl

      told : (z : ℤ) (r : Spot) → IsWhole z → Iff (int_of least greatest s (z, r) ≡ Err stop) (((is_from least z && is_to greatest z) ≡ false) × (stop ≡ stop_at s.at Range))
      told z r whole = (forth, λ h. err_stop (not (is_from least z && is_to greatest z)) (stop_at s.at Range) stop (with_spot (leaf_of (value.Int z)) r) (ap not h.0) h.1)
        where
          forth : int_of least greatest s (z, r) ≡ Err stop → ((is_from least z && is_to greatest z) ≡ false) × (stop ≡ stop_at s.at Range)
          forth e = elim (stop_err (not (is_from least z && is_to greatest z)) (stop_at s.at Range) (with_spot (leaf_of (value.Int z)) r) stop e) [
            | inl h ↦ (not_true (is_from least z && is_to greatest z) h.0, h.1)
            | inr h ↦ none_stops {S = Stop} (leaf_of (value.Int z)) r stop h.1
          ]

  -- of an ENUMERATED
  module _ (f : Form) (items : ℕ) (has : HasItems f items) (inside : Inside X s) (fine : AreOctets X) where
    abbrev NoItem : ℤ → Type 0
    NoItem z = (i : ℕ) → i < items → item_number f i ≡ z → ⊥

    abbrev found : Spot → Option ℕ → Result (ℕ × Spot) Stop
    found r o = elim o [ None ↦ Err (stop_at s.at Range) | Some i ↦ Ok (i, r) ]

    item_told : (z : ℤ) (r : Spot) → IsWhole z → Iff (item_of f s (z, r) ≡ Err stop) (NoItem z × (stop ≡ stop_at s.at Range))
    item_told z r whole = by (item_with f z) refl
      where
        by : (o : Option ℕ) → item_with f z ≡ o → Iff (found r (item_with f z) ≡ Err stop) (NoItem z × (stop ≡ stop_at s.at Range))
        by None e = (
          λ g. ((λ i lt is. let c : Some i ≡ None = sym (has.again i lt).1 ∙ ap (item_with f) is ∙ e in cc), same_stop {A = ℕ × Spot} (stop_at s.at Range) stop (sym (ap (found r) e) ∙ g)),
          λ h. ap (found r) e ∙ ap Err (sym h.1),
        )
        by (Some i) e = (λ g. none_stops {S = Stop} i r stop (sym (ap (found r) e) ∙ g), λ h. let k = has.back z i e in absurd (h.0 i k.0 k.1))

    pub enumerated_told : Iff (enum_at f X s ≡ Err stop) (LeftStops X (λ ys why. WholeFault ys why ⊎ ((z : ℤ) × (is_128_bits z ≡ true) × (ys ≡ signed_octets z) × NoItem z × (why ≡ Range))) s stop)
    unfolding enum_at item_at
    enumerated_told =
        let m = map_told {S = Stop} (whole_at X s >>= item_of f s) (λ i. leaf_of (value.Enum i)) stop in
        let k = ranged_told inside fine (item_of f s) NoItem item_told in
        (λ e. k.0 (m.0 e), λ h. m.1 (k.1 h))
