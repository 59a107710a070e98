-- Where reading several stops: a window, items, expected parts, an alternative.
use Rattle.std.proofs.Common.{◌≡◌, ℕ, zero, suc, ◌+◌, ◌<◌, ◌≤◌, Bool, cond, ltb, Option, Some, None, List, [], ◌∷◌, length, refl, sym, ap, ◌∙◌, arith, take, drop, Result, Err, inl, inr, ◌⊎◌}
use Rattle.std.proofs.lemmas.Bool.{lt-ltb, le-ltb, ltb-true, ltb-false}
use Rattle.base_codecs.specs.declared.spots.Spot.{Spot}
use Rattle.base_codecs.specs.Reading.{◌>>=◌, Reader, Writer, stop_if, with_spot, window_at}
use Rattle.base_codecs.specs.Codec.{Anything, Codec}
use Rattle.base_codecs.specs.Sequences.{at_most_at, items_at, parts_at, alternative_at}
use Rattle.base_codecs.specs.Stopping.{ItemsStop, PartsStop, AlternativeStops}
use Rattle.base_codecs.proofs.Sequences.{cond_true, cond_false}
use Rattle.base_codecs.proofs.Steps.{Iff, Told, Inside, bind_err, err_bind, ok_bind, stop_err, err_stop, err_later, cond_err, none_stops, after, came, goes}

-- A WINDOW
module _ {E S A : Type 0} (stop : S) (n : ℕ) (read : Reader E S A) (X : List E) (s : Spot) (d : S) where
  pub window_told : Iff (window_at stop n read X s ≡ Err d) (((length X < s.at + n) × (d ≡ stop)) ⊎ ((s.at + n ≤ length X) × (read (take (s.at + n) X) s ≡ Err d)))
  unfolding window_at
  window_told = (forth, back)
    where
      forth : stop_if (ltb (length X) (s.at + n)) stop (read (take (s.at + n) X) s) ≡ Err d → ((length X < s.at + n) × (d ≡ stop)) ⊎ ((s.at + n ≤ length X) × (read (take (s.at + n) X) s ≡ Err d))
      forth e = elim (stop_err (ltb (length X) (s.at + n)) stop (read (take (s.at + n) X) s) d e) [
        | inl h ↦ inl (ltb-true (length X) (s.at + n) h.0, h.1)
        | inr h ↦ inr (ltb-false (length X) (s.at + n) h.0, h.1)
      ]

      back : ((length X < s.at + n) × (d ≡ stop)) ⊎ ((s.at + n ≤ length X) × (read (take (s.at + n) X) s ≡ Err d)) → stop_if (ltb (length X) (s.at + n)) stop (read (take (s.at + n) X) s) ≡ Err d
      back (inl h) = err_stop (ltb (length X) (s.at + n)) stop d (read (take (s.at + n) X) s) (lt-ltb (length X) (s.at + n) h.0) h.1
      back (inr h) = err_later (ltb (length X) (s.at + n)) stop d (read (take (s.at + n) X) s) (le-ltb (length X) (s.at + n) h.0) h.1

-- ITEMS
module _ {E S A : Type 0} (Fine : List E → Type 0) (V : A → Type 0) (w : A → ℕ) (write : A → Writer E) (kid : Reader E S A) (codec : Codec Fine V w write kid) (some : (a : A) (p : ℕ) → V a → 0 < length (write a p))
    (never : Spot → S) (X : List E) (fine : Fine X) (Kid Kid' : Spot → S → Type 0) (known : (s : Spot) (d : S) → Inside X s → Told (kid X s ≡ Err d) (Kid s d) (Kid' s d)) where
  abbrev rest_of : ℕ → Spot → Result (List A × Spot) S
  rest_of n s = kid X s >>= λ a. at_most_at never n kid X a.1 >>= λ as'. with_spot (a.0 ∷ as'.0) as'.1

  at_most_stops : (n : ℕ) (s : Spot) (d : S) → Inside X s → length X ≤ s.at + n → at_most_at never n kid X s ≡ Err d → (vs : List A) × ItemsStop V w write X Kid vs s d
  unfolding at_most_at
  at_most_stops zero s d inside short e = elim (stop_err (ltb s.at (length X)) (never s) (with_spot [] s) d e) [
    | inl h ↦ absurd (omega (arith, ltb-true s.at (length X) h.0, short))
    | inr h ↦ none_stops {S = S} {A = List A} [] s d h.1
  ]
  at_most_stops (suc n) s d inside short e = elim (cond_err (ltb s.at (length X)) (rest_of n s) (with_spot [] s) d e) [
    | inl h ↦ (elim (bind_err (kid X s) (λ a. at_most_at never n kid X a.1 >>= λ as'. with_spot (a.0 ∷ as'.0) as'.1) d h.1) [
      | inl k ↦ ([], (ltb-true s.at (length X) h.0, (known s d inside).0 k))
      | inr k ↦ (
          let a = k.0.0 in
          let r = k.0.1 in
          let c = came Fine Anything X fine V w write kid codec s a r inside k.1 in
          let further = at_most_stops n r d (after Fine Anything X fine s r (write a s.at) (w a) inside c.1) (omega (arith, short, c.1.taken.end, some a s.at c.0)) (behind a r k.2) in
          (a ∷ further.0, (r, c.0, c.1, further.1)))
    ])
    | inr h ↦ none_stops {S = S} {A = List A} [] s d h.1
  ]
    where
      behind : (a : A) (r : Spot) → (at_most_at never n kid X r >>= λ as'. with_spot (a ∷ as'.0) as'.1) ≡ Err d → at_most_at never n kid X r ≡ Err d
      behind a r e = elim (bind_err (at_most_at never n kid X r) (λ as'. with_spot (a ∷ as'.0) as'.1) d e) [ inl h ↦ h | inr k ↦ none_stops {S = S} (a ∷ k.0.0) k.0.1 d k.2 ]

  stops_at_most : (n : ℕ) (vs : List A) (s : Spot) (d : S) → Inside X s → length X ≤ s.at + n → ItemsStop V w write X Kid' vs s d → at_most_at never n kid X s ≡ Err d
  unfolding at_most_at
  stops_at_most zero [] s d inside short h = absurd (omega (arith, h.0, short))
  stops_at_most (suc n) [] s d inside short h =
      cond_true (ltb s.at (length X)) (rest_of n s) (with_spot [] s) (lt-ltb s.at (length X) h.0) ∙ err_bind (kid X s) (λ a. at_most_at never n kid X a.1 >>= λ as'. with_spot (a.0 ∷ as'.0) as'.1) d ((known s d inside).1 h.1)
  stops_at_most zero (a ∷ as') s d inside short h = absurd (omega (arith, short, h.2.taken.end, h.2.taken.inside, some a s.at h.1))
  stops_at_most (suc n) (a ∷ as') s d inside short h =
      let r = h.0 in
      let p = some a s.at h.1 in
      let further = stops_at_most n as' r d (after Fine Anything X fine s r (write a s.at) (w a) inside h.2) (omega (arith, short, h.2.taken.end, p)) h.3 in
      cond_true (ltb s.at (length X)) (rest_of n s) (with_spot [] s) (lt-ltb s.at (length X) (omega (arith, h.2.taken.end, h.2.taken.inside, p)))
      ∙ ok_bind (kid X s) (λ a. at_most_at never n kid X a.1 >>= λ as'. with_spot (a.0 ∷ as'.0) as'.1) (a, r) d (goes Fine Anything X fine V w write kid codec s a r inside tt h.1 h.2)
      (err_bind (at_most_at never n kid X r) (λ as'. with_spot (a ∷ as'.0) as'.1) d further)

  pub items_told : (s : Spot) (d : S) → Inside X s → Told (items_at never kid X s ≡ Err d) ((vs : List A) × ItemsStop V w write X Kid vs s d) ((vs : List A) × ItemsStop V w write X Kid' vs s d)
  items_told s d inside = (λ e. at_most_stops (length X) s d inside (omega arith) e, λ h. stops_at_most (length X) h.0 s d inside (omega arith) h.1)

-- EXPECTED PARTS
module _ {E S P A : Type 0} (starts : P → List E → Bool) (is_optional : P → Bool) (stop : List E → Spot → S) (kid : P → Reader E S A)
    (Fine : List E → Type 0) (V : P → A → Type 0) (w : A → ℕ) (write : P → A → Writer E) (X : List E) (fine : Fine X) (Kid Kid' : P → Spot → S → Type 0) where
  -- each part is read as it is written, and where it stops is known
  abbrev pub AreKnown : List P → Type 0
  AreKnown [] = Unit {0}
  AreKnown (p ∷ ps) = (Codec Fine (V p) w (write p) (kid p) × ((s : Spot) (d : S) → Inside X s → Told (kid p X s ≡ Err d) (Kid p s d) (Kid' p s d))) × AreKnown ps

  abbrev Parts : List P → Spot → S → Type 0
  Parts ps s d = PartsStop starts is_optional stop V w write X Kid ps s d

  abbrev Parts' : List P → Spot → S → Type 0
  Parts' ps s d = PartsStop starts is_optional stop V w write X Kid' ps s d

  abbrev parts : List P → Spot → Result (List (Option A) × Spot) S
  parts ps s = parts_at starts is_optional stop kid ps X s

  abbrev next : List P → A × Spot → Result (List (Option A) × Spot) S
  next ps a = parts ps a.1 >>= λ as'. with_spot (Some a.0 ∷ as'.0) as'.1

  abbrev absent : List (Option A) × Spot → Result (List (Option A) × Spot) S
  absent as' = with_spot (None ∷ as'.0) as'.1

  abbrev with_part : P → List P → Spot → Result (List (Option A) × Spot) S
  with_part p ps s = kid p X s >>= next ps

  abbrev without : P → List P → Spot → Result (List (Option A) × Spot) S
  without p ps s = cond (is_optional p) (parts ps s >>= absent) (Err (stop X s))

  fault_is : {B : Type 0} (d e : S) (x : Result B S) → x ≡ Err d → x ≡ Err e → d ≡ e
  fault_is d e x h k = cc

  parts_stop : (ps : List P) → AreKnown ps → (s : Spot) (d : S) → Inside X s → parts_at starts is_optional stop kid ps X s ≡ Err d → Parts ps s d
  unfolding parts_at
  parts_stop [] known s d inside e = elim (stop_err (ltb s.at (length X)) (stop X s) (with_spot [] s) d e) [
    | inl h ↦ (ltb-true s.at (length X) h.0, h.1)
    | inr h ↦ none_stops {S = S} {A = List (Option A)} [] s d h.1
  ]
  parts_stop (p ∷ ps) known s d inside e = by (parts_stop ps known.1)
    where
      by : ((r : Spot) (d : S) → Inside X r → parts ps r ≡ Err d → Parts ps r d) → Parts (p ∷ ps) s d
      by further = elim (cond_err (starts p (drop s.at X)) (with_part p ps s) (without p ps s) d e) [
        | inl h ↦ inl (
          h.0,
          (elim (bind_err (kid p X s) (next ps) d h.1) [
            | inl k ↦ inl ((known.0.1 s d inside).0 k)
            | inr k ↦ (
                let a = k.0.0 in
                let r = k.0.1 in
                let c = came Fine Anything X fine (V p) w (write p) (kid p) known.0.0 s a r inside k.1 in
                inr (
                  a,
                  r,
                  c.0,
                  c.1,
                  (elim (bind_err (parts ps r) (λ as'. with_spot (Some a ∷ as'.0) as'.1) d k.2) [
                    | inl m ↦ further r d (after Fine Anything X fine s r (write p a s.at) (w a) inside c.1) m
                    | inr m ↦ none_stops {S = S} (Some a ∷ m.0.0) m.0.1 d m.2
                  ]),
                ))
          ]),
        )
        | inr h ↦ inr (
          h.0,
          (elim (cond_err (is_optional p) (parts ps s >>= absent) (Err (stop X s)) d h.1) [
            | inl k ↦ inl (k.0, (elim (bind_err (parts ps s) absent d k.1) [ inl m ↦ further s d inside m | inr m ↦ none_stops {S = S} (None ∷ m.0.0) m.0.1 d m.2 ]))
            | inr k ↦ inr (k.0, fault_is d (stop X s) (Err (stop X s)) k.1 refl)
          ]),
        )
      ]

  stop_parts : (ps : List P) → AreKnown ps → (s : Spot) (d : S) → Inside X s → Parts' ps s d → parts_at starts is_optional stop kid ps X s ≡ Err d
  unfolding parts_at
  stop_parts [] known s d inside h = err_stop (ltb s.at (length X)) (stop X s) d (with_spot [] s) (lt-ltb s.at (length X) h.0) h.1
  stop_parts (p ∷ ps) known s d inside (inl (e, inl k)) = cond_true (starts p (drop s.at X)) (with_part p ps s) (without p ps s) e ∙ err_bind (kid p X s) (next ps) d ((known.0.1 s d inside).1 k)
  stop_parts (p ∷ ps) known s d inside (inl (e, inr k)) =
      let a = k.0 in
      let r = k.1 in
      cond_true (starts p (drop s.at X)) (with_part p ps s) (without p ps s) e
      ∙ ok_bind (kid p X s) (next ps) (a, r) d (goes Fine Anything X fine (V p) w (write p) (kid p) known.0.0 s a r inside tt k.2 k.3)
      (err_bind (parts ps r) (λ as'. with_spot (Some a ∷ as'.0) as'.1) d (stop_parts ps known.1 r d (after Fine Anything X fine s r (write p a s.at) (w a) inside k.3) k.4))
  stop_parts (p ∷ ps) known s d inside (inr (e, inl k)) =
      cond_false (starts p (drop s.at X)) (with_part p ps s) (without p ps s) e
      ∙ cond_true (is_optional p) (parts ps s >>= absent) (Err (stop X s)) k.0 ∙ err_bind (parts ps s) absent d (stop_parts ps known.1 s d inside k.1)
  stop_parts (p ∷ ps) known s d inside (inr (e, inr k)) =
      cond_false (starts p (drop s.at X)) (with_part p ps s) (without p ps s) e ∙ cond_false (is_optional p) (parts ps s >>= absent) (Err (stop X s)) k.0 ∙ ap Err (sym k.1)

  pub parts_told : (ps : List P) → AreKnown ps → (s : Spot) (d : S) → Inside X s → Told (parts_at starts is_optional stop kid ps X s ≡ Err d) (Parts ps s d) (Parts' ps s d)
  parts_told ps known s d inside = (parts_stop ps known s d inside, stop_parts ps known s d inside)

  -- AN ALTERNATIVE
  abbrev pub AreTold : List P → Spot → S → Type 0
  AreTold [] s d = Unit {0}
  AreTold (p ∷ ps) s d = Told (kid p X s ≡ Err d) (Kid p s d) (Kid' p s d) × AreTold ps s d

  abbrev one : P → Spot → Result ((ℕ × A) × Spot) S
  one p s = kid p X s >>= λ a. with_spot (0, a.0) a.1

  abbrev another : List P → Spot → Result ((ℕ × A) × Spot) S
  another ps s = alternative_at starts is_optional stop kid ps X s >>= λ a. with_spot (suc a.0.0, a.0.1) a.1

  alternative_stops : (ps : List P) (s : Spot) (d : S) → AreTold ps s d → alternative_at starts is_optional stop kid ps X s ≡ Err d → AlternativeStops starts is_optional stop V w write X Kid ps s d
  unfolding alternative_at
  alternative_stops [] s d told e = fault_is d (stop X s) (Err (stop X s)) e refl
  alternative_stops (p ∷ ps) s d told e = elim (cond_err (starts p (drop s.at X)) (one p s) (another ps s) d e) [
    | inl h ↦ inl (h.0, (elim (bind_err (kid p X s) (λ a. with_spot (0, a.0) a.1) d h.1) [ inl k ↦ told.0.0 k | inr k ↦ none_stops {S = S} (0, k.0.0) k.0.1 d k.2 ]))
    | inr h ↦ inr (
      h.0,
      (elim (bind_err (alternative_at starts is_optional stop kid ps X s) (λ a. with_spot (suc a.0.0, a.0.1) a.1) d h.1) [
        | inl k ↦ alternative_stops ps s d told.1 k
        | inr k ↦ none_stops {S = S} (suc k.0.0.0, k.0.0.1) k.0.1 d k.2
      ]),
    )
  ]

  stops_alternative : (ps : List P) (s : Spot) (d : S) → AreTold ps s d → AlternativeStops starts is_optional stop V w write X Kid' ps s d → alternative_at starts is_optional stop kid ps X s ≡ Err d
  unfolding alternative_at
  stops_alternative [] s d told h = ap Err (sym h)
  stops_alternative (p ∷ ps) s d told (inl h) = cond_true (starts p (drop s.at X)) (one p s) (another ps s) h.0 ∙ err_bind (kid p X s) (λ a. with_spot (0, a.0) a.1) d (told.0.1 h.1)
  stops_alternative (p ∷ ps) s d told (inr h) =
      cond_false (starts p (drop s.at X)) (one p s) (another ps s) h.0 ∙ err_bind (alternative_at starts is_optional stop kid ps X s) (λ a. with_spot (suc a.0.0, a.0.1) a.1) d (stops_alternative ps s d told.1 h.1)

  pub alternative_told : (ps : List P) (s : Spot) (d : S) → AreTold ps s d
      → Told (alternative_at starts is_optional stop kid ps X s ≡ Err d) (AlternativeStops starts is_optional stop V w write X Kid ps s d) (AlternativeStops starts is_optional stop V w write X Kid' ps s d)
  alternative_told ps s d told = (alternative_stops ps s d told, stops_alternative ps s d told)
