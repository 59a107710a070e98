-- Several are read as each is.
use Rattle.std.proofs.Common.{◌≡◌, ℕ, zero, suc, ◌+◌, ◌<◌, ◌≤◌, Bool, true, false, cond, ltb, Option, Some, None, List, [], ◌∷◌, ◌++◌, length, refl, ap, ◌∙◌, subst, arith, drop, Result, Ok, Err, inl, inr, ◌⊎◌}
use Rattle.std.proofs.lemmas.Bool.{le-ltb, lt-ltb, ltb-false}
use Rattle.std.proofs.lemmas.List.{length-append, length-drop, append-nil, drop_all}
use Rattle.base_codecs.specs.declared.spots.Spot.{Spot}
use Rattle.base_codecs.specs.Reading.{◌>>=◌, Reader, Writer, moved, with_spot}
use Rattle.base_codecs.specs.Codec.{most_nodes, Stands, Came, CodecBefore, Anything, Codec, Filling}
use Rattle.base_codecs.specs.Sequences.{each_at, EachFit, each_write, at_most_at, items_at, parts_at, alternative_at, AllFit, all_weight, all_write, PartsFit, parts_weight, parts_write, AlternativeFits, alternative_write, IsApart, AreHeads, EachCodec}
use Rattle.base_codecs.proofs.Codecs.{bind_ok, stop_ok, stop_not, ok_is, same_spot, split, came-then, moved-again}

-- what was chosen by a test
pub cond_ok : {S A : Type 0} (b : Bool) (x y : Result A S) (z : A) → cond b x y ≡ Ok z → ((b ≡ true) × (x ≡ Ok z)) ⊎ ((b ≡ false) × (y ≡ Ok z))
cond_ok true x y z e = inl (refl, e)
cond_ok false x y z e = inr (refl, e)

pub cond_true : {R : Type 0} (b : Bool) (x y : R) → b ≡ true → cond b x y ≡ x
cond_true b x y e = ap (λ c. cond c x y) e

pub cond_false : {R : Type 0} (b : Bool) (x y : R) → b ≡ false → cond b x y ≡ y
cond_false b x y e = ap (λ c. cond c x y) e

pub stands_long : {E : Type 0} (X found rest : List E) (p : ℕ) → Stands X p found rest → length X ≡ p + (length found + length rest)
stands_long X found rest p h = omega (arith, h.inside, length-drop p X, ap length h.is, length-append found rest)

-- UP TO THE END
module _ {E S A : Type 0} (Fine : List E → Type 0) (V : A → Type 0) (w : A → ℕ) (write : A → Writer E) (read : Reader E S A) (stop : Spot → S) (one : Codec Fine V w write read) (some : (a : A) (p : ℕ) → V a → 0 < length (write a p)) where
  abbrev rest_of : ℕ → Reader E S (List A)
  rest_of n X s = read X s >>= λ a. at_most_at stop n read X a.1 >>= λ as'. with_spot (a.0 ∷ as'.0) as'.1

  again_most : (n : ℕ) (X : List E) (s : Spot) (as' : List A) → length X ≤ s.at + n → AllFit V as' → s.nodes + all_weight w as' ≤ most_nodes → Stands X s.at (all_write write as' s.at) []
      → at_most_at stop n read X s ≡ Ok (as', moved s (length (all_write write as' s.at)) (all_weight w as'))
  unfolding at_most_at
  again_most zero X s [] short f few h =
      stop_not (ltb s.at (length X)) (stop s) (Ok ([], s)) (le-ltb s.at (length X) (omega (arith, short)))
      ∙ ap (λ r. Ok ([], r)) (same_spot s.at (s.at + 0) s.nodes (s.nodes + 0) (omega arith) (omega arith))
  again_most (suc n) X s [] short f few h =
      cond_false (ltb s.at (length X)) (rest_of n X s) (Ok ([], s)) (le-ltb s.at (length X) (omega (arith, stands_long X [] [] s.at h)))
      ∙ ap (λ r. Ok ([], r)) (same_spot s.at (s.at + 0) s.nodes (s.nodes + 0) (omega arith) (omega arith))
  again_most zero X s (a ∷ as') short f few h =
      let x = write a s.at in
      let y = all_write write as' (s.at + length x) in
      absurd (omega (arith, short, stands_long X (x ++ y) [] s.at h, length-append x y, some a s.at f.0))
  again_most (suc n) X s (a ∷ as') short f few h =
      let x = write a s.at in
      let y = all_write write as' (s.at + length x) in
      let long = stands_long X (x ++ y) [] s.at h in
      let p = some a s.at f.0 in
      let q = split X s.at x y [] h in
      cond_true (ltb s.at (length X)) (rest_of n X s) (Ok ([], s)) (lt-ltb s.at (length X) (omega (arith, long, length-append x y, p)))
      ∙ rw (one.again X (y ++ []) s a tt f.0 (omega (arith, few)) q.0)
      (rw (again_most n X (moved s (length x) (w a)) as' (omega (arith, short, p)) f.1 (omega (arith, few)) q.1) (ap (λ r. Ok (a ∷ as', r)) (moved-again s x y (w a) (all_weight w as'))))

  none_came : (X : List E) (s : Spot) (x : List A × Spot) → s.at ≤ length X → length X ≤ s.at → with_spot {S = S} {A = List A} [] s ≡ Ok x
      → Came X s x.1 (all_write write x.0 s.at) (all_weight w x.0) × AllFit V x.0 × (drop x.1.at X ≡ [])
  none_came X s x inside past e =
      subst (λ (y : List A × Spot). Came X s y.1 (all_write write y.0 s.at) (all_weight w y.0) × AllFit V y.0 × (drop y.1.at X ≡ [])) (ok_is {S = S} ([], s) x e)
      (record { taken = record { parts = refl; end = omega arith; inside = inside }; nodes = omega arith; few = λ h. h }, tt, drop_all s.at X past)

  takes_most : (n : ℕ) (X : List E) (s : Spot) (x : List A × Spot) → Fine X → s.at ≤ length X → at_most_at stop n read X s ≡ Ok x
      → Came X s x.1 (all_write write x.0 s.at) (all_weight w x.0) × AllFit V x.0 × (drop x.1.at X ≡ [])
  unfolding at_most_at
  takes_most zero X s x fine inside e = let g = stop_ok (ltb s.at (length X)) (stop s) (Ok ([], s)) x e in none_came X s x inside (ltb-false s.at (length X) g.0) g.1
  takes_most (suc n) X s x fine inside e = elim (cond_ok (ltb s.at (length X)) (rest_of n X s) (Ok ([], s)) x e) [
    | inr g ↦ none_came X s x inside (ltb-false s.at (length X) g.0) g.1
    | inl g ↦ (
        let a = bind_ok (read X s) (λ a. at_most_at stop n read X a.1 >>= λ as'. with_spot (a.0 ∷ as'.0) as'.1) x g.1 in
        let k = one.takes X s a.0 fine inside a.1 in
        let b = bind_ok (at_most_at stop n read X a.0.1) (λ bs. with_spot (a.0.0 ∷ bs.0) bs.1) x a.2 in
        let l = takes_most n X a.0.1 b.0 fine k.0.taken.inside b.1 in
        subst (λ (y : List A × Spot). Came X s y.1 (all_write write y.0 s.at) (all_weight w y.0) × AllFit V y.0 × (drop y.1.at X ≡ [])) (ok_is {S = S} (a.0.0 ∷ b.0.0, b.0.1) x b.2) (
          came-then X s a.0.1 b.0.1 (write a.0.0 s.at) (all_write write b.0.0 (s.at + length (write a.0.0 s.at))) (w a.0.0) (all_weight w b.0.0) k.0
              (subst (λ n. Came X a.0.1 b.0.1 (all_write write b.0.0 n) (all_weight w b.0.0)) k.0.taken.end l.0),
          (k.1, l.1),
          l.2,
        ))
  ]

  pub items_codec : Filling Fine (AllFit V) (all_weight w) (all_write write) (items_at stop read)
  items_codec = record {
    again = λ X rest s as' none f few h. again_most (length X) X s as' (omega arith) f few (subst (Stands X s.at (all_write write as' s.at)) none h);
    takes = λ X s x fine inside e. takes_most (length X) X s x fine inside e;
  }

-- EXPECTED PARTS
module _ {E S P A : Type 0} (starts : P → List E → Bool) (is_optional : P → Bool) (stop : List E → Spot → S) (kid : P → Reader E S A)
    (Fine : List E → Type 0) (V : P → A → Type 0) (w : A → ℕ) (write : P → A → Writer E) where
  abbrev Fit : List P → List (Option A) → Type 0
  Fit ps as' = PartsFit is_optional V ps as'

  abbrev weigh : List (Option A) → ℕ
  weigh as' = parts_weight w as'

  abbrev wrote : List P → List (Option A) → Writer E
  wrote ps as' n = parts_write write ps as' n

  abbrev parts : List P → Reader E S (List (Option A))
  parts ps X s = parts_at starts is_optional stop kid ps X s

  abbrev Apart : P → List P → Type 0
  Apart p ps = IsApart starts V write p ps

  -- a part that is absent isn't seen in those behind it
  not_seen : (p : P) (ps : List P) (as' : List (Option A)) (n : ℕ) → starts p [] ≡ false → Apart p ps → Fit ps as' → starts p (wrote ps as' n) ≡ false
  not_seen p [] [] n nil apart f = nil
  not_seen p [] (a ∷ as') n nil apart f = absurd f
  not_seen p (q ∷ qs) [] n nil apart f = absurd f
  not_seen p (q ∷ qs) (Some a ∷ as') n nil apart f = apart.0 a n (wrote qs as' (n + length (write q a n))) f.0
  not_seen p (q ∷ qs) (None ∷ as') n nil apart f = not_seen p qs as' n nil apart.1 f.1

  abbrev with_part : P → List P → Reader E S (List (Option A))
  with_part p ps X s = kid p X s >>= λ a. parts ps X a.1 >>= λ as'. with_spot (Some a.0 ∷ as'.0) as'.1

  abbrev without_part : P → List P → Reader E S (List (Option A))
  without_part p ps X s = cond (is_optional p) (parts ps X s >>= λ as'. with_spot (None ∷ as'.0) as'.1) (Err (stop X s))

  again_parts : (ps : List P) → EachCodec Fine Anything V w write kid ps → AreHeads starts V write ps → (X : List E) (s : Spot) (as' : List (Option A))
      → Fit ps as' → s.nodes + weigh as' ≤ most_nodes → Stands X s.at (wrote ps as' s.at) [] → parts ps X s ≡ Ok (as', moved s (length (wrote ps as' s.at)) (weigh as'))
  unfolding parts_at
  again_parts [] each heads X s [] f few h =
      stop_not (ltb s.at (length X)) (stop X s) (Ok ([], s)) (le-ltb s.at (length X) (omega (arith, stands_long X [] [] s.at h)))
      ∙ ap (λ r. Ok ([], r)) (same_spot s.at (s.at + 0) s.nodes (s.nodes + 0) (omega arith) (omega arith))
  again_parts [] each heads X s (a ∷ as') f few h = absurd f
  again_parts (p ∷ ps) each heads X s [] f few h = absurd f
  again_parts (p ∷ ps) each heads X s (Some a ∷ as') f few h =
      let x = write p a s.at in
      let y = wrote ps as' (s.at + length x) in
      let q = split X s.at x y [] h in
      let seen : starts p (drop s.at X) ≡ true = ap (starts p) q.0.is ∙ heads.0.1 a s.at (y ++ []) f.0 in
      cond_true (starts p (drop s.at X)) (with_part p ps X s) (without_part p ps X s) seen
      ∙ rw (each.0.again X (y ++ []) s a tt f.0 (omega (arith, few)) q.0)
      (rw (again_parts ps each.1 heads.2 X (moved s (length x) (w a)) as' f.1 (omega (arith, few)) q.1) (ap (λ r. Ok (Some a ∷ as', r)) (moved-again s x y (w a) (weigh as'))))
  again_parts (p ∷ ps) each heads X s (None ∷ as') f few h =
      let unseen : starts p (drop s.at X) ≡ false = ap (starts p) (h.is ∙ append-nil (wrote ps as' s.at)) ∙ not_seen p ps as' s.at heads.0.0 heads.1 f.1 in
      cond_false (starts p (drop s.at X)) (with_part p ps X s) (without_part p ps X s) unseen
      ∙ cond_true (is_optional p) (parts ps X s >>= λ as'. with_spot (None ∷ as'.0) as'.1) (Err (stop X s)) f.0
      ∙ rw (again_parts ps each.1 heads.2 X s as' f.1 few h) refl

  abbrev Took : List P → List E → Spot → List (Option A) × Spot → Type 0
  Took ps X s x = Came X s x.1 (wrote ps x.0 s.at) (weigh x.0) × Fit ps x.0 × (drop x.1.at X ≡ [])

  err_ok : {B : Type 0} (d : S) (x : B) {G : Type 0} → Err d ≡ Ok x → G
  err_ok d x e = absurd cc

  takes_parts : (ps : List P) → EachCodec Fine Anything V w write kid ps → (X : List E) (s : Spot) (x : List (Option A) × Spot) → Fine X → s.at ≤ length X → parts ps X s ≡ Ok x → Took ps X s x
  unfolding parts_at
  takes_parts [] each X s x fine inside e =
      let g = stop_ok (ltb s.at (length X)) (stop X s) (Ok ([], s)) x e in
      subst (Took [] X s) (ok_is {S = S} ([], s) x g.1)
      (record { taken = record { parts = refl; end = omega arith; inside = inside }; nodes = omega arith; few = λ h. h }, tt, drop_all s.at X (ltb-false s.at (length X) g.0))
  takes_parts (p ∷ ps) each X s x fine inside e = elim (cond_ok (starts p (drop s.at X)) (with_part p ps X s) (without_part p ps X s) x e) [
    | inl g ↦ (
        let a = bind_ok (kid p X s) (λ a. parts ps X a.1 >>= λ as'. with_spot (Some a.0 ∷ as'.0) as'.1) x g.1 in
        let k = each.0.takes X s a.0 fine inside a.1 in
        let b = bind_ok (parts ps X a.0.1) (λ bs. with_spot (Some a.0.0 ∷ bs.0) bs.1) x a.2 in
        let l = takes_parts ps each.1 X a.0.1 b.0 fine k.0.taken.inside b.1 in
        subst (Took (p ∷ ps) X s) (ok_is {S = S} (Some a.0.0 ∷ b.0.0, b.0.1) x b.2) (
          came-then X s a.0.1 b.0.1 (write p a.0.0 s.at) (wrote ps b.0.0 (s.at + length (write p a.0.0 s.at))) (w a.0.0) (weigh b.0.0) k.0
              (subst (λ n. Came X a.0.1 b.0.1 (wrote ps b.0.0 n) (weigh b.0.0)) k.0.taken.end l.0),
          (k.1, l.1),
          l.2,
        ))
    | inr g ↦ (elim (cond_ok (is_optional p) (parts ps X s >>= λ as'. with_spot (None ∷ as'.0) as'.1) (Err (stop X s)) x g.1) [
      | inr h ↦ err_ok (stop X s) x h.1
      | inl h ↦ (
          let b = bind_ok (parts ps X s) (λ bs. with_spot (None ∷ bs.0) bs.1) x h.1 in
          let l = takes_parts ps each.1 X s b.0 fine inside b.1 in
          subst (Took (p ∷ ps) X s) (ok_is {S = S} (None ∷ b.0.0, b.0.1) x b.2) (l.0, (h.0, l.1), l.2))
    ])
  ]

  pub parts_codec : (ps : List P) → EachCodec Fine Anything V w write kid ps → AreHeads starts V write ps
      → Filling Fine (PartsFit is_optional V ps) (parts_weight w) (parts_write write ps) (parts_at starts is_optional stop kid ps)
  parts_codec ps each heads = record {
    again = λ X rest s as' none f few h. again_parts ps each heads X s as' f few (subst (Stands X s.at (wrote ps as' s.at)) none h);
    takes = λ X s x fine inside e. takes_parts ps each X s x fine inside e;
  }

  -- ONE OF SEVERAL
  module _ (Rest : List E → Type 0) where
    abbrev AltFit : List P → ℕ × A → Type 0
    AltFit ps x = AlternativeFits V ps x.0 x.1

    abbrev alt_write : List P → ℕ × A → Writer E
    alt_write ps x n = alternative_write write ps x.0 x.1 n

    abbrev alternatives : List P → Reader E S (ℕ × A)
    alternatives ps X s = alternative_at starts is_optional stop kid ps X s

    abbrev this_one : P → Reader E S (ℕ × A)
    this_one p X s = kid p X s >>= λ a. with_spot (0, a.0) a.1

    abbrev another : List P → Reader E S (ℕ × A)
    another ps X s = alternatives ps X s >>= λ a. with_spot (suc a.0.0, a.0.1) a.1

    other_seen : (p : P) (ps : List P) (i : ℕ) (a : A) (n : ℕ) (rest : List E) → Apart p ps → AlternativeFits V ps i a → starts p (alternative_write write ps i a n ++ rest) ≡ false
    other_seen p [] i a n rest apart f = absurd f
    other_seen p (q ∷ qs) zero a n rest apart f = apart.0 a n rest f
    other_seen p (q ∷ qs) (suc i) a n rest apart f = other_seen p qs i a n rest apart.1 f

    again_alt : (ps : List P) → EachCodec Fine Rest V w write kid ps → AreHeads starts V write ps → (X rest : List E) (s : Spot) (i : ℕ) (a : A) → Rest rest
        → AlternativeFits V ps i a → s.nodes + w a ≤ most_nodes → Stands X s.at (alternative_write write ps i a s.at) rest
        → alternatives ps X s ≡ Ok ((i, a), moved s (length (alternative_write write ps i a s.at)) (w a))
    unfolding alternative_at
    again_alt [] each heads X rest s i a follows f few h = absurd f
    again_alt (p ∷ ps) each heads X rest s zero a follows f few h =
        cond_true (starts p (drop s.at X)) (this_one p X s) (another ps X s) (ap (starts p) h.is ∙ heads.0.1 a s.at rest f)
        ∙ rw (each.0.again X rest s a follows f few h) refl
    again_alt (p ∷ ps) each heads X rest s (suc i) a follows f few h =
        cond_false (starts p (drop s.at X)) (this_one p X s) (another ps X s) (ap (starts p) h.is ∙ other_seen p ps i a s.at rest heads.1 f)
        ∙ rw (again_alt ps each.1 heads.2 X rest s i a follows f few h) refl

    abbrev TookAlt : List P → List E → Spot → (ℕ × A) × Spot → Type 0
    TookAlt ps X s x = Came X s x.1 (alt_write ps x.0 s.at) (w x.0.1) × AltFit ps x.0 × Rest (drop x.1.at X)

    takes_alt : (ps : List P) → EachCodec Fine Rest V w write kid ps → (X : List E) (s : Spot) (x : (ℕ × A) × Spot) → Fine X → s.at ≤ length X → alternatives ps X s ≡ Ok x → TookAlt ps X s x
    unfolding alternative_at
    takes_alt [] each X s x fine inside e = err_ok (stop X s) x e
    takes_alt (p ∷ ps) each X s x fine inside e = elim (cond_ok (starts p (drop s.at X)) (this_one p X s) (another ps X s) x e) [
      | inl g ↦ (
          let a = bind_ok (kid p X s) (λ a. with_spot (0, a.0) a.1) x g.1 in
          subst (TookAlt (p ∷ ps) X s) (ok_is {S = S} ((0, a.0.0), a.0.1) x a.2) (each.0.takes X s a.0 fine inside a.1))
      | inr g ↦ (
          let a = bind_ok (alternatives ps X s) (λ a. with_spot (suc a.0.0, a.0.1) a.1) x g.1 in
          subst (TookAlt (p ∷ ps) X s) (ok_is {S = S} ((suc a.0.0.0, a.0.0.1), a.0.1) x a.2) (takes_alt ps each.1 X s a.0 fine inside a.1))
    ]

    pub alternative_codec : (ps : List P) → EachCodec Fine Rest V w write kid ps → AreHeads starts V write ps
        → CodecBefore Fine Rest (AltFit ps) (λ (x : ℕ × A). w x.1) (alt_write ps) (alternative_at starts is_optional stop kid ps)
    alternative_codec ps each heads = record {
      again = λ X rest s x follows f few h. again_alt ps each heads X rest s x.0 x.1 follows f few h;
      takes = λ X s x fine inside e. takes_alt ps each X s x fine inside e;
    }

-- ONE OF EACH
module _ {E S P A : Type 0} (kid : P → Reader E S A) (Fine : List E → Type 0) (V : P → A → Type 0) (w : A → ℕ) (write : P → A → Writer E) where
  again_each : (ps : List P) → EachCodec Fine Anything V w write kid ps → (X rest : List E) (s : Spot) (as' : List A) → EachFit V ps as' → s.nodes + all_weight w as' ≤ most_nodes
      → Stands X s.at (each_write write ps as' s.at) rest → each_at kid ps X s ≡ Ok (as', moved s (length (each_write write ps as' s.at)) (all_weight w as'))
  unfolding each_at
  again_each [] each X rest s [] f few h = ap (λ r. Ok ([], r)) (same_spot s.at (s.at + 0) s.nodes (s.nodes + 0) (omega arith) (omega arith))
  again_each [] each X rest s (a ∷ as') f few h = absurd f
  again_each (p ∷ ps) each X rest s [] f few h = absurd f
  again_each (p ∷ ps) each X rest s (a ∷ as') f few h =
      let x = write p a s.at in
      let y = each_write write ps as' (s.at + length x) in
      let q = split X s.at x y rest h in
      rw (each.0.again X (y ++ rest) s a tt f.0 (omega (arith, few)) q.0)
      (rw (again_each ps each.1 X rest (moved s (length x) (w a)) as' f.1 (omega (arith, few)) q.1) (ap (λ r. Ok (a ∷ as', r)) (moved-again s x y (w a) (all_weight w as'))))

  abbrev TookEach : List P → List E → Spot → List A × Spot → Type 0
  TookEach ps X s x = Came X s x.1 (each_write write ps x.0 s.at) (all_weight w x.0) × EachFit V ps x.0 × Unit {0}

  takes_each : (ps : List P) → EachCodec Fine Anything V w write kid ps → (X : List E) (s : Spot) (x : List A × Spot) → Fine X → s.at ≤ length X → each_at kid ps X s ≡ Ok x → TookEach ps X s x
  unfolding each_at
  takes_each [] each X s x fine inside e =
      subst (TookEach [] X s) (ok_is {S = S} ([], s) x e) (record { taken = record { parts = refl; end = omega arith; inside = inside }; nodes = omega arith; few = λ h. h }, tt, tt)
  takes_each (p ∷ ps) each X s x fine inside e =
      let a = bind_ok (kid p X s) (λ a. each_at kid ps X a.1 >>= λ as'. with_spot (a.0 ∷ as'.0) as'.1) x e in
      let k = each.0.takes X s a.0 fine inside a.1 in
      let b = bind_ok (each_at kid ps X a.0.1) (λ bs. with_spot (a.0.0 ∷ bs.0) bs.1) x a.2 in
      let l = takes_each ps each.1 X a.0.1 b.0 fine k.0.taken.inside b.1 in
      subst (TookEach (p ∷ ps) X s) (ok_is {S = S} (a.0.0 ∷ b.0.0, b.0.1) x b.2) (
        came-then X s a.0.1 b.0.1 (write p a.0.0 s.at) (each_write write ps b.0.0 (s.at + length (write p a.0.0 s.at))) (w a.0.0) (all_weight w b.0.0) k.0
            (subst (λ n. Came X a.0.1 b.0.1 (each_write write ps b.0.0 n) (all_weight w b.0.0)) k.0.taken.end l.0),
        (k.1, l.1),
        tt,
      )

  pub each_codec : (ps : List P) → EachCodec Fine Anything V w write kid ps → Codec Fine (EachFit V ps) (all_weight w) (each_write write ps) (each_at kid ps)
  each_codec ps each = record {
    again = λ X rest s as' any f few h. again_each ps each X rest s as' f few h;
    takes = λ X s x fine inside e. takes_each ps each X s x fine inside e;
  }
