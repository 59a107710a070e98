-- The particles of a group by their places, as the code has them.
use Rattle.std.proofs.Common.{◌≡◌, ℕ, zero, suc, ◌+◌, ◌-◌, ◌<◌, ◌≤◌, Bool, true, false, ◌||◌, ◌==◌, inl, inr, not, cond, List, [], ◌∷◌, ◌++◌, length, get_or, take, drop, Option, Some, refl, sym, ◌∙◌, ap, subst, arith, get_or-drop, length-drop}
use Rattle.std.specs.Prelude.{Result, Ok, Err, OnOk, slice_get}
use Rattle.std.proofs.lemmas.Option.{get_or_from_slice_get, slice_get_read}
use Rattle.std.proofs.Math.Seq.{take-length}
use Rattle.std.proofs.lemmas.List.{take-append-drop, drop_more, length-take-le}
use Rattle.base_trees.specs.Rose.{Rose, node, roses_of, label_of, kids_of}
use Rattle.base_trees.specs.Rose as rose
use Rattle.base_trees.proofs.Roses.{roses_of-list_of}
use Rattle.base_trees.proofs.Kids.{roses_of-drop}
use Rattle.base_flat_trees.specs.Zips.{Zip, added}
use Rattle.base_texts.specs.declared.texts.Name.{Name}
use Rattle.simple_types.specs.declared.labels.ValueLabel.{ValueLabel}
use Rattle.simple_types.specs.declared.labels.ValueLabel.TheVariants as value
use Rattle.content_models.specs.declared.particles.ParticleKind.{ParticleKind}
use Rattle.content_models.specs.declared.particles.ParticleLabel.{ParticleLabel}
use Rattle.content_models.specs.Seen.{seen, all_seen, term_seen}
use Rattle.content_models.specs.Particle.{Particle, occurs, Term, Particles, none, more}
use Rattle.content_models.specs.Clear.{is_zero, empties, empties_term, all_empty}
use Rattle.content_models.specs.Spots.{Spot, at, Inner, here, inside, enter, enter_term, enter_order, enter_one, finishes, finishes_term, finishes_order, finishes_one, may_stop, next, next_term, next_order, next_one}
use Rattle.content_models.proofs.Entering.{both_true}
use Rattle.value_builder.specs.Built.{flagged, with_parts}
use Rattle.value_builder.proofs.Parts.{parts-none, parts-more, part-present}
use Rattle.value_contents.specs.Bounds.{is_once, is_optional, is_single}
use Rattle.value_contents.specs.Private.Empty.{term_of, may_be_left_out, empty_flags, empty_values, empty_value, empty_term, empty_chosen, emptied}
use Rattle.value_contents.specs.Private.Moves.{turn_in, inner_in, items_opened, items_closed, entered, entered_term, entered_order, entered_one, ended, ended_term, ended_order, ended_one, moved, moved_term, moved_order, moved_one}
use Rattle.value_contents.proofs.Inverting as invert
use Rattle.value_contents.proofs.Reaching.{same-turn, other-turn}

-- ---- particles as they are seen

pub seen-is : (t : Rose ParticleLabel) → seen t ≡ occurs (term_of t) (label_of t).min (label_of t).max
seen-is (node l ts) = ap (λ k. occurs (term_seen l.kind (all_seen k)) l.min l.max) (sym (roses_of-list_of ts))

-- the term of a particle of this kind, with these kids
pub term-by : (t : Rose ParticleLabel) (l : ParticleLabel) (kids : List (Rose ParticleLabel)) (kind : ParticleKind) → l ≡ label_of t → kids ≡ kids_of t → l.kind ≡ kind
    → term_of t ≡ term_seen kind (all_seen (roses_of kids))
term-by t l kids kind e k is =
    ap (λ q. term_seen q (all_seen (roses_of (kids_of t)))) (ap (λ (m : ParticleLabel). m.kind) (sym e) ∙ is) ∙ ap (λ ks. term_seen kind (all_seen (roses_of ks))) (sym k)

some-zero : (n : ℕ) → (n ≡ 0 → ⊥) → is_zero n ≡ false
some-zero zero h = absurd (h refl)
some-zero (suc n) h = refl

pub empties-by : (t : Rose ParticleLabel) (l : ParticleLabel) (b : Bool) → l ≡ label_of t → (l.min ≡ 0 → ⊥) → b ≡ empties_term (term_of t) → b ≡ empties (seen t)
empties-by t l b e some is =
    is ∙ sym (ap empties (seen-is t) ∙ ap (λ z. z || empties_term (term_of t)) (ap (λ (m : ParticleLabel). is_zero m.min) (sym e) ∙ some-zero l.min some))

pub empties-seen : (t : Rose ParticleLabel) → empties (seen t) ≡ true → (is_zero (label_of t).min || empties_term (term_of t)) ≡ true
empties-seen t e = sym (ap empties (seen-is t)) ∙ e

pub empty_value-seen : (t : Rose ParticleLabel) → empty_value (seen t) ≡ cond (is_once (label_of t).min (label_of t).max) (empty_term (term_of t)) (node value.SequenceOf rose.none)
empty_value-seen t = ap empty_value (seen-is t)

pub left_out-seen : (t : Rose ParticleLabel) → may_be_left_out (seen t) ≡ is_optional (label_of t).min (label_of t).max
left_out-seen t = ap may_be_left_out (seen-is t)

pub enter-seen : (t : Rose ParticleLabel) (a : Name) (s : Spot) → enter (seen t) a ≡ Some s → enter_term (term_of t) a ≡ Some (inner_in s)
enter-seen t a (at i s) e = (invert.enter-term (term_of t) (label_of t).min (label_of t).max a i s (sym (ap (λ p. enter p a) (seen-is t)) ∙ e)).1

pub entered-seen : (b : Bool) (t : Rose ParticleLabel) (s : Spot) (z : Zip ValueLabel)
    → entered b (seen t) s z ≡ entered_term (term_of t) (inner_in s) (items_opened (is_single b (label_of t).min (label_of t).max) z)
entered-seen b t (at i s) z = ap (λ p. entered b p (at i s) z) (seen-is t)

pub finishes-seen : (t : Rose ParticleLabel) (s : Spot) → finishes (seen t) s ≡ true → finishes_term (term_of t) (inner_in s) ≡ true
finishes-seen t (at i s) e = (both_true (finishes_term (term_of t) s) (may_stop (label_of t).min i) (sym (ap (λ p. finishes p (at i s)) (seen-is t)) ∙ e)).0

pub ended-seen : (b : Bool) (t : Rose ParticleLabel) (s : Spot) (z : Zip ValueLabel)
    → ended b (seen t) s z ≡ items_closed (is_single b (label_of t).min (label_of t).max) (ended_term (term_of t) (inner_in s) z)
ended-seen b t (at i s) z = ap (λ p. ended b p (at i s) z) (seen-is t)

pub next-seen : (t : Rose ParticleLabel) (a : Name) (s u : Spot) → next (seen t) s a ≡ Some u
    → invert.Onwards (term_of t) (label_of t).max (turn_in s) (inner_in s) a (turn_in u) (inner_in u)
next-seen t a (at i s) (at j u) e = invert.next-term (term_of t) (label_of t).min (label_of t).max a i j s u (sym (ap (λ p. next p (at i s) a) (seen-is t)) ∙ e)

-- ---- a list of kids at one of them

abbrev pub kids_seen : List (Rose ParticleLabel) → Particles
kids_seen ts = all_seen (roses_of ts)

module _ {L : Type 0} (ts : List (Rose L)) (k : ℕ) (kid : Rose L) (within : k < length ts) (there : kid ≡ get_or ts k kid) where
  kid-split : take k ts ++ kid ∷ drop (k + 1) ts ≡ ts
  kid-split = ap (λ d. take k ts ++ d) (sym (drop_more ts k kid within ∙ ap (λ x. x ∷ drop (k + 1) ts) (sym there))) ∙ take-append-drop k ts

  pub at-kid : (P : List (Rose L) → List (Rose L) → List (Rose L) → ℕ → Type 0) → ((front behind : List (Rose L)) → P front behind (front ++ kid ∷ behind) (length front))
      → P (take k ts) (drop (k + 1) ts) ts k
  at-kid P f =
      subst (λ us. P (take k ts) (drop (k + 1) ts) us k) kid-split
      (subst (λ n. P (take k ts) (drop (k + 1) ts) (take k ts ++ kid ∷ drop (k + 1) ts) n) (length-take-le k ts (omega arith)) (f (take k ts) (drop (k + 1) ts)))

emptied-values : (b : Bool) (v : Rose ValueLabel) (vs : List (Rose ValueLabel)) → cond b [] (v ∷ []) ++ vs ≡ cond b vs (v ∷ vs)
emptied-values true v vs = refl
emptied-values false v vs = refl

-- the parts of the first and those of the others
pub emptied-more : (p : Particle) (ps : Particles) (z : Zip ValueLabel) → emptied ps (emptied (more p none) z) ≡ emptied (more p ps) z
emptied-more p ps z =
    parts-more (empty_flags (more p none)) (empty_flags ps) (empty_values (more p none)) (empty_values ps) z
    ∙ ap (λ vs. with_parts (empty_flags (more p ps)) vs z) (emptied-values (may_be_left_out p) (empty_value p) (empty_values ps))

-- the parts of all but the last, and its
pub emptied-push : (front : List (Rose ParticleLabel)) (t : Rose ParticleLabel) (z : Zip ValueLabel)
    → emptied (kids_seen (front ++ t ∷ [])) z ≡ emptied (more (seen t) none) (emptied (kids_seen front) z)
emptied-push [] t z = ap (λ y. emptied (more (seen t) none) y) (sym (parts-none z))
emptied-push (u ∷ front) t z =
    sym (emptied-more (seen u) (kids_seen (front ++ t ∷ [])) z) ∙ emptied-push front t (emptied (more (seen u) none) z)
    ∙ ap (λ y. emptied (more (seen t) none) y) (emptied-more (seen u) (kids_seen front) z)

-- ---- entering a sequence

pub order-within : (ts : List (Rose ParticleLabel)) (a : Name) (k : ℕ) (s : Spot) → enter_order (kids_seen ts) a ≡ Some (inside k s) → k < length ts
order-within [] a k s e = absurd (cc)
order-within (t ∷ ts) a zero s e = omega arith
order-within (t ∷ ts) a (suc k) s e = let h = order-within ts a k s (invert.enter_order-later (seen t) (kids_seen ts) a k s e).1 in omega arith

order-enters : (kid : Rose ParticleLabel) (a : Name) (s : Spot) (front behind : List (Rose ParticleLabel)) → enter_order (kids_seen (front ++ kid ∷ behind)) a ≡ Some (inside (length front) s)
    → (all_empty (kids_seen front) ≡ true) × (enter (seen kid) a ≡ Some s)
order-enters kid a s [] behind e = (refl, invert.enter_order-first (seen kid) (kids_seen behind) a s e)
order-enters kid a s (t ∷ front) behind e =
    let x = invert.enter_order-later (seen t) (kids_seen (front ++ kid ∷ behind)) a (length front) s e in
    let y = order-enters kid a s front behind x.1 in
    (rw (x.0, y.0) refl, y.1)

order-entered : (kid : Rose ParticleLabel) (s : Spot) (z : Zip ValueLabel) (front behind : List (Rose ParticleLabel))
    → entered_order (kids_seen (front ++ kid ∷ behind)) (inside (length front) s) z ≡ entered false (seen kid) s (flagged true (emptied (kids_seen front) z))
order-entered kid s z [] behind = ap (λ y. entered false (seen kid) s (flagged true y)) (sym (parts-none z))
order-entered kid s z (t ∷ front) behind =
    order-entered kid s (emptied (more (seen t) none) z) front behind ∙ ap (λ y. entered false (seen kid) s (flagged true y)) (emptied-more (seen t) (kids_seen front) z)

module _ (ts : List (Rose ParticleLabel)) (k : ℕ) (kid : Rose ParticleLabel) (within : k < length ts) (there : kid ≡ get_or ts k kid) where
  pub order-enters-at : (a : Name) (s : Spot) → enter_order (kids_seen ts) a ≡ Some (inside k s) → (all_empty (kids_seen (take k ts)) ≡ true) × (enter (seen kid) a ≡ Some s)
  order-enters-at a s =
      at-kid ts k kid within there (λ front behind us n. enter_order (kids_seen us) a ≡ Some (inside n s) → (all_empty (kids_seen front) ≡ true) × (enter (seen kid) a ≡ Some s))
      (order-enters kid a s)

  pub order-entered-at : (s : Spot) (z : Zip ValueLabel) → entered_order (kids_seen ts) (inside k s) z ≡ entered false (seen kid) s (flagged true (emptied (kids_seen (take k ts)) z))
  order-entered-at s z =
      at-kid ts k kid within there (λ front behind us n. entered_order (kids_seen us) (inside n s) z ≡ entered false (seen kid) s (flagged true (emptied (kids_seen front) z)))
      (order-entered kid s z)

-- ---- entering a choice

pub one-within : (ts : List (Rose ParticleLabel)) (a : Name) (k : ℕ) (s : Spot) → enter_one (kids_seen ts) a ≡ Some (inside k s) → k < length ts
one-within [] a k s e = absurd (cc)
one-within (t ∷ ts) a zero s e = omega arith
one-within (t ∷ ts) a (suc k) s e = let h = one-within ts a k s (invert.enter_one-later (seen t) (kids_seen ts) a k s e) in omega arith

one-enters : (kid : Rose ParticleLabel) (a : Name) (s : Spot) (front behind : List (Rose ParticleLabel)) → enter_one (kids_seen (front ++ kid ∷ behind)) a ≡ Some (inside (length front) s) → enter (seen kid) a ≡ Some s
one-enters kid a s [] behind e = invert.enter_one-first (seen kid) (kids_seen behind) a s e
one-enters kid a s (t ∷ front) behind e = one-enters kid a s front behind (invert.enter_one-later (seen t) (kids_seen (front ++ kid ∷ behind)) a (length front) s e)

one-entered : (kid : Rose ParticleLabel) (s : Spot) (z : Zip ValueLabel) (front behind : List (Rose ParticleLabel)) → entered_one (kids_seen (front ++ kid ∷ behind)) (length front) s z ≡ entered true (seen kid) s z
one-entered kid s z [] behind = refl
one-entered kid s z (t ∷ front) behind = one-entered kid s z front behind

module _ (ts : List (Rose ParticleLabel)) (k : ℕ) (kid : Rose ParticleLabel) (within : k < length ts) (there : kid ≡ get_or ts k kid) where
  pub one-enters-at : (a : Name) (s : Spot) → enter_one (kids_seen ts) a ≡ Some (inside k s) → enter (seen kid) a ≡ Some s
  one-enters-at a s = at-kid ts k kid within there (λ front behind us n. enter_one (kids_seen us) a ≡ Some (inside n s) → enter (seen kid) a ≡ Some s) (one-enters kid a s)

  pub one-entered-at : (s : Spot) (z : Zip ValueLabel) → entered_one (kids_seen ts) k s z ≡ entered true (seen kid) s z
  one-entered-at s z = at-kid ts k kid within there (λ front behind us n. entered_one (kids_seen us) n s z ≡ entered true (seen kid) s z) (one-entered kid s z)

-- ---- behind a leaf in a sequence

pub order-ends-within : (ts : List (Rose ParticleLabel)) (k : ℕ) (s : Spot) → finishes_order (kids_seen ts) (inside k s) ≡ true → k < length ts
order-ends-within [] k s e = absurd (cc)
order-ends-within (t ∷ ts) zero s e = omega arith
order-ends-within (t ∷ ts) (suc k) s e = let h = order-ends-within ts k s e in omega arith

order-ends : (kid : Rose ParticleLabel) (s : Spot) (front behind : List (Rose ParticleLabel)) → finishes_order (kids_seen (front ++ kid ∷ behind)) (inside (length front) s) ≡ true
    → (finishes (seen kid) s ≡ true) × (all_empty (kids_seen behind) ≡ true)
order-ends kid s [] behind e = both_true (finishes (seen kid) s) (all_empty (kids_seen behind)) e
order-ends kid s (t ∷ front) behind e = order-ends kid s front behind e

order-ended : (kid : Rose ParticleLabel) (s : Spot) (z : Zip ValueLabel) (front behind : List (Rose ParticleLabel))
    → ended_order (kids_seen (front ++ kid ∷ behind)) (inside (length front) s) z ≡ emptied (kids_seen behind) (ended false (seen kid) s z)
order-ended kid s z [] behind = refl
order-ended kid s z (t ∷ front) behind = order-ended kid s z front behind

module _ (ts : List (Rose ParticleLabel)) (k : ℕ) (kid : Rose ParticleLabel) (within : k < length ts) (there : kid ≡ get_or ts k kid) where
  pub order-ends-at : (s : Spot) → finishes_order (kids_seen ts) (inside k s) ≡ true → (finishes (seen kid) s ≡ true) × (all_empty (kids_seen (drop (k + 1) ts)) ≡ true)
  order-ends-at s =
      at-kid ts k kid within there (λ front behind us n. finishes_order (kids_seen us) (inside n s) ≡ true → (finishes (seen kid) s ≡ true) × (all_empty (kids_seen behind) ≡ true))
      (order-ends kid s)

  pub order-ended-at : (s : Spot) (z : Zip ValueLabel) → ended_order (kids_seen ts) (inside k s) z ≡ emptied (kids_seen (drop (k + 1) ts)) (ended false (seen kid) s z)
  order-ended-at s z =
      at-kid ts k kid within there (λ front behind us n. ended_order (kids_seen us) (inside n s) z ≡ emptied (kids_seen behind) (ended false (seen kid) s z)) (order-ended kid s z)

-- ---- behind a leaf in a choice

pub one-ends-within : (ts : List (Rose ParticleLabel)) (k : ℕ) (s : Spot) → finishes_one (kids_seen ts) (inside k s) ≡ true → k < length ts
one-ends-within [] k s e = absurd (cc)
one-ends-within (t ∷ ts) zero s e = omega arith
one-ends-within (t ∷ ts) (suc k) s e = let h = one-ends-within ts k s e in omega arith

one-ends : (kid : Rose ParticleLabel) (s : Spot) (front behind : List (Rose ParticleLabel)) → finishes_one (kids_seen (front ++ kid ∷ behind)) (inside (length front) s) ≡ true → finishes (seen kid) s ≡ true
one-ends kid s [] behind e = e
one-ends kid s (t ∷ front) behind e = one-ends kid s front behind e

one-ended : (kid : Rose ParticleLabel) (s : Spot) (z : Zip ValueLabel) (front behind : List (Rose ParticleLabel)) → ended_one (kids_seen (front ++ kid ∷ behind)) (length front) s z ≡ ended true (seen kid) s z
one-ended kid s z [] behind = refl
one-ended kid s z (t ∷ front) behind = one-ended kid s z front behind

module _ (ts : List (Rose ParticleLabel)) (k : ℕ) (kid : Rose ParticleLabel) (within : k < length ts) (there : kid ≡ get_or ts k kid) where
  pub one-ends-at : (s : Spot) → finishes_one (kids_seen ts) (inside k s) ≡ true → finishes (seen kid) s ≡ true
  one-ends-at s = at-kid ts k kid within there (λ front behind us n. finishes_one (kids_seen us) (inside n s) ≡ true → finishes (seen kid) s ≡ true) (one-ends kid s)

  pub one-ended-at : (s : Spot) (z : Zip ValueLabel) → ended_one (kids_seen ts) k s z ≡ ended true (seen kid) s z
  one-ended-at s z = at-kid ts k kid within there (λ front behind us n. ended_one (kids_seen us) n s z ≡ ended true (seen kid) s z) (one-ended kid s z)

-- ---- from one alternative

pub one-moves-within : (ts : List (Rose ParticleLabel)) (a : Name) (j k : ℕ) (s u : Spot) → next_one (kids_seen ts) (inside j s) a ≡ Some (inside k u) → (j < length ts) × (k ≡ j)
one-moves-within [] a j k s u e = absurd (cc)
one-moves-within (t ∷ ts) a zero k s u e = (omega arith, (invert.next_one-first (seen t) (kids_seen ts) a s k u e).0)
one-moves-within (t ∷ ts) a (suc j) zero s u e = absurd (invert.next_one-back (seen t) (kids_seen ts) a j s u e)
one-moves-within (t ∷ ts) a (suc j) (suc k) s u e =
    let h = one-moves-within ts a j k s u (invert.next_one-later (seen t) (kids_seen ts) a j s k u e) in
    let below = h.0 in
    (omega arith, ap suc h.1)

one-moves : (kid : Rose ParticleLabel) (a : Name) (s u : Spot) (front behind : List (Rose ParticleLabel))
    → next_one (kids_seen (front ++ kid ∷ behind)) (inside (length front) s) a ≡ Some (inside (length front) u) → next (seen kid) s a ≡ Some u
one-moves kid a s u [] behind e = (invert.next_one-first (seen kid) (kids_seen behind) a s 0 u e).1
one-moves kid a s u (t ∷ front) behind e = one-moves kid a s u front behind (invert.next_one-later (seen t) (kids_seen (front ++ kid ∷ behind)) a (length front) s (length front) u e)

one-moved : (kid : Rose ParticleLabel) (s u : Spot) (z : Zip ValueLabel) (front behind : List (Rose ParticleLabel)) → moved_one (kids_seen (front ++ kid ∷ behind)) (length front) s u z ≡ moved (seen kid) s u z
one-moved kid s u z [] behind = refl
one-moved kid s u z (t ∷ front) behind = one-moved kid s u z front behind

module _ (ts : List (Rose ParticleLabel)) (k : ℕ) (kid : Rose ParticleLabel) (within : k < length ts) (there : kid ≡ get_or ts k kid) where
  pub one-moves-at : (a : Name) (s u : Spot) → next_one (kids_seen ts) (inside k s) a ≡ Some (inside k u) → next (seen kid) s a ≡ Some u
  one-moves-at a s u =
      at-kid ts k kid within there (λ front behind us n. next_one (kids_seen us) (inside n s) a ≡ Some (inside n u) → next (seen kid) s a ≡ Some u) (one-moves kid a s u)

  pub one-moved-at : (s u : Spot) (z : Zip ValueLabel) → moved_one (kids_seen ts) k s u z ≡ moved (seen kid) s u z
  one-moved-at s u z = at-kid ts k kid within there (λ front behind us n. moved_one (kids_seen us) n s u z ≡ moved (seen kid) s u z) (one-moved kid s u z)

-- ---- from one particle of a sequence

pub order-moves-within : (ts : List (Rose ParticleLabel)) (a : Name) (j k : ℕ) (s u : Spot) → next_order (kids_seen ts) (inside j s) a ≡ Some (inside k u) → (j ≤ k) × (k < length ts)
order-moves-within [] a j k s u e = absurd (cc)
order-moves-within (t ∷ ts) a zero zero s u e = (omega arith, omega arith)
order-moves-within (t ∷ ts) a zero (suc k) s u e =
    let h = order-within ts a k u (invert.next_order-leaves (seen t) (kids_seen ts) a s k u e).1 in
    (omega arith, omega arith)
order-moves-within (t ∷ ts) a (suc j) zero s u e = absurd (invert.next_order-back (seen t) (kids_seen ts) a j s u e)
order-moves-within (t ∷ ts) a (suc j) (suc k) s u e =
    let h = order-moves-within ts a j k s u (invert.next_order-later (seen t) (kids_seen ts) a j s k u e) in
    let below = h.0 in
    let above = h.1 in
    (omega arith, omega arith)

order-stays : (kid : Rose ParticleLabel) (a : Name) (s u : Spot) (front behind : List (Rose ParticleLabel))
    → next_order (kids_seen (front ++ kid ∷ behind)) (inside (length front) s) a ≡ Some (inside (length front) u) → next (seen kid) s a ≡ Some u
order-stays kid a s u [] behind e = invert.next_order-first (seen kid) (kids_seen behind) a s u e
order-stays kid a s u (t ∷ front) behind e = order-stays kid a s u front behind (invert.next_order-later (seen t) (kids_seen (front ++ kid ∷ behind)) a (length front) s (length front) u e)

order-stayed : (kid : Rose ParticleLabel) (s u : Spot) (z : Zip ValueLabel) (front behind : List (Rose ParticleLabel))
    → moved_order (kids_seen (front ++ kid ∷ behind)) (inside (length front) s) (inside (length front) u) z ≡ moved (seen kid) s u z
order-stayed kid s u z [] behind = refl
order-stayed kid s u z (t ∷ front) behind = order-stayed kid s u z front behind

order-leaves : (kid : Rose ParticleLabel) (a : Name) (s : Spot) (i : ℕ) (u : Spot) (front behind : List (Rose ParticleLabel)) (k : ℕ) → k ≡ suc (i + length front)
    → next_order (kids_seen (front ++ kid ∷ behind)) (inside (length front) s) a ≡ Some (inside k u)
    → (finishes (seen kid) s ≡ true) × (enter_order (kids_seen behind) a ≡ Some (inside i u))
order-leaves kid a s i u [] behind k n e =
    let one : k ≡ suc i = omega arith in
    invert.next_order-leaves (seen kid) (kids_seen behind) a s i u (subst (λ m. next_order (kids_seen (kid ∷ behind)) (inside zero s) a ≡ Some (inside m u)) one e)
order-leaves kid a s i u (t ∷ front) behind zero n e = absurd (omega arith)
order-leaves kid a s i u (t ∷ front) behind (suc k) n e =
    order-leaves kid a s i u front behind k (omega arith) (invert.next_order-later (seen t) (kids_seen (front ++ kid ∷ behind)) a (length front) s k u e)

order-left : (kid : Rose ParticleLabel) (s : Spot) (i : ℕ) (u : Spot) (z : Zip ValueLabel) (front behind : List (Rose ParticleLabel)) (k : ℕ) → k ≡ suc (i + length front)
    → moved_order (kids_seen (front ++ kid ∷ behind)) (inside (length front) s) (inside k u) z ≡ entered_order (kids_seen behind) (inside i u) (ended false (seen kid) s z)
order-left kid s i u z [] behind k n =
    let one : k ≡ suc i = omega arith in
    ap (λ m. moved_order (kids_seen (kid ∷ behind)) (inside zero s) (inside m u) z) one
order-left kid s i u z (t ∷ front) behind zero n = absurd (omega arith)
order-left kid s i u z (t ∷ front) behind (suc k) n = order-left kid s i u z front behind k (omega arith)

module _ (ts : List (Rose ParticleLabel)) (j : ℕ) (old : Rose ParticleLabel) (within : j < length ts) (there : old ≡ get_or ts j old) where
  pub order-stays-at : (a : Name) (s u : Spot) → next_order (kids_seen ts) (inside j s) a ≡ Some (inside j u) → next (seen old) s a ≡ Some u
  order-stays-at a s u =
      at-kid ts j old within there (λ front behind us n. next_order (kids_seen us) (inside n s) a ≡ Some (inside n u) → next (seen old) s a ≡ Some u) (order-stays old a s u)

  pub order-stayed-at : (s u : Spot) (z : Zip ValueLabel) → moved_order (kids_seen ts) (inside j s) (inside j u) z ≡ moved (seen old) s u z
  order-stayed-at s u z =
      at-kid ts j old within there (λ front behind us n. moved_order (kids_seen us) (inside n s) (inside n u) z ≡ moved (seen old) s u z) (order-stayed old s u z)

  leaves-at : (a : Name) (s : Spot) (i k : ℕ) (u : Spot) → k ≡ suc (i + j) → next_order (kids_seen ts) (inside j s) a ≡ Some (inside k u)
      → (finishes (seen old) s ≡ true) × (enter_order (kids_seen (drop (j + 1) ts)) a ≡ Some (inside i u))
  leaves-at a s i k u =
      at-kid ts j old within there
      (λ front behind us n. k ≡ suc (i + n) → next_order (kids_seen us) (inside n s) a ≡ Some (inside k u)
      → (finishes (seen old) s ≡ true) × (enter_order (kids_seen behind) a ≡ Some (inside i u)))
      (λ front behind. order-leaves old a s i u front behind k)

  left-at : (s : Spot) (i k : ℕ) (u : Spot) (z : Zip ValueLabel) → k ≡ suc (i + j)
      → moved_order (kids_seen ts) (inside j s) (inside k u) z ≡ entered_order (kids_seen (drop (j + 1) ts)) (inside i u) (ended false (seen old) s z)
  left-at s i k u z =
      at-kid ts j old within there
      (λ front behind us n. k ≡ suc (i + n) → moved_order (kids_seen us) (inside n s) (inside k u) z ≡ entered_order (kids_seen behind) (inside i u) (ended false (seen old) s z))
      (λ front behind. order-left old s i u z front behind k)

  -- to a later kid
  module _ (k : ℕ) (new : Rose ParticleLabel) (past : j < k) (below : k < length ts) (at_new : new ≡ get_or ts k new) where
    new-within : k - (j + 1) < length (drop (j + 1) ts)
    new-within = omega (arith, length-drop (j + 1) ts)

    new-there : new ≡ get_or (drop (j + 1) ts) (k - (j + 1)) new
    new-there = at_new ∙ ap (λ n. get_or ts n new) (omega arith) ∙ sym (get_or-drop (j + 1) ts (k - (j + 1)) new)

    number : k ≡ suc ((k - (j + 1)) + j)
    number = omega arith

    pub over-leaves : (a : Name) (s u : Spot) → next_order (kids_seen ts) (inside j s) a ≡ Some (inside k u)
        → (finishes (seen old) s ≡ true) × (all_empty (kids_seen (take (k - (j + 1)) (drop (j + 1) ts))) ≡ true) × (enter (seen new) a ≡ Some u)
    over-leaves a s u e =
        let x = leaves-at a s (k - (j + 1)) k u number e in
        let y = order-enters-at (drop (j + 1) ts) (k - (j + 1)) new new-within new-there a u x.1 in
        (x.0, y.0, y.1)

    pub over-left : (s u : Spot) (z : Zip ValueLabel)
        → moved_order (kids_seen ts) (inside j s) (inside k u) z
        ≡ entered false (seen new) u (flagged true (emptied (kids_seen (take (k - (j + 1)) (drop (j + 1) ts))) (ended false (seen old) s z)))
    over-left s u z = left-at s (k - (j + 1)) k u z number ∙ order-entered-at (drop (j + 1) ts) (k - (j + 1)) new new-within new-there u (ended false (seen old) s z)

-- ---- for the code

pub on-ok : {X E : Type 0} (r : Result X E) (P Q : Type 0) → (P → Q) → OnOk r P → OnOk r Q
on-ok (Ok x) P Q f h = f h
on-ok (Err e) P Q f h = h

pub kid-there : (ts : List (Rose ParticleLabel)) (k : ℕ) → k < length ts → (kid : Rose ParticleLabel) × (kid ≡ get_or ts k kid)
kid-there [] k h = absurd (omega arith)
kid-there (t ∷ ts) zero h = (t, refl)
kid-there (t ∷ ts) (suc k) h = kid-there ts k (omega arith)

pub part-kept : (p : Particle) → may_be_left_out p ≡ false → (z : Zip ValueLabel) → added (empty_value p) (flagged true z) ≡ emptied (more p none) z
part-kept p e z = part-present (empty_value p) z ∙ ap (λ b. with_parts (not b ∷ []) (cond b [] (empty_value p ∷ [])) z) (sym e)

pub entered-by : (b : Bool) (t : Rose ParticleLabel) (l : ParticleLabel) (s : Spot) → l ≡ label_of t → (z : Zip ValueLabel)
    → entered_term (term_of t) (inner_in s) (items_opened (is_single b l.min l.max) z) ≡ entered b (seen t) s z
entered-by b t l s e z = ap (λ (m : ParticleLabel). entered_term (term_of t) (inner_in s) (items_opened (is_single b m.min m.max) z)) e ∙ sym (entered-seen b t s z)

pub ended-by : (b : Bool) (t : Rose ParticleLabel) (l : ParticleLabel) (s : Spot) → l ≡ label_of t → (z : Zip ValueLabel)
    → items_closed (is_single b l.min l.max) (ended_term (term_of t) (inner_in s) z) ≡ ended b (seen t) s z
ended-by b t l s e z = ap (λ (m : ParticleLabel). items_closed (is_single b m.min m.max) (ended_term (term_of t) (inner_in s) z)) e ∙ sym (ended-seen b t s z)

-- no way ends at a group
pub no-order-here : (ps : Particles) → finishes_order ps here ≡ true → ⊥
no-order-here none e = cc
no-order-here (more p ps) e = cc

pub no-one-here : (ps : Particles) → finishes_one ps here ≡ true → ⊥
no-one-here none e = cc
no-one-here (more p ps) e = cc

pub kid-get : (ts : List (Rose ParticleLabel)) (k : ℕ) (kid : Rose ParticleLabel) → k < length ts → kid ≡ get_or ts k kid → slice_get ts k ≡ Some kid
kid-get ts k kid h e = slice_get_read ts (length ts) k kid refl h e

pub kid-got : (ts : List (Rose ParticleLabel)) (k : ℕ) (kid : Rose ParticleLabel) → slice_get ts k ≡ Some kid → kid ≡ get_or ts k kid
kid-got ts k kid e = sym (get_or_from_slice_get ts k kid kid e)

pub same-kid : (ts : List (Rose ParticleLabel)) (k : ℕ) (a b : Rose ParticleLabel) → k < length ts → a ≡ get_or ts k a → b ≡ get_or ts k b → a ≡ b
same-kid [] k a b h e f = absurd (omega arith)
same-kid (t ∷ ts) zero a b h e f = e ∙ sym f
same-kid (t ∷ ts) (suc k) a b h e f = same-kid ts k a b (omega arith) e f

all-empty-each : (kid : Rose ParticleLabel) (front behind : List (Rose ParticleLabel)) → all_empty (kids_seen (front ++ kid ∷ behind)) ≡ true → empties (seen kid) ≡ true
all-empty-each kid [] behind e = (both_true (empties (seen kid)) (all_empty (kids_seen behind)) e).0
all-empty-each kid (t ∷ front) behind e = all-empty-each kid front behind (both_true (empties (seen t)) (all_empty (kids_seen (front ++ kid ∷ behind))) e).1

module _ (ts : List (Rose ParticleLabel)) (k : ℕ) (kid : Rose ParticleLabel) (within : k < length ts) (there : kid ≡ get_or ts k kid) where
  pub all-empty-at : all_empty (kids_seen ts) ≡ true → empties (seen kid) ≡ true
  all-empty-at = at-kid ts k kid within there (λ front behind us n. all_empty (kids_seen us) ≡ true → empties (seen kid) ≡ true) (all-empty-each kid)

  -- the first alternative that is left
  pub chosen-here : empties (seen kid) ≡ true → empty_chosen (kids_seen (drop k ts)) ≡ empty_value (seen kid)
  chosen-here e =
      ap (λ us. empty_chosen (all_seen us)) (roses_of-drop ts k kid within there) ∙ ap (λ b. cond b (empty_value (seen kid)) (empty_chosen (kids_seen (drop (k + 1) ts)))) e

-- ---- the same occurrence, or the next

pub stays : (t : Term) (most : Option ℕ) (i : ℕ) (s : Inner) (a : Name) (j : ℕ) (u : Inner) → invert.Onwards t most i s a j u → i ≡ j → next_term t s a ≡ Some u
stays t most i s a j u (inl h) e = h.1
stays t most i s a j u (inr h) e = let n = h.0 in absurd (omega arith)

pub goes : (t : Term) (most : Option ℕ) (i : ℕ) (s : Inner) (a : Name) (j : ℕ) (u : Inner) → invert.Onwards t most i s a j u → (i ≡ j → ⊥)
    → (j ≡ suc i) × (finishes_term t s ≡ true) × (enter_term t a ≡ Some u)
goes t most i s a j u (inl h) n = absurd (n (sym h.0))
goes t most i s a j u (inr h) n = (h.0, h.1, h.3)

moved-as : (t : Term) (least : ℕ) (most : Option ℕ) (s u : Spot) (z : Zip ValueLabel)
    → moved (occurs t least most) s u z
    ≡ cond (turn_in s == turn_in u) (moved_term t (inner_in s) (inner_in u) z) (entered_term t (inner_in u) (ended_term t (inner_in s) z))
moved-as t least most (at i s) (at j u) z = refl

moved-seen : (t : Rose ParticleLabel) (s u : Spot) (z : Zip ValueLabel)
    → moved (seen t) s u z
    ≡ cond (turn_in s == turn_in u) (moved_term (term_of t) (inner_in s) (inner_in u) z) (entered_term (term_of t) (inner_in u) (ended_term (term_of t) (inner_in s) z))
moved-seen t s u z = ap (λ p. moved p s u z) (seen-is t) ∙ moved-as (term_of t) (label_of t).min (label_of t).max s u z

pub moved-stays : (t : Rose ParticleLabel) (s u : Spot) (z : Zip ValueLabel) → turn_in s ≡ turn_in u → moved_term (term_of t) (inner_in s) (inner_in u) z ≡ moved (seen t) s u z
moved-stays t s u z e =
    sym (moved-seen t s u z
    ∙ ap (λ b. cond b (moved_term (term_of t) (inner_in s) (inner_in u) z) (entered_term (term_of t) (inner_in u) (ended_term (term_of t) (inner_in s) z)))
    (ap (λ n. turn_in s == n) (sym e) ∙ same-turn (turn_in s)))

pub moved-goes : (t : Rose ParticleLabel) (s u : Spot) (z : Zip ValueLabel) → turn_in u ≡ suc (turn_in s)
    → entered_term (term_of t) (inner_in u) (ended_term (term_of t) (inner_in s) z) ≡ moved (seen t) s u z
moved-goes t s u z e =
    sym (moved-seen t s u z
    ∙ ap (λ b. cond b (moved_term (term_of t) (inner_in s) (inner_in u) z) (entered_term (term_of t) (inner_in u) (ended_term (term_of t) (inner_in s) z)))
    (ap (λ n. turn_in s == n) e ∙ other-turn (turn_in s)))

-- all that is left of a list, as a slice to its end has it
pub rest-is : (ts : List (Rose ParticleLabel)) (n : ℕ) → take (length ts - n) (drop n ts) ≡ drop n ts
rest-is ts n = ap (λ k. take k (drop n ts)) (sym (length-drop n ts)) ∙ take-length (drop n ts)
