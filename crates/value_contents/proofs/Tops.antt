-- A content model as the code has it.
use Rattle.std.proofs.Common.{◌≡◌, ℕ, suc, ◌<◌, inl, inr, Bool, true, false, ◌==◌, cond, List, [], ◌∷◌, length, Option, Some, None, refl, sym, ◌∙◌, ap, subst, arith}
use Rattle.std.proofs.lemmas.Bool.{eqb-true, ltb-true}
use Rattle.base_trees.specs.Rose.{Rose, label_of, kids_of}
use Rattle.base_flat_trees.specs.Zips.{Zip}
use Rattle.base_texts.specs.declared.texts.Name.{Name}
use Rattle.simple_types.specs.declared.labels.ValueLabel.{ValueLabel}
use Rattle.content_models.specs.declared.particles.ParticleKind.{ParticleKind}
use Rattle.content_models.specs.declared.particles.ParticleKind.TheVariants as kinds
use Rattle.content_models.specs.declared.particles.ParticleLabel.{ParticleLabel}
use Rattle.content_models.specs.Seen.{seen, term_seen}
use Rattle.content_models.specs.Particle.{Particle, occurs, Term, element, sequence, choice, all, Particles, none, more}
use Rattle.content_models.specs.Clear.{empties, empties_term, all_empty, IsNoAll, IsNoAllTerm}
use Rattle.content_models.specs.Spots.{Spot, may_repeat, enter, enter_term, enter_order, finishes, finishes_term, finishes_order, next, next_term, next_order}
use Rattle.content_models.specs.SpotLaws.{step_from, may_end}
use Rattle.content_models.proofs.Entering.{both_true}
use Rattle.content_match.specs.Private.Standing.{spot_of, spot_now}
use Rattle.content_match.specs.declared.places.Turn.{Turn}
use Rattle.value_builder.specs.Built.{Built, Stands, Puts, flagged, with_parts}
use Rattle.value_contents.specs.Bounds.{is_once, is_parted}
use Rattle.value_contents.specs.Made.{Child, TopMade}
use Rattle.value_contents.specs.Reached.{TermKeepsRule1, IsFillable, TopReached, Put}
use Rattle.value_contents.specs.Private.Empty.{term_of, emptied}
use Rattle.value_contents.specs.Private.Moves.{turn_in, inner_in, entered, entered_order, ended, ended_order, moved, moved_order, order_entered, order_moved, order_ended, order_emptied, top_entered, top_moved, top_ended, top_emptied}
use Rattle.value_contents.proofs.Filling.{once-empty}
use Rattle.value_contents.proofs.Inverting as invert
use Rattle.value_contents.proofs.Kids.{kids_seen, seen-is, enter-seen, finishes-seen, next-seen, empties-seen}
use Rattle.value_contents.proofs.Topping.{top-enters, top-moves, top-ends, top-empty}

-- ---- whether it is parted

abbrev pub parted : Rose ParticleLabel → Bool
parted t = is_parted (term_of t) (label_of t).min (label_of t).max

pub parted-known : (t : Rose ParticleLabel) (l : ParticleLabel) (b : Bool) → l ≡ label_of t → ((ps : Particles) → b ≡ is_parted (term_seen l.kind ps) l.min l.max) → parted t ≡ b
parted-known t l b e f = sym (f (kids_seen (kids_of t)) ∙ ap (λ (m : ParticleLabel). is_parted (term_seen m.kind (kids_seen (kids_of t))) m.min m.max) e)

-- what is filled is no all
no-all : (t : Term) → TermKeepsRule1 t → IsNoAllTerm t
no-all (element d a) k = tt
no-all (sequence ps) k = tt
no-all (choice ps) k = tt
no-all (all ps) k = k

pub fillable-no-all : (p : Particle) → IsFillable p → IsNoAll p
fillable-no-all (occurs t least most) k = no-all t k.1.1

sequence-kind : (kind : ParticleKind) (ps : Particles) (least : ℕ) (most : Option ℕ) → IsNoAllTerm (term_seen kind ps) → is_parted (term_seen kind ps) least most ≡ true → term_seen kind ps ≡ sequence ps
sequence-kind (kinds.Element d a) ps least most n h = absurd (cc)
sequence-kind kinds.Sequence ps least most n h = refl
sequence-kind kinds.Choice ps least most n h = absurd (cc)
sequence-kind kinds.All ps least most n h = absurd n

pub parted-term : (t : Rose ParticleLabel) (kids : List (Rose ParticleLabel)) → kids ≡ kids_of t → IsNoAll (seen t) → parted t ≡ true → term_of t ≡ sequence (kids_seen kids)
parted-term t kids e n h =
    sequence-kind (label_of t).kind (kids_seen (kids_of t)) (label_of t).min (label_of t).max (subst IsNoAll (seen-is t) n) h ∙ ap (λ ks. sequence (kids_seen ks)) (sym e)

parted-once : (t : Term) (ps : Particles) (least : ℕ) (most : Option ℕ) → t ≡ sequence ps → is_parted t least most ≡ true → is_once least most ≡ true
parted-once t ps least most e h = subst (λ u. is_parted u least most ≡ true) e h

once-last : (least : ℕ) (most : Option ℕ) (i : ℕ) → is_once least most ≡ true → may_repeat most i ≡ true → ⊥
once-last least None i h e = cc
once-last least (Some m) i h e =
    let one = eqb-true m 1 (both_true (least == 1) (m == 1) h).1 in
    let over : suc i < m = ltb-true (suc i) m e in
    absurd (omega arith)

module _ (t : Rose ParticleLabel) (ps : Particles) (is : term_of t ≡ sequence ps) (once : parted t ≡ true) where
  pub parted-enters : (a : Name) (s : Spot) → enter (seen t) a ≡ Some s → enter_order ps a ≡ Some (inner_in s)
  parted-enters a s e = sym (ap (λ u. enter_term u a) is) ∙ enter-seen t a s e

  pub parted-finishes : (s : Spot) → finishes (seen t) s ≡ true → finishes_order ps (inner_in s) ≡ true
  parted-finishes s e = sym (ap (λ u. finishes_term u (inner_in s)) is) ∙ finishes-seen t s e

  pub parted-empties : empties (seen t) ≡ true → all_empty ps ≡ true
  parted-empties e =
      sym (ap empties_term is)
      ∙ once-empty (label_of t).min (label_of t).max (empties_term (term_of t)) (parted-once (term_of t) ps (label_of t).min (label_of t).max is once) (empties-seen t e)

  pub parted-moves : (a : Name) (s u : Spot) → next (seen t) s a ≡ Some u → next_order ps (inner_in s) a ≡ Some (inner_in u)
  parted-moves a s u e = go (next-seen t a s u e)
    where
      go : invert.Onwards (term_of t) (label_of t).max (turn_in s) (inner_in s) a (turn_in u) (inner_in u) → next_order ps (inner_in s) a ≡ Some (inner_in u)
      go (inl h) = sym (ap (λ x. next_term x (inner_in s) a) is) ∙ h.1
      go (inr h) = absurd (once-last (label_of t).min (label_of t).max (turn_in s) (parted-once (term_of t) ps (label_of t).min (label_of t).max is once) h.2)

  pub parted-entered : (s : Spot) (z : Zip ValueLabel) → entered_order ps (inner_in s) z ≡ top_entered (seen t) s z
  parted-entered s z =
      sym (ap (λ p. top_entered p s z) (seen-is t)
      ∙ ap (λ b. cond b (order_entered (term_of t) (inner_in s) z) (entered false (occurs (term_of t) (label_of t).min (label_of t).max) s (flagged true z))) once
      ∙ ap (λ u. order_entered u (inner_in s) z) is)

  pub parted-moved : (s u : Spot) (z : Zip ValueLabel) → moved_order ps (inner_in s) (inner_in u) z ≡ top_moved (seen t) s u z
  parted-moved s u z =
      sym (ap (λ p. top_moved p s u z) (seen-is t)
      ∙ ap (λ b. cond b (order_moved (term_of t) (inner_in s) (inner_in u) z) (moved (occurs (term_of t) (label_of t).min (label_of t).max) s u z)) once
      ∙ ap (λ x. order_moved x (inner_in s) (inner_in u) z) is)

  pub parted-ended : (s : Spot) (z : Zip ValueLabel) → ended_order ps (inner_in s) z ≡ top_ended (seen t) s z
  parted-ended s z =
      sym (ap (λ p. top_ended p s z) (seen-is t)
      ∙ ap (λ b. cond b (order_ended (term_of t) (inner_in s) z) (ended false (occurs (term_of t) (label_of t).min (label_of t).max) s z)) once
      ∙ ap (λ u. order_ended u (inner_in s) z) is)

  pub parted-emptied : (z : Zip ValueLabel) → emptied ps z ≡ top_emptied (seen t) z
  parted-emptied z =
      sym (ap (λ p. top_emptied p z) (seen-is t)
      ∙ ap (λ b. cond b (order_emptied (term_of t) z) (emptied (more (occurs (term_of t) (label_of t).min (label_of t).max) none) z)) once
      ∙ ap (λ u. order_emptied u z) is)

module _ (t : Rose ParticleLabel) (whole : parted t ≡ false) where
  pub whole-entered : (s : Spot) (z : Zip ValueLabel) → entered false (seen t) s (flagged true z) ≡ top_entered (seen t) s z
  whole-entered s z =
      ap (λ p. entered false p s (flagged true z)) (seen-is t)
      ∙ sym (ap (λ p. top_entered p s z) (seen-is t)
      ∙ ap (λ b. cond b (order_entered (term_of t) (inner_in s) z) (entered false (occurs (term_of t) (label_of t).min (label_of t).max) s (flagged true z))) whole)

  pub whole-moved : (s u : Spot) (z : Zip ValueLabel) → moved (seen t) s u z ≡ top_moved (seen t) s u z
  whole-moved s u z =
      ap (λ p. moved p s u z) (seen-is t)
      ∙ sym (ap (λ p. top_moved p s u z) (seen-is t)
      ∙ ap (λ b. cond b (order_moved (term_of t) (inner_in s) (inner_in u) z) (moved (occurs (term_of t) (label_of t).min (label_of t).max) s u z)) whole)

  pub whole-ended : (s : Spot) (z : Zip ValueLabel) → ended false (seen t) s z ≡ top_ended (seen t) s z
  whole-ended s z =
      ap (λ p. ended false p s z) (seen-is t)
      ∙ sym (ap (λ p. top_ended p s z) (seen-is t)
      ∙ ap (λ b. cond b (order_ended (term_of t) (inner_in s) z) (ended false (occurs (term_of t) (label_of t).min (label_of t).max) s z)) whole)

  pub whole-emptied : (z : Zip ValueLabel) → emptied (more (seen t) none) z ≡ top_emptied (seen t) z
  whole-emptied z =
      ap (λ p. emptied (more p none) z) (seen-is t)
      ∙ sym (ap (λ p. top_emptied p z) (seen-is t)
      ∙ ap (λ b. cond b (order_emptied (term_of t) z) (emptied (more (occurs (term_of t) (label_of t).min (label_of t).max) none) z)) whole)

-- ---- from the turns and the kids to spots

pub now-is : (us : List Turn) (ks : List ℕ) (s : Spot) → spot_now us ks ≡ Some s → spot_of us ks ≡ s
now-is [] ks s e = absurd (cc)
now-is (u ∷ us) ks s e = cc

pub now-some : (us : List Turn) (ks : List ℕ) → (us ≡ [] → ⊥) → spot_now us ks ≡ Some (spot_of us ks)
now-some [] ks n = absurd (n refl)
now-some (u ∷ us) ks n = refl

pub now-none : (us : List Turn) (ks : List ℕ) → us ≡ [] → spot_now us ks ≡ None
now-none [] ks e = refl
now-none (u ∷ us) ks e = absurd (cc)

pub turns-none : (us : List Turn) → true ≡ (length us == 0) → us ≡ []
turns-none [] e = refl
turns-none (u ∷ us) e = absurd (let n = eqb-true (suc (length us)) 0 (sym e) in omega arith)

pub turns-some : (us : List Turn) → false ≡ (length us == 0) → us ≡ [] → ⊥
turns-some [] e h = cc
turns-some (u ∷ us) e h = cc

-- ---- what the two calls promise

-- the way to the next leaf is open
abbrev pub Promised : Particle → Option Spot → Option Spot → Built → Built → Type 0
Promised p o q old new =
    (gs : List Child) (before now : Zip ValueLabel) (s : Spot) → Put p o gs before now → Stands old now → q ≡ Some s
    → (d : ℕ) × (way : Zip ValueLabel) × TopReached p s gs d before way × Stands new way

pub first-promised : (p : Particle) (o q : Option Spot) (u : Spot) (a : Name) (old new : Built) → IsFillable p → o ≡ None → q ≡ Some u → step_from p o a ≡ Some u
    → Puts (top_entered p u) old new → Promised p o q old new
first-promised p o q u a old new k start to e puts gs before now s put stands is =
    let same : u ≡ s = cc in
    let h = subst (λ x. Put p x gs before now) start put in
    let x = top-enters p a u before k (subst (λ x. step_from p x a ≡ Some u) start e) in
    subst (λ v. (d : ℕ) × (way : Zip ValueLabel) × TopReached p v gs d before way × Stands new way) same
    (x.0, top_entered p u now, rw (h.0, h.1) x.1, puts.stands now stands)

pub next-promised : (p : Particle) (o q : Option Spot) (f u : Spot) (a : Name) (old new : Built) → IsFillable p → o ≡ Some f → q ≡ Some u → step_from p o a ≡ Some u
    → Puts (top_moved p f u) old new → Promised p o q old new
next-promised p o q f u a old new k some to e puts gs before now s put stands is =
    let same : u ≡ s = cc in
    let h = subst (λ x. Put p x gs before now) some put in
    let x = top-moves p a f u gs before now k h (subst (λ x. step_from p x a ≡ Some u) some e) in
    subst (λ v. (d : ℕ) × (way : Zip ValueLabel) × TopReached p v gs d before way × Stands new way) same
    (x.0, top_moved p f u now, x.1, puts.stands now stands)

-- the parts are all there
abbrev pub Finished : Particle → Option Spot → Built → Built → Type 0
Finished p o old new =
    (gs : List Child) (before now : Zip ValueLabel) → Put p o gs before now → Stands old now
    → (flags : List Bool) × (vs : List (Rose ValueLabel)) × TopMade p flags vs gs × Stands new (with_parts flags vs before)

pub last-finished : (p : Particle) (o : Option Spot) (f : Spot) (old new : Built) → IsFillable p → o ≡ Some f → may_end p o ≡ true
    → Puts (top_ended p f) old new → Finished p o old new
last-finished p o f old new k some e puts gs before now put stands =
    let h = subst (λ x. Put p x gs before now) some put in
    let x = top-ends p f gs before now k h (subst (λ x. may_end p x ≡ true) some e) in
    (x.0, x.1, x.2, subst (λ z. Stands new z) x.3 (puts.stands now stands))

pub none-finished : (p : Particle) (o : Option Spot) (old new : Built) → IsFillable p → o ≡ None → may_end p o ≡ true
    → Puts (top_emptied p) old new → Finished p o old new
none-finished p o old new k start e puts gs before now put stands =
    let h = subst (λ x. Put p x gs before now) start put in
    let x = top-empty p before k (subst (λ x. may_end p x ≡ true) start e) in
    (x.0, x.1, subst (λ zs. TopMade p x.0 x.1 zs) (sym h.0) x.2, subst (λ z. Stands new z) (ap (top_emptied p) h.1 ∙ x.3) (puts.stands now stands))
