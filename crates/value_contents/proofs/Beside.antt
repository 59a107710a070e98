-- From a leaf that is a particle of a sequence itself to the next that is one.
use Rattle.std.proofs.Common.{◌≡◌, ℕ, ◌+◌, ◌-◌, ◌<◌, ◌≤◌, ◌⊎◌, inl, inr, Bool, true, false, ◌&&◌, List, [], ◌∷◌, length, get_or, take, drop, Some, refl, sym, ◌∙◌, ap, subst, arith}
use Rattle.std.proofs.lemmas.List.{drop_all}
use Rattle.std.specs.Prelude.{slice_index_or}
use Rattle.base_trees.specs.Rose.{Rose, label_of}
use Rattle.base_flat_trees.specs.Zips.{Zip}
use Rattle.base_texts.specs.declared.texts.Name.{Name}
use Rattle.simple_types.specs.declared.labels.ValueLabel.{ValueLabel}
use Rattle.content_models.specs.declared.particles.ParticleLabel.{ParticleLabel}
use Rattle.content_models.specs.Seen.{seen}
use Rattle.content_models.specs.Particle.{Term, element, sequence, choice, all, Particles}
use Rattle.content_models.specs.Spots.{at, Inner, here, inside, among_picked, unmarked, pick, enter, enter_term, enter_order, finishes, finishes_term, finishes_order, next, next_term, next_order}
use Rattle.content_models.proofs.Entering.{both_true}
use Rattle.content_models.proofs.Options.{over_some}
use Rattle.content_match.specs.Private.Standing.{spot_of}
use Rattle.content_match.specs.declared.places.Turn.{Turn}
use Rattle.value_builder.specs.Built.{flagged}
use Rattle.value_builder.proofs.Parts.{parts-none}
use Rattle.value_contents.specs.Bounds.{is_single}
use Rattle.value_contents.specs.Private.Empty.{term_of, emptied}
use Rattle.value_contents.specs.Private.Moves.{inner_in, items_opened, items_closed, entered, entered_term, entered_order, ended, ended_term, ended_order, moved, moved_order}
use Rattle.value_contents.proofs.Inverting as invert
use Rattle.value_contents.proofs.Kids.{kids_seen, entered-seen, enter-seen, ended-seen, finishes-seen, next-seen, moved-goes, order-within, order-enters-at, order-entered-at, order-ends-within, order-ends-at, order-ended-at, order-moves-within, order-stays-at, order-stayed-at, over-leaves, over-left, kid-there, no-order-here, no-one-here}

-- ---- the ways

alone : (ks : List ℕ) → length ks ≡ 1 → ks ≡ slice_index_or ks 0 0 ∷ []
alone [] n = absurd (omega arith)
alone (j ∷ []) n = refl
alone (j ∷ i ∷ ks) n = absurd (omega arith)

-- where there is one kid, the way ends there
one-kid : (us : List Turn) (ks : List ℕ) (k : ℕ) → ks ≡ k ∷ []
    → (inner_in (spot_of us ks) ≡ here) ⊎ ((i : ℕ) × (inner_in (spot_of us ks) ≡ inside k (at i here)))
one-kid [] ks k e = inl refl
one-kid (u ∷ []) ks k e = inr (0, ap (λ ls. inner_in (spot_of (u ∷ []) ls)) e)
one-kid (u ∷ v ∷ us) ks k e = inr (v.turn, ap (λ ls. inner_in (spot_of (u ∷ v ∷ us) ls)) e)

-- a step from one leaf among the particles to another
pub record Beside (ts : List (Rose ParticleLabel)) (from to : Inner) (j k : ℕ) : Type 0 where
  pub name : Name
  pub turn : ℕ
  pub next_turn : ℕ
  pub from_is : from ≡ inside j (at turn here)
  pub to_is : to ≡ inside k (at next_turn here)
  pub leads : next_order (kids_seen ts) (inside j (at turn here)) name ≡ Some (inside k (at next_turn here))

beside-by : (ts : List (Rose ParticleLabel)) (a : Name) (us : List Turn) (ks : List ℕ) (vs : List Turn) (ls : List ℕ) (j k : ℕ) → ks ≡ j ∷ [] → ls ≡ k ∷ []
    → next_order (kids_seen ts) (inner_in (spot_of us ks)) a ≡ Some (inner_in (spot_of vs ls)) → Beside ts (inner_in (spot_of us ks)) (inner_in (spot_of vs ls)) j k
beside-by ts a us ks vs ls j k e f h = go (one-kid us ks j e) (one-kid vs ls k f)
  where
    ps : Particles
    ps = kids_seen ts

    from : Inner
    from = inner_in (spot_of us ks)

    to : Inner
    to = inner_in (spot_of vs ls)

    go : (from ≡ here) ⊎ ((i : ℕ) × (from ≡ inside j (at i here))) → (to ≡ here) ⊎ ((i : ℕ) × (to ≡ inside k (at i here))) → Beside ts from to j k
    go (inl x) y = absurd (invert.next_order-from ps a to (ap (λ i. next_order ps i a) (sym x) ∙ h))
    go (inr x) (inl y) = absurd (invert.next_order-here ps from a (h ∙ ap Some y))
    go (inr x) (inr y) = record {
      name = a;
      turn = x.0;
      next_turn = y.0;
      from_is = x.1;
      to_is = y.1;
      leads = ap (λ i. next_order ps i a) (sym x.1) ∙ h ∙ ap Some y.1;
    }

-- as turns and kids have it
pub beside-given : (ts : List (Rose ParticleLabel)) (a : Name) (us : List Turn) (ks : List ℕ) (vs : List Turn) (ls : List ℕ) → (length ks ≡ 1) × (length ls ≡ 1)
    → next_order (kids_seen ts) (inner_in (spot_of us ks)) a ≡ Some (inner_in (spot_of vs ls))
    → Beside ts (inner_in (spot_of us ks)) (inner_in (spot_of vs ls)) (slice_index_or ks 0 0) (slice_index_or ls 0 0)
beside-given ts a us ks vs ls n h = beside-by ts a us ks vs ls (slice_index_or ks 0 0) (slice_index_or ls 0 0) (alone ks n.0) (alone ls n.1) h

pub beside-within : (ts : List (Rose ParticleLabel)) (from to : Inner) (j k : ℕ) → Beside ts from to j k → (j ≤ k) × (k < length ts)
beside-within ts from to j k b = order-moves-within ts b.name j k (at b.turn here) (at b.next_turn here) b.leads

-- the way to the first leaf, which is a particle itself
pub record First (ts : List (Rose ParticleLabel)) (to : Inner) (k : ℕ) : Type 0 where
  pub name : Name
  pub turn : ℕ
  pub to_is : to ≡ inside k (at turn here)
  pub leads : enter_order (kids_seen ts) name ≡ Some (inside k (at turn here))

pub first-given : (ts : List (Rose ParticleLabel)) (a : Name) (vs : List Turn) (ls : List ℕ) → length ls ≡ 1 → enter_order (kids_seen ts) a ≡ Some (inner_in (spot_of vs ls)) → First ts (inner_in (spot_of vs ls)) (slice_index_or ls 0 0)
first-given ts a vs ls n h = go (one-kid vs ls k (alone ls n))
  where
    k : ℕ
    k = slice_index_or ls 0 0

    to : Inner
    to = inner_in (spot_of vs ls)

    go : (to ≡ here) ⊎ ((i : ℕ) × (to ≡ inside k (at i here))) → First ts to k
    go (inl y) = absurd (invert.enter_order-here (kids_seen ts) a (h ∙ ap Some y))
    go (inr y) = record { name = a; turn = y.0; to_is = y.1; leads = h ∙ ap Some y.1 }

pub first-within : (ts : List (Rose ParticleLabel)) (to : Inner) (k : ℕ) → First ts to k → k < length ts
first-within ts to k b = order-within ts b.name k (at b.turn here) b.leads

-- a leaf behind which none is needed, which is a particle itself
pub record Last (ts : List (Rose ParticleLabel)) (from : Inner) (j : ℕ) : Type 0 where
  pub turn : ℕ
  pub from_is : from ≡ inside j (at turn here)
  pub ends : finishes_order (kids_seen ts) (inside j (at turn here)) ≡ true

pub last-given : (ts : List (Rose ParticleLabel)) (us : List Turn) (ks : List ℕ) → length ks ≡ 1 → finishes_order (kids_seen ts) (inner_in (spot_of us ks)) ≡ true → Last ts (inner_in (spot_of us ks)) (slice_index_or ks 0 0)
last-given ts us ks n h = go (one-kid us ks j (alone ks n))
  where
    j : ℕ
    j = slice_index_or ks 0 0

    from : Inner
    from = inner_in (spot_of us ks)

    go : (from ≡ here) ⊎ ((i : ℕ) × (from ≡ inside j (at i here))) → Last ts from j
    go (inl x) = absurd (no-order-here (kids_seen ts) (subst (λ i. finishes_order (kids_seen ts) i ≡ true) x h))
    go (inr x) = record { turn = x.0; from_is = x.1; ends = subst (λ i. finishes_order (kids_seen ts) i ≡ true) x.1 h }

pub last-within : (ts : List (Rose ParticleLabel)) (from : Inner) (j : ℕ) → Last ts from j → j < length ts
last-within ts from j b = order-ends-within ts j (at b.turn here) b.ends

-- ---- a leaf is an element

abbrev IsElement : Term → Type 0
IsElement t = (d : ℕ) × (b : Name) × (t ≡ element d b)

finished-leaf : (t : Term) → finishes_term t here ≡ true → IsElement t
finished-leaf (element d b) e = (d, b, refl)
finished-leaf (sequence ps) e = absurd (no-order-here ps e)
finished-leaf (choice ps) e = absurd (no-one-here ps e)
finished-leaf (all ps) e = absurd (cc)

entered-leaf : (t : Term) (a : Name) → enter_term t a ≡ Some here → IsElement t
entered-leaf (element d b) a e = (d, b, refl)
entered-leaf (sequence ps) a e = absurd (invert.enter_order-here ps a e)
entered-leaf (choice ps) a e = absurd (invert.enter_one-here ps a e)
entered-leaf (all ps) a e = let x = over_some among_picked (pick ps (unmarked ps) a) here e in let q = x.2 in absurd (cc)

no-next : (t : Term) (a : Name) (u : Inner) → next_term t here a ≡ Some u → ⊥
no-next (element d b) a u e = cc
no-next (sequence ps) a u e = invert.next_order-from ps a u e
no-next (choice ps) a u e = invert.next_one-from ps a u e
no-next (all ps) a u e = cc

-- ---- what is put

-- once more at the same
moved-again : (t : Rose ParticleLabel) (a : Name) (i n : ℕ) (z : Zip ValueLabel) → next (seen t) (at i here) a ≡ Some (at n here) → moved (seen t) (at i here) (at n here) z ≡ z
moved-again t a i n z e = go (next-seen t a (at i here) (at n here) e)
  where
    go : invert.Onwards (term_of t) (label_of t).max i here a n here → moved (seen t) (at i here) (at n here) z ≡ z
    go (inl h) = absurd (no-next (term_of t) a here h.1)
    go (inr h) = sym (moved-goes t (at i here) (at n here) z h.0) ∙ ap (λ u. entered_term u here (ended_term u here z)) (finished-leaf (term_of t) h.1).2

pub same-put : (ts : List (Rose ParticleLabel)) (from to : Inner) (j k : ℕ) → Beside ts from to j k → j ≡ k → (z : Zip ValueLabel) → z ≡ moved_order (kids_seen ts) from to z
same-put ts from to j k b same z =
    let s = at b.turn here in
    let u = at b.next_turn here in
    let below : j < length ts = (let h = beside-within ts from to j k b in let w = h.1 in omega arith) in
    let kid = kid-there ts j below in
    let leads : next_order (kids_seen ts) (inside j s) b.name ≡ Some (inside j u) = b.leads ∙ ap (λ m. Some (inside m u)) (sym same) in
    sym (ap (λ x. moved_order (kids_seen ts) x to z) b.from_is ∙ ap (λ x. moved_order (kids_seen ts) (inside j s) x z) (b.to_is ∙ ap (λ m. inside m u) (sym same))
    ∙ order-stayed-at ts j kid.0 below kid.1 s u z ∙ moved-again kid.0 b.name b.turn b.next_turn z (order-stays-at ts j kid.0 below kid.1 b.name s u leads))

abbrev pub single : Rose ParticleLabel → Bool
single t = is_single false (label_of t).min (label_of t).max

pub both-single : (t u : Rose ParticleLabel) (l m : ParticleLabel) → l ≡ label_of t → m ≡ label_of u → (b : Bool) → b ≡ (is_single false l.min l.max && is_single false m.min m.max) → b ≡ true
    → (single t && single u) ≡ true
both-single t u l m e f b is h =
    sym (ap (λ (x : ParticleLabel). is_single false x.min x.max && is_single false m.min m.max) e ∙ ap (λ (x : ParticleLabel). single t && is_single false x.min x.max) f) ∙ sym is ∙ h

ended-single : (t : Rose ParticleLabel) (i : ℕ) (z : Zip ValueLabel) → finishes (seen t) (at i here) ≡ true → single t ≡ true → ended false (seen t) (at i here) z ≡ z
ended-single t i z e one =
    ended-seen false t (at i here) z ∙ ap (λ b. items_closed b (ended_term (term_of t) here z)) one
    ∙ ap (λ u. ended_term u here z) (finished-leaf (term_of t) (finishes-seen t (at i here) e)).2

entered-single : (t : Rose ParticleLabel) (a : Name) (n : ℕ) (z : Zip ValueLabel) → enter (seen t) a ≡ Some (at n here) → single t ≡ true → entered false (seen t) (at n here) z ≡ z
entered-single t a n z e one =
    entered-seen false t (at n here) z ∙ ap (λ b. entered_term (term_of t) here (items_opened b z)) one
    ∙ ap (λ u. entered_term u here z) (entered-leaf (term_of t) a (enter-seen t a (at n here) e)).2

-- from a single one to the next
module _ (ts : List (Rose ParticleLabel)) (from to : Inner) (j k : ℕ) (b : Beside ts from to j k) (old new : Rose ParticleLabel) (past : k ≡ j + 1) where
  pub next-put : old ≡ get_or ts j old → new ≡ get_or ts k new → (single old && single new) ≡ true → (z : Zip ValueLabel) → flagged true z ≡ moved_order (kids_seen ts) from to z
  next-put at_old at_new both z =
      let s = at b.turn here in
      let u = at b.next_turn here in
      let one = both_true (single old) (single new) both in
      let below = (beside-within ts from to j k b).1 in
      let within : j < length ts = omega arith in
      let later : j < k = omega arith in
      let none : k - (j + 1) ≡ 0 = omega arith in
      let x = over-leaves ts j old within at_old k new later below at_new b.name s u b.leads in
      sym (ap (λ y. moved_order (kids_seen ts) y to z) b.from_is ∙ ap (λ y. moved_order (kids_seen ts) (inside j s) y z) b.to_is
      ∙ over-left ts j old within at_old k new later below at_new s u z
      ∙ entered-single new b.name b.next_turn _ x.2 one.1
      ∙ ap (λ m. flagged true (emptied (kids_seen (take m (drop (j + 1) ts))) (ended false (seen old) s z))) none
      ∙ ap (flagged true) (parts-none (ended false (seen old) s z) ∙ ended-single old b.turn z x.0 one.0))

pub one-single : (t : Rose ParticleLabel) (l : ParticleLabel) → l ≡ label_of t → (b : Bool) → b ≡ is_single false l.min l.max → b ≡ true → single t ≡ true
one-single t l e b is h = sym (ap (λ (x : ParticleLabel). is_single false x.min x.max) e) ∙ sym is ∙ h

-- into the first, which is single
pub first-put : (ts : List (Rose ParticleLabel)) (to : Inner) (k : ℕ) → First ts to k → (kid : Rose ParticleLabel) → k ≡ 0 → kid ≡ get_or ts k kid → single kid ≡ true → (z : Zip ValueLabel)
    → flagged true z ≡ entered_order (kids_seen ts) to z
first-put ts to k b kid first there one z =
    let u = at b.turn here in
    let within = first-within ts to k b in
    sym (ap (λ y. entered_order (kids_seen ts) y z) b.to_is ∙ order-entered-at ts k kid within there u z
    ∙ entered-single kid b.name b.turn _ (order-enters-at ts k kid within there b.name u b.leads).1 one
    ∙ ap (λ m. flagged true (emptied (kids_seen (take m ts)) z)) first
    ∙ ap (flagged true) (parts-none z))

-- behind the last, which is single
pub last-put : (ts : List (Rose ParticleLabel)) (from : Inner) (j : ℕ) → Last ts from j → (kid : Rose ParticleLabel) → length ts - j ≡ 1 → kid ≡ get_or ts j kid → single kid ≡ true → (z : Zip ValueLabel)
    → z ≡ ended_order (kids_seen ts) from z
last-put ts from j b kid last there one z =
    let s = at b.turn here in
    let within = last-within ts from j b in
    let past : length ts ≤ j + 1 = omega arith in
    sym (ap (λ y. ended_order (kids_seen ts) y z) b.from_is ∙ order-ended-at ts j kid within there s z
    ∙ ap (λ us. emptied (kids_seen us) (ended false (seen kid) s z)) (drop_all (j + 1) ts past)
    ∙ parts-none (ended false (seen kid) s z) ∙ ended-single kid b.turn z (order-ends-at ts j kid within there s b.ends).0 one)
