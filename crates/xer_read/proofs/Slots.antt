-- Slots of the particles of an all, as child elements fill them in any order.
use Rattle.std.proofs.Common.{◌≡◌, ℕ, zero, suc, ◌+◌, ◌≤◌, ◌<◌, ◌-◌, ◌^◌, min, Bool, true, false, not, ◌&&◌, List, [], ◌∷◌, ◌++◌, length, set, replicate, Option, Some, None, refl, sym, ◌∙◌, ap, subst, arith}
use Rattle.std.specs.Prelude.{slice_get}
use Rattle.std.specs.List.{list_any}
use Rattle.base_trees.specs.Rose.{Rose, node, Roses, list_of, roses_of, kids_of, count_all}
use Rattle.base_trees.specs.Rose as rose
use Rattle.base_flat_trees.specs.Zips.{added, added_all}
use Rattle.simple_types.specs.declared.labels.ValueLabel.{ValueLabel}
use Rattle.std.proofs.lemmas.List.Sums.{sum_by-cons}
use Rattle.simple_types.specs.Labels.{flag_count, count_set}
use Rattle.content_models.specs.declared.particles.ParticleLabel.{ParticleLabel}
use Rattle.content_models.specs.declared.particles.ParticleKind.{ParticleKind}
use Rattle.content_models.specs.declared.particles.ParticleKind.TheVariants.{Element, Sequence, Choice, All}
use Rattle.content_models.specs.Particle.{occurs}
use Rattle.content_models.specs.Seen.{seen, term_seen, all_seen}
use Rattle.map_assignments.specs.Planning.{is_all}
use Rattle.asn_values.specs.Ordering.{slots, slot_at, emptied, put_some, taken}
use Rattle.asn_values.specs.Orders.{is_set, cleared, are_just_set}
use Rattle.value_builder.specs.Built.{Built, nothing_of, Stands, Puts, flagged, with_parts}
use Rattle.value_builder.proofs.Parts.{parts-none, parts-more, part-absent, part-present}
use Rattle.value_builder.proofs.Putting.{puts-nothing, puts-as, puts-then}
use Rattle.value_contents.specs.Made.{Child}
use Rattle.value_builder.proofs.Counts.{count-added}
use Rattle.xer_read.specs.declared.gathering.Gathered.{Gathered}
use Rattle.xer_read.specs.Private.Slots.{none_for, no_slots, filled_at, flags_of, all_of, values_of, AreSlots, AllFit, nodes_in, Keeps}

and-both : (a b : Bool) → (a && b) ≡ true → (a ≡ true) × (b ≡ true)
and-both true b h = (refl, h)
and-both false b h = absurd (cc)

and-join : (a b : Bool) → a ≡ true → b ≡ true → (a && b) ≡ true
and-join a b e f = rw (e, f) refl

module _ {A : Type 0} where
  -- ---- one slot

  flags-emptied : (os : List (Option A)) (n : ℕ) → flags_of (emptied os n) ≡ cleared (flags_of os) n
  flags-emptied [] n = refl
  flags-emptied (None ∷ os) zero = refl
  flags-emptied (Some x ∷ os) zero = refl
  flags-emptied (None ∷ os) (suc n) = ap (λ fs. false ∷ fs) (flags-emptied os n)
  flags-emptied (Some x ∷ os) (suc n) = ap (λ fs. true ∷ fs) (flags-emptied os n)

  length-emptied : (os : List (Option A)) (n : ℕ) → length (emptied os n) ≡ length os
  length-emptied [] n = refl
  length-emptied (o ∷ os) zero = refl
  length-emptied (o ∷ os) (suc n) = ap suc (length-emptied os n)

  -- what is empty stays so
  emptied-unset : (os : List (Option A)) (n k : ℕ) → is_set (flags_of os) k ≡ false → is_set (flags_of (emptied os n)) k ≡ false
  emptied-unset [] n k h = h
  emptied-unset (o ∷ os) zero zero h = refl
  emptied-unset (None ∷ os) zero (suc k) h = h
  emptied-unset (Some x ∷ os) zero (suc k) h = h
  emptied-unset (None ∷ os) (suc n) zero h = h
  emptied-unset (Some x ∷ os) (suc n) zero h = h
  emptied-unset (None ∷ os) (suc n) (suc k) h = emptied-unset os n k h
  emptied-unset (Some x ∷ os) (suc n) (suc k) h = emptied-unset os n k h

  filled-slot : (os : List (Option A)) (k : ℕ) (x : A) → k < length os → slot_at (filled_at os k x) k ≡ Some x
  filled-slot [] k x h = absurd (omega (arith, h))
  filled-slot (o ∷ os) zero x h = refl
  filled-slot (o ∷ os) (suc k) x h = filled-slot os k x (omega (arith, h))

  filled-other : (os : List (Option A)) (k n : ℕ) (x : A) → (n ≡ k → ⊥) → slot_at (filled_at os k x) n ≡ slot_at os n
  filled-other [] k n x h = refl
  filled-other (o ∷ os) zero zero x h = absurd (h refl)
  filled-other (o ∷ os) zero (suc n) x h = refl
  filled-other (o ∷ os) (suc k) zero x h = refl
  filled-other (o ∷ os) (suc k) (suc n) x h = filled-other os k n x (λ e. h (ap suc e))

  emptied-filled : (os : List (Option A)) (k n : ℕ) (x : A) → (n ≡ k → ⊥) → emptied (filled_at os k x) n ≡ filled_at (emptied os n) k x
  emptied-filled [] k n x h = refl
  emptied-filled (o ∷ os) zero zero x h = absurd (h refl)
  emptied-filled (o ∷ os) zero (suc n) x h = refl
  emptied-filled (o ∷ os) (suc k) zero x h = refl
  emptied-filled (o ∷ os) (suc k) (suc n) x h = ap (λ us. o ∷ us) (emptied-filled os k n x (λ e. h (ap suc e)))

  -- one that was filled, emptied again
  emptied-again : (os : List (Option A)) (k : ℕ) (x : A) → is_set (flags_of os) k ≡ false → emptied (filled_at os k x) k ≡ os
  emptied-again [] k x h = refl
  emptied-again (None ∷ os) zero x h = refl
  emptied-again (Some y ∷ os) zero x h = absurd (cc)
  emptied-again (None ∷ os) (suc k) x h = ap (λ us. None ∷ us) (emptied-again os k x h)
  emptied-again (Some y ∷ os) (suc k) x h = ap (λ us. Some y ∷ us) (emptied-again os k x h)

  filled-set : (os : List (Option A)) (k : ℕ) (x : A) → k < length os → is_set (flags_of (filled_at os k x)) k ≡ true
  filled-set [] k x h = absurd (omega (arith, h))
  filled-set (o ∷ os) zero x h = refl
  filled-set (None ∷ os) (suc k) x h = filled-set os k x (omega (arith, h))
  filled-set (Some y ∷ os) (suc k) x h = filled-set os k x (omega (arith, h))

  filled-set-other : (os : List (Option A)) (k n : ℕ) (x : A) → is_set (flags_of os) n ≡ true → is_set (flags_of (filled_at os k x)) n ≡ true
  filled-set-other [] k n x h = h
  filled-set-other (o ∷ os) zero zero x h = refl
  filled-set-other (None ∷ os) zero (suc n) x h = h
  filled-set-other (Some y ∷ os) zero (suc n) x h = h
  filled-set-other (None ∷ os) (suc k) zero x h = h
  filled-set-other (Some y ∷ os) (suc k) zero x h = h
  filled-set-other (None ∷ os) (suc k) (suc n) x h = filled-set-other os k n x h
  filled-set-other (Some y ∷ os) (suc k) (suc n) x h = filled-set-other os k n x h

  put-append : (o : Option A) (xs : List A) (x : A) → put_some o (xs ++ x ∷ []) ≡ put_some o xs ++ x ∷ []
  put-append None xs x = refl
  put-append (Some y) xs x = refl

  apart : (os : List (Option A)) (n k : ℕ) → is_set (flags_of os) n ≡ true → is_set (flags_of os) k ≡ false → n ≡ k → ⊥
  apart os n k h f e = let g : is_set (flags_of os) k ≡ true = subst (λ i. is_set (flags_of os) i ≡ true) e h in let same : true ≡ false = sym g ∙ f in cc

  -- ---- the numbers so far, and one more

  pub just-more : (ns : List ℕ) (os : List (Option A)) (k : ℕ) (x : A) → are_just_set (flags_of os) ns ≡ true → is_set (flags_of os) k ≡ false → k < length os
      → are_just_set (flags_of (filled_at os k x)) (ns ++ k ∷ []) ≡ true
  just-more [] os k x h f within =
      and-join (is_set (flags_of (filled_at os k x)) k) (are_just_set (cleared (flags_of (filled_at os k x)) k) []) (filled-set os k x within)
      (ap (λ fs. not (list_any (λ flag. flag) fs)) (sym (flags-emptied (filled_at os k x) k) ∙ ap flags_of (emptied-again os k x f)) ∙ h)
  just-more (n ∷ ns) os k x h f within =
      let b = and-both (is_set (flags_of os) n) (are_just_set (cleared (flags_of os) n) ns) h in
      let other = apart os n k b.0 f in
      let left : are_just_set (flags_of (emptied os n)) ns ≡ true = ap (λ fs. are_just_set fs ns) (flags-emptied os n) ∙ b.1 in
      let inner = just-more ns (emptied os n) k x left (emptied-unset os n k f) (subst (λ m. k < m) (sym (length-emptied os n)) within) in
      and-join (is_set (flags_of (filled_at os k x)) n) (are_just_set (cleared (flags_of (filled_at os k x)) n) (ns ++ k ∷ [])) (filled-set-other os k n x b.0)
      (ap (λ fs. are_just_set fs (ns ++ k ∷ [])) (sym (flags-emptied (filled_at os k x) n) ∙ ap flags_of (emptied-filled os k n x other)) ∙ inner)

  pub taken-more : (ns : List ℕ) (os : List (Option A)) (k : ℕ) (x : A) → are_just_set (flags_of os) ns ≡ true → is_set (flags_of os) k ≡ false → k < length os
      → taken (filled_at os k x) (ns ++ k ∷ []) ≡ taken os ns ++ x ∷ []
  taken-more [] os k x h f within = ap (λ o. put_some o []) (filled-slot os k x within)
  taken-more (n ∷ ns) os k x h f within =
      let b = and-both (is_set (flags_of os) n) (are_just_set (cleared (flags_of os) n) ns) h in
      let other = apart os n k b.0 f in
      let left : are_just_set (flags_of (emptied os n)) ns ≡ true = ap (λ fs. are_just_set fs ns) (flags-emptied os n) ∙ b.1 in
      let inner = taken-more ns (emptied os n) k x left (emptied-unset os n k f) (subst (λ m. k < m) (sym (length-emptied os n)) within) in
      ap (λ o. put_some o (taken (emptied (filled_at os k x) n) (ns ++ k ∷ []))) (filled-other os k n x other)
      ∙ ap (λ us. put_some (slot_at os n) (taken us (ns ++ k ∷ []))) (emptied-filled os k n x other)
      ∙ ap (put_some (slot_at os n)) inner
      ∙ put-append (slot_at os n) (taken (emptied os n) ns) x

  -- ---- all of them

  pub slots-all : (os : List (Option A)) → slots (flags_of os) (all_of os) ≡ os
  slots-all [] = refl
  slots-all (None ∷ os) = ap (λ us. None ∷ us) (slots-all os)
  slots-all (Some x ∷ os) = ap (λ us. Some x ∷ us) (slots-all os)

  pub count-all : (os : List (Option A)) → count_set (flags_of os) ≡ length (all_of os)
  count-all [] = refl
  count-all (None ∷ os) = let h = count-all os in let one = sum_by-cons flag_count false (flags_of os) in omega (arith, h, one)
  count-all (Some x ∷ os) = let h = count-all os in let one = sum_by-cons flag_count true (flags_of os) in omega (arith, h, one)

  pub length-filled : (os : List (Option A)) (k : ℕ) (x : A) → length (filled_at os k x) ≡ length os
  length-filled [] k x = refl
  length-filled (o ∷ os) zero x = refl
  length-filled (o ∷ os) (suc k) x = ap suc (length-filled os k x)

-- ---- slots as the code has them

pub slots-split : (front back : List (Option Built)) (os : List (Option Child)) → AreSlots (front ++ back) os
    → (us : List (Option Child)) × (ws : List (Option Child)) × (os ≡ us ++ ws) × AreSlots front us × AreSlots back ws
slots-split [] back os h = ([], os, refl, tt, h)
slots-split (None ∷ front) back [] h = absurd h
slots-split (Some b ∷ front) back [] h = absurd h
slots-split (None ∷ front) back (Some g ∷ os) h = absurd h
slots-split (Some b ∷ front) back (None ∷ os) h = absurd h
slots-split (None ∷ front) back (None ∷ os) h =
    let r = slots-split front back os h in
    (None ∷ r.0, r.1, ap (λ us. None ∷ us) r.2, r.3, r.4)
slots-split (Some b ∷ front) back (Some g ∷ os) h =
    let r = slots-split front back os h.2 in
    (Some g ∷ r.0, r.1, ap (λ us. Some g ∷ us) r.2, (h.0, h.1, r.3), r.4)

pub fit-split : (front back : List (Option Built)) → AllFit (front ++ back) → AllFit back
fit-split [] back h = h
fit-split (None ∷ front) back h = fit-split front back h
fit-split (Some b ∷ front) back h = fit-split front back h.1

pub flags-append : (us ws : List (Option Child)) → flags_of (us ++ ws) ≡ flags_of us ++ flags_of ws
flags-append [] ws = refl
flags-append (None ∷ us) ws = ap (λ fs. false ∷ fs) (flags-append us ws)
flags-append (Some g ∷ us) ws = ap (λ fs. true ∷ fs) (flags-append us ws)

pub values-append : (us ws : List (Option Child)) → values_of (us ++ ws) ≡ values_of us ++ values_of ws
values-append [] ws = refl
values-append (None ∷ us) ws = values-append us ws
values-append (Some g ∷ us) ws = ap (λ vs. g.value ∷ vs) (values-append us ws)

-- none has a value
slots-empty : (ts : Roses ParticleLabel) → AreSlots (replicate (length (list_of ts)) None) (none_for (all_seen ts))
slots-empty rose.none = tt
slots-empty (rose.more t ts) = slots-empty ts

slots-all-empty : (t : Rose ParticleLabel) → is_all (seen t) ≡ true → AreSlots (replicate (length (kids_of t)) None) (no_slots (seen t))
slots-all-empty (node l ts) e = by l.kind e
  where
    by : (k : ParticleKind) → is_all (occurs (term_seen k (all_seen ts)) l.min l.max) ≡ true → AreSlots (replicate (length (list_of ts)) None) (no_slots (occurs (term_seen k (all_seen ts)) l.min l.max))
    by (Element d a) f = absurd (cc (f))
    by Sequence f = absurd (cc (f))
    by Choice f = absurd (cc (f))
    by All f = slots-empty ts

pub nodes-none : (n : ℕ) → nodes_in (replicate n None) ≡ 0
nodes-none zero = refl
nodes-none (suc n) = nodes-none n

pub fit-none : (n : ℕ) → AllFit (replicate n None)
fit-none zero = tt
fit-none (suc n) = fit-none n

-- no child element came yet
pub keeps-none : (t : Rose ParticleLabel) → is_all (seen t) ≡ true → (g : Gathered) (n : ℕ) → n ≡ length (kids_of t) → g.slots.items ≡ replicate n None → g.nodes ≡ 0 → g.numbers.items ≡ [] → g.most < 2 ^ 32
    → Keeps g [] (no_slots (seen t))
keeps-none t e g n many slots_is nodes_is numbers_is small = record {
  small = small;
  slots_are = λ some. subst (λ bs. AreSlots bs (no_slots (seen t))) (sym (slots_is ∙ ap (λ m. replicate m None) many)) (slots-all-empty t e);
  nodes_are = λ some. nodes_is ∙ subst (λ bs. 0 ≡ min (nodes_in bs) (2 ^ 64 - 1)) (sym slots_is) (let none = nodes-none n in omega (arith, none));
  fit = λ some few. subst AllFit (sym slots_is) (fit-none n);
  numbers_are = λ some. numbers_is;
}

-- one slot gets a value
slots-set : (bs : List (Option Built)) (os : List (Option Child)) (k : ℕ) (b : Built) (g : Child) → AreSlots bs os → 1 ≤ b.most → Stands b (added g.value (nothing_of 0).kept)
    → AreSlots (set bs k (Some b)) (filled_at os k g)
slots-set [] [] k b g h m st = h
slots-set [] (o ∷ os) k b g h m st = absurd h
slots-set (None ∷ bs) [] k b g h m st = absurd h
slots-set (Some c ∷ bs) [] k b g h m st = absurd h
slots-set (None ∷ bs) (Some x ∷ os) k b g h m st = absurd h
slots-set (Some c ∷ bs) (None ∷ os) k b g h m st = absurd h
slots-set (None ∷ bs) (None ∷ os) zero b g h m st = (m, st, h)
slots-set (Some c ∷ bs) (Some x ∷ os) zero b g h m st = (m, st, h.2)
slots-set (None ∷ bs) (None ∷ os) (suc k) b g h m st = slots-set bs os k b g h m st
slots-set (Some c ∷ bs) (Some x ∷ os) (suc k) b g h m st = (h.0, h.1, slots-set bs os k b g h.2 m st)

nodes-set : (bs : List (Option Built)) (k : ℕ) (b : Built) → slice_get bs k ≡ Some None → nodes_in (set bs k (Some b)) ≡ nodes_in bs + b.nodes
nodes-set [] k b e = absurd (cc)
nodes-set (None ∷ bs) zero b e = omega arith
nodes-set (Some c ∷ bs) zero b e = absurd (cc)
nodes-set (None ∷ bs) (suc k) b e = nodes-set bs k b e
nodes-set (Some c ∷ bs) (suc k) b e = let h = nodes-set bs k b e in omega (arith, h)

fit-set : (bs : List (Option Built)) (k : ℕ) (b : Built) → AllFit bs → b.nodes ≤ b.most → AllFit (set bs k (Some b))
fit-set [] k b h f = h
fit-set (None ∷ bs) zero b h f = (f, h)
fit-set (Some c ∷ bs) zero b h f = (f, h.1)
fit-set (None ∷ bs) (suc k) b h f = fit-set bs k b h f
fit-set (Some c ∷ bs) (suc k) b h f = (h.0, fit-set bs k b h.1 f)

-- a child element more is kept
pub keeps-more : (old new : Gathered) (numbers : List ℕ) (children : List (Option Child)) (k : ℕ) (b : Built) (g : Child) → Keeps old numbers children → Stands b (added g.value (nothing_of 0).kept)
    → slice_get old.slots.items k ≡ Some None → 1 ≤ b.most → old.most ≤ b.most + (old.outside + old.nodes)
    → new.most ≡ old.most → new.outside ≡ old.outside → new.nodes ≡ min (old.nodes + b.nodes) (2 ^ 64 - 1) → new.slots.items ≡ set old.slots.items k (Some b) → new.numbers.items ≡ old.numbers.items ++ k ∷ [] → 1 ≤ old.most
    → Keeps new (numbers ++ k ∷ []) (filled_at children k g)
keeps-more old new numbers children k b g h st empty some room most outside nodes slots_is numbers_is any =
    let count = h.nodes_are any in
    let sum = nodes-set old.slots.items k b empty in
    let small = h.small in
    record {
      small = subst (λ n. n < 2 ^ 32) (sym most) small;
      slots_are = λ _. subst (λ bs. AreSlots bs (filled_at children k g)) (sym slots_is) (slots-set old.slots.items children k b g (h.slots_are any) some st);
      nodes_are = λ _. nodes ∙ subst (λ bs. min (old.nodes + b.nodes) (2 ^ 64 - 1) ≡ min (nodes_in bs) (2 ^ 64 - 1)) (sym slots_is) (omega (arith, count, sum));
      fit = λ _ within.
          let few : old.outside + old.nodes ≤ old.most = omega (arith, within, most, outside, nodes, small) in
          let own : b.nodes ≤ b.most = omega (arith, within, most, outside, nodes, small, room) in
          subst AllFit (sym slots_is) (fit-set old.slots.items k b (h.fit any few) own);
      numbers_are = λ _. numbers_is ∙ ap (λ ns. ns ++ k ∷ []) (h.numbers_are any);
    }

-- where nothing is kept, whatever came is
pub keeps-off : (g : Gathered) (numbers : List ℕ) (children : List (Option Child)) → g.most ≡ 0 → Keeps g numbers children
keeps-off g numbers children none = record {
  small = omega (arith, none);
  slots_are = λ some. absurd (omega (arith, none, some));
  nodes_are = λ some. absurd (omega (arith, none, some));
  fit = λ some. absurd (omega (arith, none, some));
  numbers_are = λ some. absurd (omega (arith, none, some));
}

-- how many nodes the values have
pub nodes-counted : (bs : List (Option Built)) (os : List (Option Child)) → AreSlots bs os → min (nodes_in bs) (2 ^ 64 - 1) ≡ min (count_all (roses_of (values_of os))) (2 ^ 64 - 1)
nodes-counted [] [] h = refl
nodes-counted [] (o ∷ os) h = absurd h
nodes-counted (None ∷ bs) [] h = absurd h
nodes-counted (Some b ∷ bs) [] h = absurd h
nodes-counted (None ∷ bs) (Some g ∷ os) h = absurd h
nodes-counted (Some b ∷ bs) (None ∷ os) h = absurd h
nodes-counted (None ∷ bs) (None ∷ os) h = nodes-counted bs os h
nodes-counted (Some b ∷ bs) (Some g ∷ os) h =
    let one = h.1.nodes h.0 in
    let all = count-added g.value (nothing_of 0).kept in
    let rest = nodes-counted bs os h.2 in
    omega (arith, one, all, rest)

-- ---- parts that are put down

-- of no slots
pub all-put : (a : Built) (us : List (Option Child)) → AreSlots [] us → Puts (with_parts (flags_of us) (values_of us)) a a
all-put a [] h = puts-as (λ z. z) (with_parts [] []) a a (λ z. sym (parts-none z)) (puts-nothing a)
all-put a (u ∷ us) h = absurd h

-- of an empty slot
pub none-put : (a b : Built) → Puts (flagged false) a b → (child : Option Child) → AreSlots (None ∷ []) (child ∷ []) → Puts (with_parts (flags_of (child ∷ [])) (values_of (child ∷ []))) a b
none-put a b puts None h = puts-as (flagged false) (with_parts (false ∷ []) []) a b part-absent puts
none-put a b puts (Some g) h = absurd h

-- of one with a value
pub one-put : (v a b c : Built) → Puts (flagged true) a b → ((vs : List (Rose ValueLabel)) → Stands v (added_all vs (nothing_of 0).kept) → Puts (added_all vs) b c)
    → (child : Option Child) → AreSlots (Some v ∷ []) (child ∷ []) → Puts (with_parts (flags_of (child ∷ [])) (values_of (child ∷ []))) a c
one-put v a b c flags appends None h = absurd h
one-put v a b c flags appends (Some g) h =
    puts-then (flagged true) (added_all (g.value ∷ [])) (with_parts (true ∷ []) (g.value ∷ [])) a b c (part-present g.value) flags (appends (g.value ∷ []) h.1)

pub one-closed : (v : Built) (child : Option Child) → AreSlots (Some v ∷ []) (child ∷ []) → (1 ≤ v.most) × ((vs : List (Rose ValueLabel)) × Stands v (added_all vs (nothing_of 0).kept))
one-closed v None h = absurd h
one-closed v (Some g) h = (h.0, (g.value ∷ [], h.1))

-- one part more
pub slot-put : (front : List (Option Built)) (slot : Option Built) (a b c : Built) → ((us : List (Option Child)) → AreSlots front us → Puts (with_parts (flags_of us) (values_of us)) a b)
    → ((child : Option Child) → AreSlots (slot ∷ []) (child ∷ []) → Puts (with_parts (flags_of (child ∷ [])) (values_of (child ∷ []))) b c)
    → (us : List (Option Child)) → AreSlots (front ++ slot ∷ []) us → Puts (with_parts (flags_of us) (values_of us)) a c
slot-put front slot a b c before one us h =
    let (ys, zs, is, first, last) = slots-split front (slot ∷ []) us h in
    subst (λ ws. Puts (with_parts (flags_of ws) (values_of ws)) a c) (sym is) (by zs last ys first)
  where
    no-slot : (o : Option Built) → AreSlots (o ∷ []) [] → ⊥
    no-slot None k = k
    no-slot (Some b) k = k

    two-slots : (o : Option Built) (z w : Option Child) (zs : List (Option Child)) → AreSlots (o ∷ []) (z ∷ w ∷ zs) → ⊥
    two-slots None None w zs k = k
    two-slots None (Some g) w zs k = k
    two-slots (Some b) None w zs k = k
    two-slots (Some b) (Some g) w zs k = k.2

    by : (zs : List (Option Child)) → AreSlots (slot ∷ []) zs → (ys : List (Option Child)) → AreSlots front ys → Puts (with_parts (flags_of (ys ++ zs)) (values_of (ys ++ zs))) a c
    by [] k ys f = absurd (no-slot slot k)
    by (z ∷ w ∷ zs) k ys f = absurd (two-slots slot z w zs k)
    by (z ∷ []) k ys f =
        puts-then (with_parts (flags_of ys) (values_of ys)) (with_parts (flags_of (z ∷ [])) (values_of (z ∷ []))) (with_parts (flags_of (ys ++ z ∷ [])) (values_of (ys ++ z ∷ []))) a b c
        (λ y. parts-more (flags_of ys) (flags_of (z ∷ [])) (values_of ys) (values_of (z ∷ [])) y
        ∙ ap (λ fs. with_parts fs (values_of ys ++ values_of (z ∷ [])) y) (sym (flags-append ys (z ∷ [])))
        ∙ ap (λ vs. with_parts (flags_of (ys ++ z ∷ [])) vs y) (sym (values-append ys (z ∷ []))))
        (before ys f) (one z k)

-- the next slot, and whether its value is kept
pub slot-next : (front : List (Option Built)) (slot : Option Built) (later : List (Option Built)) (os : List (Option Child)) → AreSlots (front ++ slot ∷ later) os → (child : Option Child) × AreSlots (slot ∷ []) (child ∷ [])
slot-next front slot later os h = let r = slots-split front (slot ∷ later) os h in by slot r.1 r.4
  where
    by : (slot : Option Built) (ws : List (Option Child)) → AreSlots (slot ∷ later) ws → (child : Option Child) × AreSlots (slot ∷ []) (child ∷ [])
    by None [] k = absurd k
    by (Some b) [] k = absurd k
    by None (Some g ∷ ws) k = absurd k
    by (Some b) (None ∷ ws) k = absurd k
    by None (None ∷ ws) k = (None, tt)
    by (Some b) (Some g ∷ ws) k = (Some g, (k.0, k.1, tt))

pub fit-next : (front : List (Option Built)) (slot : Option Built) (later : List (Option Built)) → AllFit (front ++ slot ∷ later) → AllFit (slot ∷ [])
fit-next front slot later h = by slot (fit-split front (slot ∷ later) h)
  where
    by : (slot : Option Built) → AllFit (slot ∷ later) → AllFit (slot ∷ [])
    by None k = tt
    by (Some b) k = (k.0, tt)

pub none-long : {A : Type 0} (xs : List A) → length xs ≡ 0 → xs ≡ []
none-long [] h = refl
none-long (x ∷ xs) h = absurd (cc (h))
