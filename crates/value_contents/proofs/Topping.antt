-- What a step of the matcher writes, for a complete content model.
use Rattle.std.proofs.Common.{◌≡◌, ℕ, inl, inr, Bool, true, false, cond, List, [], ◌∷◌, ◌++◌, Option, Some, refl, ◌∙◌, subst}
use Rattle.base_trees.specs.Rose.{Rose}
use Rattle.base_flat_trees.specs.Zips.{Zip, added}
use Rattle.base_texts.specs.declared.texts.Name.{Name}
use Rattle.simple_types.specs.declared.labels.ValueLabel.{ValueLabel}
use Rattle.content_models.specs.Particle.{Particle, occurs, Term, element, sequence, choice, all, none, more}
use Rattle.content_models.specs.Clear.{empties, all_empty}
use Rattle.content_models.specs.Spots.{Spot, at, inside, may_repeat, may_stop, enter, next, finishes, finishes_order}
use Rattle.content_models.proofs.Entering.{both_true}
use Rattle.value_builder.specs.Built.{flagged, with_parts}
use Rattle.value_builder.proofs.Parts.{part-present}
use Rattle.value_contents.specs.Bounds.{is_once, is_single, is_parted}
use Rattle.value_contents.specs.Made.{Child, PartsMade, PartedMade, TopMade}
use Rattle.value_contents.specs.Reached.{OrderReached, PartedReached, TopReached, Put, IsFillable}
use Rattle.value_contents.specs.Private.Empty.{empty_flags, empty_values, emptied}
use Rattle.value_contents.specs.Private.Moves.{inner_in, entered, ended, moved, order_entered, order_moved, order_ended, order_emptied, top_entered, top_moved, top_ended, top_emptied}
use Rattle.value_contents.proofs.Filling.{once-empty, parts-empty, part-empty-alone}
use Rattle.value_contents.proofs.Inverting as invert
use Rattle.value_contents.proofs.Reaching.{front-made, single-most, enter-reached, enter_order-reached, end-reached, end_order-reached, move-reached, move_order-reached}

-- by whether the particles of the top particle are parts by themselves
abbrev pub TopBy : Term → ℕ → Option ℕ → Bool → Spot → List Child → ℕ → Zip ValueLabel → Zip ValueLabel → Type 0
TopBy t least most parted s gs d before now =
    elim parted as (λ _. Type 0) [
      | true ↦ PartedReached t s gs d before now
      | false ↦ OrderReached (more (occurs t least most) none) (inside 0 s) gs d before now
    ]

abbrev MadeBy : Term → ℕ → Option ℕ → Bool → List Bool → List (Rose ValueLabel) → List Child → Type 0
MadeBy t least most parted flags vs gs =
    elim parted as (λ _. Type 0) [ true ↦ PartedMade t flags vs gs | false ↦ PartsMade (more (occurs t least most) none) flags vs gs ]

-- ---- the first leaf

parted-enters : (t : Term) (least : ℕ) (most : Option ℕ) (a : Name) (s : Spot) (before : Zip ValueLabel) → is_parted t least most ≡ true → IsFillable (occurs t least most)
    → enter (occurs t least most) a ≡ Some s → (d : ℕ) × PartedReached t s [] d before (order_entered t (inner_in s) before)
parted-enters (element e b) least most a s before p k h = absurd (cc)
parted-enters (choice ps) least most a s before p k h = absurd (cc)
parted-enters (all ps) least most a s before p k h = absurd k.1.1
parted-enters (sequence ps) least most a (at i s) before p k h =
    let x = invert.enter-term (sequence ps) least most a i s h in
    let r = enter_order-reached ps a s k.0.1 k.1.1 x.1 in
    (r.0, (x.0, r.1 before))

pub top-enters : (p : Particle) (a : Name) (s : Spot) (before : Zip ValueLabel) → IsFillable p → enter p a ≡ Some s
    → (d : ℕ) × TopReached p s [] d before (top_entered p s before)
top-enters (occurs t least most) a s before k h = go (is_parted t least most) refl
  where
    go : (parted : Bool) → is_parted t least most ≡ parted
        → (d : ℕ) × TopBy t least most parted s [] d before (cond parted (order_entered t (inner_in s) before) (entered false (occurs t least most) s (flagged true before)))
    go true p = parted-enters t least most a s before p k h
    go false p = let r = enter-reached false (occurs t least most) a s k.0 k.1 h in (r.0, r.1 (flagged true before))

-- ---- the next leaf

once-single : (least : ℕ) (most : Option ℕ) → is_once least most ≡ true → is_single false least most ≡ true
once-single least most e = rw e refl

parted-moves : (t : Term) (least : ℕ) (most : Option ℕ) (a : Name) (s u : Spot) (front : List Child) (last : Child) (before way : Zip ValueLabel) → is_parted t least most ≡ true
    → IsFillable (occurs t least most) → PartedReached t s front last.decl before way → next (occurs t least most) s a ≡ Some u
    → (d : ℕ) × PartedReached t u (front ++ last ∷ []) d before (order_moved t (inner_in s) (inner_in u) (added last.value way))
parted-moves (element e b) least most a s u front last before way p k r h = absurd (cc)
parted-moves (choice ps) least most a s u front last before way p k r h = absurd (cc)
parted-moves (all ps) least most a s u front last before way p k r h = absurd r
parted-moves (sequence ps) least most a (at i s) (at j u) front last before way p k r h = go (invert.next-term (sequence ps) least most a i j s u h)
  where
    go : invert.Onwards (sequence ps) most i s a j u
        → (d : ℕ) × PartedReached (sequence ps) (at j u) (front ++ last ∷ []) d before (order_moved (sequence ps) s u (added last.value way))
    go (inl x) =
        let y = move_order-reached ps a s u front last before way k.0.1 k.1.1 r.1 x.1 in
        (y.0, (x.0 ∙ r.0, y.1))
    go (inr x) = absurd (single-most false least most (once-single least most p) (subst (λ n. may_repeat most n ≡ true) r.0 x.2))

pub top-moves : (p : Particle) (a : Name) (s u : Spot) (gs : List Child) (before now : Zip ValueLabel) → IsFillable p → Put p (Some s) gs before now → next p s a ≡ Some u
    → (d : ℕ) × TopReached p u gs d before (top_moved p s u now)
top-moves (occurs t least most) a s u gs before now k (front, last, way, e, r, n) h =
    let x = go (is_parted t least most) refl r in
    rw (e, n) x
  where
    go : (parted : Bool) → is_parted t least most ≡ parted → TopBy t least most parted s front last.decl before way
        → (d : ℕ) × TopBy t least most parted u (front ++ last ∷ []) d before
        (cond parted (order_moved t (inner_in s) (inner_in u) (added last.value way)) (moved (occurs t least most) s u (added last.value way)))
    go true p q = parted-moves t least most a s u front last before way p k q h
    go false p q = move-reached false (occurs t least most) a s u front last (flagged true before) way k.0 k.1 q h

-- ---- behind the last leaf

parted-ends : (t : Term) (least : ℕ) (most : Option ℕ) (s : Spot) (front : List Child) (last : Child) (before way : Zip ValueLabel) → is_parted t least most ≡ true
    → IsFillable (occurs t least most) → PartedReached t s front last.decl before way → finishes (occurs t least most) s ≡ true
    → (flags : List Bool) × (vs : List (Rose ValueLabel)) × PartedMade t flags vs (front ++ last ∷ []) × (order_ended t (inner_in s) (added last.value way) ≡ with_parts flags vs before)
parted-ends (element e b) least most s front last before way p k r h = absurd (cc)
parted-ends (choice ps) least most s front last before way p k r h = absurd (cc)
parted-ends (all ps) least most s front last before way p k r h = absurd r
parted-ends (sequence ps) least most (at i s) front last before way p k r h =
    let x = both_true (finishes_order ps s) (may_stop least i) h in
    let y = end_order-reached ps s front last before way k.1.1 r.1 x.0 in
    (y.0, y.1, y.3, y.2)

pub top-ends : (p : Particle) (s : Spot) (gs : List Child) (before now : Zip ValueLabel) → IsFillable p → Put p (Some s) gs before now → finishes p s ≡ true
    → (flags : List Bool) × (vs : List (Rose ValueLabel)) × TopMade p flags vs gs × (top_ended p s now ≡ with_parts flags vs before)
top-ends (occurs t least most) s gs before now k (front, last, way, e, r, n) h =
    let x = go (is_parted t least most) refl r in
    rw (e, n) x
  where
    go : (parted : Bool) → is_parted t least most ≡ parted → TopBy t least most parted s front last.decl before way
        → (flags : List Bool) × (vs : List (Rose ValueLabel)) × MadeBy t least most parted flags vs (front ++ last ∷ [])
        × (cond parted (order_ended t (inner_in s) (added last.value way)) (ended false (occurs t least most) s (added last.value way)) ≡ with_parts flags vs before)
    go true p q = parted-ends t least most s front last before way p k q h
    go false p q =
        let x = end-reached false (occurs t least most) s front last (flagged true before) way k.1 q h in (
          true ∷ [],
          x.0 ∷ [],
          front-made (occurs t least most) none x.0 [] [] (front ++ last ∷ []) x.2 refl,
          x.1 ∙ part-present x.0 before,
        )

-- ---- where there is no leaf

parted-empty : (t : Term) (least : ℕ) (most : Option ℕ) (before : Zip ValueLabel) → is_parted t least most ≡ true → IsFillable (occurs t least most) → empties (occurs t least most) ≡ true
    → (flags : List Bool) × (vs : List (Rose ValueLabel)) × PartedMade t flags vs [] × (order_emptied t before ≡ with_parts flags vs before)
parted-empty (element e b) least most before p k h = absurd (cc)
parted-empty (choice ps) least most before p k h = absurd (cc)
parted-empty (all ps) least most before p k h = absurd k.1.1
parted-empty (sequence ps) least most before p k h = (empty_flags ps, empty_values ps, parts-empty ps k.1.1 (once-empty least most (all_empty ps) p h), refl)

pub top-empty : (p : Particle) (before : Zip ValueLabel) → IsFillable p → empties p ≡ true
    → (flags : List Bool) × (vs : List (Rose ValueLabel)) × TopMade p flags vs [] × (top_emptied p before ≡ with_parts flags vs before)
top-empty (occurs t least most) before k h = go (is_parted t least most) refl
  where
    go : (parted : Bool) → is_parted t least most ≡ parted
        → (flags : List Bool) × (vs : List (Rose ValueLabel)) × MadeBy t least most parted flags vs []
        × (cond parted (order_emptied t before) (emptied (more (occurs t least most) none) before) ≡ with_parts flags vs before)
    go true p = parted-empty t least most before p k h
    go false p = (empty_flags (more (occurs t least most) none), empty_values (more (occurs t least most) none), part-empty-alone (occurs t least most) k.1 h, refl)
