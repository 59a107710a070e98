-- From what was put down at one leaf to what is put down at the next.
use Rattle.std.proofs.Common.{◌≡◌, ℕ, zero, suc, ◌<◌, inl, inr, Bool, true, false, not, ◌&&◌, ◌||◌, ◌==◌, cond, nat_le, List, [], ◌∷◌, ◌++◌, length, Option, Some, None, refl, sym, ◌∙◌, ap, subst, append_assoc, append-nil, arith}
use Rattle.std.proofs.lemmas.Bool.{eqb-true, le-leb, ltb-true}
use Rattle.base_trees.specs.Rose.{Rose, node, roses_of}
use Rattle.base_trees.specs.Rose as rose
use Rattle.base_flat_trees.specs.Zips.{Zip, opened, added, added_all, closed}
use Rattle.base_texts.specs.declared.texts.Name.{Name}
use Rattle.base_texts.specs.Names.{name_eq}
use Rattle.simple_types.specs.declared.labels.ValueLabel.{ValueLabel}
use Rattle.simple_types.specs.declared.labels.ValueLabel.TheVariants as value
use Rattle.simple_types.specs.Lexical.{is_at_most}
use Rattle.content_models.specs.Particle.{Particle, occurs, Term, element, sequence, choice, all, Particles, none, more}
use Rattle.content_models.specs.Clear.{all_empty}
use Rattle.content_models.specs.Occurring.{AllowOne, MayOccur, TermMayOccur, AllMayOccur}
use Rattle.content_models.specs.Spots.{Spot, at, Inner, here, inside, among, may_repeat, may_stop, enter, enter_term, enter_order, enter_one, finishes, finishes_term, finishes_order, finishes_one, next, next_term, next_order, next_one}
use Rattle.content_models.proofs.Entering.{both_true}
use Rattle.content_models.proofs.Options.{cond_some}
use Rattle.value_builder.specs.Built.{flagged, with_parts}
use Rattle.value_builder.proofs.Parts.{parts-present, parts-more, part-present}
use Rattle.value_contents.specs.Bounds.{is_single}
use Rattle.value_contents.specs.Made.{Child, Each, Standing, TermMade, PartsMade, ChosenMade}
use Rattle.value_contents.specs.Reached.{Before, Reached, TermReached, OrderReached, OneReached, KeepsRule1, TermKeepsRule1, AllKeepRule1}
use Rattle.value_contents.specs.Private.Empty.{empty_flags, empty_values, emptied}
use Rattle.value_contents.specs.Private.Moves.{items_opened, items_closed, entered, entered_term, entered_order, entered_one, ended, ended_term, ended_order, ended_one, moved, moved_term, moved_order, moved_one}
use Rattle.value_contents.proofs.Filling.{StandsBy, parts-empty, part-empty-alone}
use Rattle.value_contents.proofs.Inverting as invert

-- a particle, by whether it is single
abbrev pub ReachedBy : Term → Option ℕ → ℕ → Inner → Bool → List Child → ℕ → Zip ValueLabel → Zip ValueLabel → Type 0
ReachedBy t most i s single gs d before now =
    elim single as (λ _. Type 0) [
      | true ↦ (i ≡ 0) × TermReached t s gs d before now
      | false ↦ (vs : List (Rose ValueLabel)) × (a : List Child) × (b : List Child) × (gs ≡ a ++ b) × Before (TermMade t) most i vs a
          × TermReached t s b d (added_all vs (opened value.SequenceOf before)) now
    ]

-- the value of a particle that stands
abbrev pub Stood : Bool → Particle → Rose ValueLabel → List Child → Type 0
Stood in_choice (occurs t least most) v gs = Standing (TermMade t) in_choice least most v gs

-- ---- one after another

length-push : {A : Type 0} (xs : List A) (x : A) → length (xs ++ x ∷ []) ≡ suc (length xs)
length-push [] x = refl
length-push (y ∷ xs) x = ap suc (length-push xs x)

each-more : (B : Rose ValueLabel → List Child → Type 0) (vs : List (Rose ValueLabel)) (v : Rose ValueLabel) (gs a : List Child) → Each B vs gs → B v a → Each B (vs ++ v ∷ []) (gs ++ a)
each-more B [] v gs a e b = (a, [], ap (λ zs. zs ++ a) e ∙ sym (append-nil a), b, refl)
each-more B (w ∷ vs) v gs a (x, y, e, h, r) b = (x, y ++ a, ap (λ zs. zs ++ a) e ∙ append_assoc x y a, h, each-more B vs v y a r b)

-- more child elements behind those of the second of two lists
behind : (gs a b : List Child) (g : Child) → gs ≡ a ++ b → gs ++ g ∷ [] ≡ a ++ (b ++ g ∷ [])
behind gs a b g e = ap (λ zs. zs ++ g ∷ []) e ∙ append_assoc a b (g ∷ [])

parts-made : (p : Particle) (ps : Particles) (f g : List Bool) (v w : List (Rose ValueLabel)) (a b : List Child) → PartsMade (more p none) f v a → PartsMade ps g w b
    → PartsMade (more p ps) (f ++ g) (v ++ w) (a ++ b)
parts-made (occurs t least most) ps [] g v w a b h k = absurd h
parts-made (occurs t least most) ps (true ∷ f) g [] w a b h k = absurd h
parts-made (occurs t least most) ps (true ∷ []) g (x ∷ []) w a b (c, d, e, s, r) k = (c, b, ap (λ zs. zs ++ b) (e ∙ ap (λ zs. c ++ zs) r ∙ append-nil c), s, k)
parts-made (occurs t least most) ps (true ∷ []) g (x ∷ y ∷ v) w a b (c, d, e, s, r) k = absurd r
parts-made (occurs t least most) ps (true ∷ i ∷ f) g (x ∷ v) w a b (c, d, e, s, r) k = absurd r
parts-made (occurs t least most) ps (false ∷ []) g [] w a b (o, r) k = (o, subst (λ zs. PartsMade ps g w (zs ++ b)) (sym r) k)
parts-made (occurs t least most) ps (false ∷ []) g (x ∷ v) w a b (o, r) k = absurd r
parts-made (occurs t least most) ps (false ∷ i ∷ f) g v w a b (o, r) k = absurd r

-- a part that stands, before others without child elements
pub front-made : (p : Particle) (ps : Particles) (v : Rose ValueLabel) (flags : List Bool) (vs : List (Rose ValueLabel)) (gs : List Child)
    → Stood false p v gs → PartsMade ps flags vs [] → PartsMade (more p ps) (true ∷ flags) (v ∷ vs) gs
front-made (occurs t least most) ps v flags vs gs s r = (gs, [], sym (append-nil gs), s, r)

-- ---- the way into a particle

at-most-one : (least : ℕ) (most : Option ℕ) → AllowOne least most → is_at_most 1 most ≡ true
at-most-one least None h = refl
at-most-one least (Some m) h = le-leb 1 m h.1

items-entered : (t : Term) (most : Option ℕ) (s : Inner) (d : ℕ) (z : Zip ValueLabel) (single : Bool) → is_at_most 1 most ≡ true
    → ((y : Zip ValueLabel) → TermReached t s [] d y (entered_term t s y)) → ReachedBy t most 0 s single [] d z (entered_term t s (items_opened single z))
items-entered t most s d z true one f = (refl, f z)
items-entered t most s d z false one f = ([], [], [], refl, record { count = refl; within = one; each = refl }, f (opened value.SequenceOf z))

mutual
  pub enter-reached : (b : Bool) (p : Particle) (a : Name) (s : Spot) → MayOccur p → KeepsRule1 p → enter p a ≡ Some s
      → (d : ℕ) × ((z : Zip ValueLabel) → Reached b p s [] d z (entered b p s z))
  enter-reached b (occurs t least most) a (at i s) m k e =
      let x = invert.enter-term t least most a i s e in
      let r = enter_term-reached t a s m.1 k.1 x.1 in (
        r.0,
        λ z. subst (λ n. Reached b (occurs t least most) (at n s) [] r.0 z (entered b (occurs t least most) (at n s) z)) (sym x.0)
            (items-entered t most s r.0 z (is_single b least most) (at-most-one least most m.0) r.1),
      )

  pub enter_term-reached : (t : Term) (a : Name) (s : Inner) → TermMayOccur t → TermKeepsRule1 t → enter_term t a ≡ Some s
      → (d : ℕ) × ((z : Zip ValueLabel) → TermReached t s [] d z (entered_term t s z))
  enter_term-reached (element d b) a here m k e = (d, λ z. (refl, refl, refl))
  enter_term-reached (element d b) a (inside j s) m k e = absurd (let x = (cond_some (name_eq a b) (Some here) (inside j s) e).1 in cc)
  enter_term-reached (element d b) a (among j ms) m k e = absurd (let x = (cond_some (name_eq a b) (Some here) (among j ms) e).1 in cc)
  enter_term-reached (all ps) a s m k e = absurd k
  enter_term-reached (choice ps) a (among j ms) m k e = absurd (invert.enter_one-among ps a j ms e)
  enter_term-reached (sequence ps) a s m k e = let r = enter_order-reached ps a s m k e in (r.0, λ z. r.1 (opened (value.Sequence []) z))
  enter_term-reached (choice ps) a here m k e = absurd (invert.enter_one-here ps a e)
  enter_term-reached (choice ps) a (inside j s) m k e = let r = enter_one-reached ps a j s m.1 k e in (r.0, λ z. r.1 (opened (value.Choice j) z))

  pub enter_order-reached : (ps : Particles) (a : Name) (s : Inner) → AllMayOccur ps → AllKeepRule1 ps → enter_order ps a ≡ Some s
      → (d : ℕ) × ((z : Zip ValueLabel) → OrderReached ps s [] d z (entered_order ps s z))
  enter_order-reached none a s m k e = absurd (cc)
  enter_order-reached (more p ps) a here m k e = absurd (invert.enter_order-here (more p ps) a e)
  enter_order-reached (more p ps) a (among j ms) m k e = absurd (invert.enter_order-among (more p ps) a j ms e)
  enter_order-reached (more p ps) a (inside zero s) m k e =
      let r = enter-reached false p a s m.0 k.0 (invert.enter_order-first p ps a s e) in (r.0, λ z. r.1 (flagged true z))
  enter_order-reached (more p ps) a (inside (suc j) s) m k e =
      let x = invert.enter_order-later p ps a j s e in
      let r = enter_order-reached ps a (inside j s) m.1 k.1 x.1 in
      (r.0, λ z. (empty_flags (more p none), empty_values (more p none), [], [], refl, part-empty-alone p k.0 x.0, r.1 (emptied (more p none) z)))

  pub enter_one-reached : (ps : Particles) (a : Name) (j : ℕ) (s : Spot) → AllMayOccur ps → AllKeepRule1 ps → enter_one ps a ≡ Some (inside j s)
      → (d : ℕ) × ((z : Zip ValueLabel) → OneReached ps j s [] d z (entered_one ps j s z))
  enter_one-reached none a j s m k e = absurd (cc)
  enter_one-reached (more p ps) a zero s m k e = enter-reached true p a s m.0 k.0 (invert.enter_one-first p ps a s e)
  enter_one-reached (more p ps) a (suc j) s m k e = enter_one-reached ps a j s m.1 k.1 (invert.enter_one-later p ps a j s e)

-- ---- behind the last leaf of a particle

-- what is closed gives a value
abbrev pub Ends : Particle → Bool → Spot → List Child → Child → Zip ValueLabel → Zip ValueLabel → Type 0
Ends p b s gs g before way = (v : Rose ValueLabel) × (ended b p s (added g.value way) ≡ added v before) × Stood b p v (gs ++ g ∷ [])

abbrev TermEnds : Term → Inner → List Child → Child → Zip ValueLabel → Zip ValueLabel → Type 0
TermEnds t s gs g before way = (v : Rose ValueLabel) × (ended_term t s (added g.value way) ≡ added v before) × TermMade t v (gs ++ g ∷ [])

items-many : (least i : ℕ) (vs : List (Rose ValueLabel)) (v : Rose ValueLabel) → length vs ≡ i → may_stop least i ≡ true → nat_le least (length (vs ++ v ∷ [])) ≡ true
items-many least i vs v n e =
    let more : least < suc (suc i) = ltb-true least (suc (suc i)) e in
    let len = length-push vs v in
    le-leb least (length (vs ++ v ∷ [])) (omega arith)

items-ended : (t : Term) (least : ℕ) (most : Option ℕ) (i : ℕ) (s : Inner) (gs : List Child) (g : Child) (before way : Zip ValueLabel) (single : Bool)
    → ((zs : List Child) (y : Zip ValueLabel) → TermReached t s zs g.decl y way → TermEnds t s zs g y way)
    → ReachedBy t most i s single gs g.decl before way → may_stop least i ≡ true
    → (v : Rose ValueLabel) × (items_closed single (ended_term t s (added g.value way)) ≡ added v before) × StandsBy (TermMade t) least most single v (gs ++ g ∷ [])
items-ended t least most i s gs g before way true ih r f = ih gs before r.1
items-ended t least most i s gs g before way false ih (vs, a, b, e, bf, r) f =
    let x = ih b (added_all vs (opened value.SequenceOf before)) r in (
      node value.SequenceOf (roses_of (vs ++ x.0 ∷ [])),
      ap closed x.1,
      (
        vs ++ x.0 ∷ [],
        refl,
        items-many least i vs x.0 bf.count f,
        subst (λ n. is_at_most n most ≡ true) (sym (length-push vs x.0 ∙ ap suc bf.count)) bf.within,
        subst (λ zs. Each (TermMade t) (vs ++ x.0 ∷ []) zs) (sym (behind gs a b g e)) (each-more (TermMade t) vs x.0 a (b ++ g ∷ []) bf.each x.2),
      ),
    )

mutual
  pub end-reached : (b : Bool) (p : Particle) (s : Spot) (gs : List Child) (g : Child) (before way : Zip ValueLabel) → KeepsRule1 p
      → Reached b p s gs g.decl before way → finishes p s ≡ true → Ends p b s gs g before way
  end-reached b (occurs t least most) (at i s) gs g before way k r f =
      let x = both_true (finishes_term t s) (may_stop least i) f in
      items-ended t least most i s gs g before way (is_single b least most) (λ zs y q. end_term-reached t s zs g y way k.1 q x.0) r x.1

  pub end_term-reached : (t : Term) (s : Inner) (gs : List Child) (g : Child) (before way : Zip ValueLabel) → TermKeepsRule1 t
      → TermReached t s gs g.decl before way → finishes_term t s ≡ true → TermEnds t s gs g before way
  end_term-reached (element d a) here gs g before way k r f =
      (g.value, ap (added g.value) r.2, (g, ap (λ zs. zs ++ g ∷ []) r.0, sym r.1, refl))
  end_term-reached (element d a) (inside j s) gs g before way k r f = absurd r
  end_term-reached (element d a) (among j ms) gs g before way k r f = absurd r
  end_term-reached (choice ps) (among j ms) gs g before way k r f = absurd r
  end_term-reached (all ps) s gs g before way k r f = absurd r
  end_term-reached (sequence ps) s gs g before way k r f =
      let x = end_order-reached ps s gs g (opened (value.Sequence []) before) way k r f in
      (node (value.Sequence x.0) (roses_of x.1), ap closed x.2, (x.0, x.1, refl, x.3))
  end_term-reached (choice ps) here gs g before way k r f = absurd r
  end_term-reached (choice ps) (inside j s) gs g before way k r f =
      let x = end_one-reached ps j s gs g (opened (value.Choice j) before) way k r f in
      (node (value.Choice j) (rose.more x.0 rose.none), ap closed x.1, (j, x.0, refl, x.2))

  pub end_order-reached : (ps : Particles) (s : Inner) (gs : List Child) (g : Child) (before way : Zip ValueLabel) → AllKeepRule1 ps
      → OrderReached ps s gs g.decl before way → finishes_order ps s ≡ true
      → (flags : List Bool) × (vs : List (Rose ValueLabel)) × (ended_order ps s (added g.value way) ≡ with_parts flags vs before) × PartsMade ps flags vs (gs ++ g ∷ [])
  end_order-reached none s gs g before way k r f = absurd r
  end_order-reached (more p ps) here gs g before way k r f = absurd r
  end_order-reached (more p ps) (among j ms) gs g before way k r f = absurd r
  end_order-reached (more p ps) (inside zero s) gs g before way k r f =
      let x = both_true (finishes p s) (all_empty ps) f in
      let y = end-reached false p s gs g (flagged true before) way k.0 r x.0 in (
        true ∷ empty_flags ps,
        y.0 ∷ empty_values ps,
        ap (emptied ps) y.1 ∙ parts-present y.0 (empty_flags ps) (empty_values ps) before,
        front-made p ps y.0 (empty_flags ps) (empty_values ps) (gs ++ g ∷ []) y.2 (parts-empty ps k.1 x.1),
      )
  end_order-reached (more p ps) (inside (suc j) s) gs g before way k (flags, vs, a, b, e, m, r) f =
      let y = end_order-reached ps (inside j s) b g (with_parts flags vs before) way k.1 r f in (
        flags ++ y.0,
        vs ++ y.1,
        y.2 ∙ parts-more flags y.0 vs y.1 before,
        subst (λ zs. PartsMade (more p ps) (flags ++ y.0) (vs ++ y.1) zs) (sym (behind gs a b g e)) (parts-made p ps flags y.0 vs y.1 a (b ++ g ∷ []) m y.3),
      )

  pub end_one-reached : (ps : Particles) (j : ℕ) (s : Spot) (gs : List Child) (g : Child) (before way : Zip ValueLabel) → AllKeepRule1 ps
      → OneReached ps j s gs g.decl before way → finishes_one ps (inside j s) ≡ true
      → (v : Rose ValueLabel) × (ended_one ps j s (added g.value way) ≡ added v before) × ChosenMade ps j v (gs ++ g ∷ [])
  end_one-reached none j s gs g before way k r f = absurd r
  end_one-reached (more (occurs t least most) ps) zero s gs g before way k r f = end-reached true (occurs t least most) s gs g before way k.0 r f
  end_one-reached (more (occurs t least most) ps) (suc j) s gs g before way k r f = end_one-reached ps j s gs g before way k.1 r f

-- ---- from one leaf of a particle to the next

pub same-turn : (i : ℕ) → (i == i) ≡ true
same-turn i = grind arith

pub other-turn : (i : ℕ) → (i == suc i) ≡ false
other-turn i = grind arith

right-part : (x y c n : Bool) → ((x && c) || ((y && c) && n)) ≡ true → c ≡ true
right-part true y true n h = refl
right-part true true false n h = absurd (cc)
right-part true false false n h = absurd (cc)
right-part false true true n h = refl
right-part false true false n h = absurd (cc)
right-part false false c n h = absurd (cc)

pub single-most : (b : Bool) (least : ℕ) (most : Option ℕ) → is_single b least most ≡ true → may_repeat most 0 ≡ true → ⊥
single-most b least None h e = cc
single-most b least (Some m) h e =
    let one : (m == 1) ≡ true = right-part (least == 1) (least == 0) (m == 1) (not b) h in
    let over : 1 < m = ltb-true 1 m e in
    absurd (omega (arith, eqb-true m 1 one))

at-most-next : (most : Option ℕ) (i : ℕ) → may_repeat most i ≡ true → is_at_most (suc (suc i)) most ≡ true
at-most-next None i h = refl
at-most-next (Some m) i h = le-leb (suc (suc i)) m (ltb-true (suc i) m h)

abbrev Moves : Bool → Particle → Spot → Spot → List Child → Child → Zip ValueLabel → Zip ValueLabel → Type 0
Moves b p s u gs g before way = (d : ℕ) × Reached b p u (gs ++ g ∷ []) d before (moved p s u (added g.value way))

abbrev TermMoves : Term → Inner → Inner → List Child → Child → Zip ValueLabel → Zip ValueLabel → Type 0
TermMoves t s u gs g before way = (d : ℕ) × TermReached t u (gs ++ g ∷ []) d before (moved_term t s u (added g.value way))

-- in the same occurrence
items-moved : (t : Term) (most : Option ℕ) (i : ℕ) (s u : Inner) (gs : List Child) (g : Child) (before way : Zip ValueLabel) (single : Bool)
    → ((zs : List Child) (y : Zip ValueLabel) → TermReached t s zs g.decl y way → TermMoves t s u zs g y way)
    → ReachedBy t most i s single gs g.decl before way → (d : ℕ) × ReachedBy t most i u single (gs ++ g ∷ []) d before (moved_term t s u (added g.value way))
items-moved t most i s u gs g before way true ih r = let x = ih gs before r.1 in (x.0, (r.0, x.1))
items-moved t most i s u gs g before way false ih (vs, a, b, e, bf, r) =
    let x = ih b (added_all vs (opened value.SequenceOf before)) r in
    (x.0, (vs, a, b ++ g ∷ [], behind gs a b g e, bf, x.1))

-- in the next occurrence
items-repeated : (t : Term) (least : ℕ) (most : Option ℕ) (i : ℕ) (s u : Inner) (d : ℕ) (gs : List Child) (g : Child) (before way : Zip ValueLabel) (single : Bool)
    → (single ≡ true → may_repeat most 0 ≡ true → ⊥)
    → ((zs : List Child) (y : Zip ValueLabel) → TermReached t s zs g.decl y way → TermEnds t s zs g y way)
    → ((y : Zip ValueLabel) → TermReached t u [] d y (entered_term t u y)) → may_repeat most i ≡ true
    → ReachedBy t most i s single gs g.decl before way → ReachedBy t most (suc i) u single (gs ++ g ∷ []) d before (entered_term t u (ended_term t s (added g.value way)))
items-repeated t least most i s u d gs g before way true once ih f m r = absurd (once refl (subst (λ n. may_repeat most n ≡ true) r.0 m))
items-repeated t least most i s u d gs g before way false once ih f m (vs, a, b, e, bf, r) =
    let x = ih b (added_all vs (opened value.SequenceOf before)) r in
    let all = vs ++ x.0 ∷ [] in (
      all,
      gs ++ g ∷ [],
      [],
      sym (append-nil (gs ++ g ∷ [])),
      record {
        count = length-push vs x.0 ∙ ap suc bf.count;
        within = at-most-next most i m;
        each = subst (λ zs. Each (TermMade t) all zs) (sym (behind gs a b g e)) (each-more (TermMade t) vs x.0 a (b ++ g ∷ []) bf.each x.2);
      },
      subst (λ y. TermReached t u [] d (added_all all (opened value.SequenceOf before)) (entered_term t u y)) (sym x.1) (f (added_all all (opened value.SequenceOf before))),
    )

mutual
  pub move-reached : (b : Bool) (p : Particle) (a : Name) (s u : Spot) (gs : List Child) (g : Child) (before way : Zip ValueLabel) → MayOccur p → KeepsRule1 p
      → Reached b p s gs g.decl before way → next p s a ≡ Some u → Moves b p s u gs g before way
  move-reached b (occurs t least most) a (at i s) (at j u) gs g before way m k r e =
      go (invert.next-term t least most a i j s u e) (λ n zs y q. move_term-reached t a s u zs g y way m.1 k.1 q n)
    where
      go : invert.Onwards t most i s a j u
          → (next_term t s a ≡ Some u → (zs : List Child) (y : Zip ValueLabel) → TermReached t s zs g.decl y way → TermMoves t s u zs g y way)
          → Moves b (occurs t least most) (at i s) (at j u) gs g before way
      go (inl h) ih =
          let x = items-moved t most i s u gs g before way (is_single b least most) (ih h.1) r in
          let stays = ap (λ c. cond c (moved_term t s u (added g.value way)) (entered_term t u (ended_term t s (added g.value way)))) (same-turn i) in
          subst (λ n. Moves b (occurs t least most) (at i s) (at n u) gs g before way) (sym h.0)
          (x.0, subst (λ y. ReachedBy t most i u (is_single b least most) (gs ++ g ∷ []) x.0 before y) (sym stays) x.1)
      go (inr h) ih =
          let n = enter_term-reached t a u m.1 k.1 h.3 in
          let x = items-repeated t least most i s u n.0 gs g before way (is_single b least most) (single-most b least most)
          (λ zs y q. end_term-reached t s zs g y way k.1 q h.1) n.1 h.2 r in
          let goes = ap (λ c. cond c (moved_term t s u (added g.value way)) (entered_term t u (ended_term t s (added g.value way)))) (other-turn i) in
          subst (λ n. Moves b (occurs t least most) (at i s) (at n u) gs g before way) (sym h.0)
          (n.0, subst (λ y. ReachedBy t most (suc i) u (is_single b least most) (gs ++ g ∷ []) n.0 before y) (sym goes) x)

  pub move_term-reached : (t : Term) (a : Name) (s u : Inner) (gs : List Child) (g : Child) (before way : Zip ValueLabel) → TermMayOccur t → TermKeepsRule1 t
      → TermReached t s gs g.decl before way → next_term t s a ≡ Some u → TermMoves t s u gs g before way
  move_term-reached (element d b) a s u gs g before way m k r e = absurd (cc (e))
  move_term-reached (sequence ps) a s u gs g before way m k r e = move_order-reached ps a s u gs g (opened (value.Sequence []) before) way m k r e
  move_term-reached (all ps) a s u gs g before way m k r e = absurd r
  move_term-reached (choice ps) a here u gs g before way m k r e = absurd r
  move_term-reached (choice ps) a (among j ms) u gs g before way m k r e = absurd r
  move_term-reached (choice ps) a (inside j s) (among i ns) gs g before way m k r e = absurd (invert.next_one-among ps (inside j s) a i ns e)
  move_term-reached (choice ps) a (inside j s) here gs g before way m k r e = absurd (invert.next_one-here ps (inside j s) a e)
  move_term-reached (choice ps) a (inside j s) (inside i u) gs g before way m k r e =
      let x = move_one-reached ps a j i s u gs g (opened (value.Choice j) before) way m.1 k r e in
      subst (λ n. TermMoves (choice ps) (inside j s) (inside n u) gs g before way) (sym x.0) x.1

  pub move_order-reached : (ps : Particles) (a : Name) (s u : Inner) (gs : List Child) (g : Child) (before way : Zip ValueLabel) → AllMayOccur ps → AllKeepRule1 ps
      → OrderReached ps s gs g.decl before way → next_order ps s a ≡ Some u
      → (d : ℕ) × OrderReached ps u (gs ++ g ∷ []) d before (moved_order ps s u (added g.value way))
  move_order-reached none a s u gs g before way m k r e = absurd r
  move_order-reached (more p ps) a here u gs g before way m k r e = absurd r
  move_order-reached (more p ps) a (among j ms) u gs g before way m k r e = absurd r
  move_order-reached (more p ps) a (inside j s) (among i ns) gs g before way m k r e = absurd (invert.next_order-among (more p ps) (inside j s) a i ns e)
  move_order-reached (more p ps) a (inside j s) here gs g before way m k r e = absurd (invert.next_order-here (more p ps) (inside j s) a e)
  move_order-reached (more p ps) a (inside zero s) (inside zero u) gs g before way m k r e =
      move-reached false p a s u gs g (flagged true before) way m.0 k.0 r (invert.next_order-first p ps a s u e)
  move_order-reached (more p ps) a (inside zero s) (inside (suc i) u) gs g before way m k r e =
      let x = invert.next_order-leaves p ps a s i u e in
      let y = end-reached false p s gs g (flagged true before) way k.0 r x.0 in
      let n = enter_order-reached ps a (inside i u) m.1 k.1 x.1 in (
        n.0,
        (
          true ∷ [],
          y.0 ∷ [],
          gs ++ g ∷ [],
          [],
          sym (append-nil (gs ++ g ∷ [])),
          front-made p none y.0 [] [] (gs ++ g ∷ []) y.2 refl,
          subst (λ z. OrderReached ps (inside i u) [] n.0 (with_parts (true ∷ []) (y.0 ∷ []) before) (entered_order ps (inside i u) z)) (sym (y.1 ∙ part-present y.0 before))
              (n.1 (with_parts (true ∷ []) (y.0 ∷ []) before)),
        ),
      )
  move_order-reached (more p ps) a (inside (suc j) s) (inside zero u) gs g before way m k r e = absurd (invert.next_order-back p ps a j s u e)
  move_order-reached (more p ps) a (inside (suc j) s) (inside (suc i) u) gs g before way m k (flags, vs, c, b, q, h, r) e =
      let x = move_order-reached ps a (inside j s) (inside i u) b g (with_parts flags vs before) way m.1 k.1 r (invert.next_order-later p ps a j s i u e) in
      (x.0, (flags, vs, c, b ++ g ∷ [], behind gs c b g q, h, x.1))

  pub move_one-reached : (ps : Particles) (a : Name) (j i : ℕ) (s u : Spot) (gs : List Child) (g : Child) (before way : Zip ValueLabel) → AllMayOccur ps → AllKeepRule1 ps
      → OneReached ps j s gs g.decl before way → next_one ps (inside j s) a ≡ Some (inside i u)
      → (i ≡ j) × ((d : ℕ) × OneReached ps j u (gs ++ g ∷ []) d before (moved_one ps j s u (added g.value way)))
  move_one-reached none a j i s u gs g before way m k r e = absurd r
  move_one-reached (more p ps) a zero i s u gs g before way m k r e =
      let x = invert.next_one-first p ps a s i u e in
      (x.0, move-reached true p a s u gs g before way m.0 k.0 r x.1)
  move_one-reached (more p ps) a (suc j) zero s u gs g before way m k r e = absurd (invert.next_one-back p ps a j s u e)
  move_one-reached (more p ps) a (suc j) (suc i) s u gs g before way m k r e =
      let x = move_one-reached ps a j i s u gs g before way m.1 k.1 r (invert.next_one-later p ps a j s i u e) in
      (ap suc x.0, x.1)
