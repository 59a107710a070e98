-- Where a step comes from and where it leads.
use Rattle.std.proofs.Common.{◌≡◌, ℕ, zero, suc, ◌⊎◌, inl, inr, Bool, true, false, ◌&&◌, cond, List, Option, Some, None, refl, sym, ◌∙◌, ap}
use Rattle.base_texts.specs.declared.texts.Name.{Name}
use Rattle.content_models.specs.Particle.{Particle, occurs, Term, Particles, none, more}
use Rattle.content_models.specs.Clear.{empties}
use Rattle.content_models.specs.Spots.{Spot, at, Inner, here, inside, among, over, or_else, first_kid, next_kid, may_repeat, enter, enter_term, enter_order, enter_one, finishes, finishes_term, next, next_term, next_order, next_one}
use Rattle.content_models.proofs.Options.{over_some, or_else_some, cond_some}

next_kid-here : (x : Inner) → here ≡ next_kid x → x ≡ here
next_kid-here here e = refl
next_kid-here (inside j s) e = absurd (cc)
next_kid-here (among j ms) e = absurd (cc)

next_kid-among : (x : Inner) (i : ℕ) (ns : List Bool) → among i ns ≡ next_kid x → x ≡ among i ns
next_kid-among here i ns e = absurd (cc)
next_kid-among (inside j s) i ns e = absurd (cc)
next_kid-among (among j ms) i ns e = sym e

next_kid-first : (x : Inner) (s : Spot) → inside zero s ≡ next_kid x → ⊥
next_kid-first here s e = cc
next_kid-first (inside j r) s e = cc
next_kid-first (among j ms) s e = cc

next_kid-later : (x : Inner) (k : ℕ) (s : Spot) → inside (suc k) s ≡ next_kid x → x ≡ inside k s
next_kid-later here k s e = absurd (cc)
next_kid-later (inside j r) k s e = cc
next_kid-later (among j ms) k s e = absurd (cc)

-- what stands at a later kid, or in front
later : (o : Option Inner) (k : ℕ) (s : Spot) → over next_kid o ≡ Some (inside (suc k) s) → o ≡ Some (inside k s)
later o k s e = let x = over_some next_kid o (inside (suc k) s) e in x.1 ∙ ap Some (next_kid-later x.0 k s x.2)

not-first : (o : Option Inner) (s : Spot) → over next_kid o ≡ Some (inside zero s) → ⊥
not-first o s e = let x = over_some next_kid o (inside zero s) e in next_kid-first x.0 s x.2

later-here : (o : Option Inner) → over next_kid o ≡ Some here → o ≡ Some here
later-here o e = let x = over_some next_kid o here e in x.1 ∙ ap Some (next_kid-here x.0 x.2)

later-among : (o : Option Inner) (i : ℕ) (ns : List Bool) → over next_kid o ≡ Some (among i ns) → o ≡ Some (among i ns)
later-among o i ns e = let x = over_some next_kid o (among i ns) e in x.1 ∙ ap Some (next_kid-among x.0 i ns x.2)

first : (o : Option Spot) (s : Spot) → over first_kid o ≡ Some (inside zero s) → o ≡ Some s
first o s e = let x = over_some first_kid o (inside zero s) e in let same : s ≡ x.0 = (let q = x.2 in cc) in x.1 ∙ ap Some (sym same)

not-later : (o : Option Spot) (k : ℕ) (s : Spot) → over first_kid o ≡ Some (inside (suc k) s) → ⊥
not-later o k s e = let x = over_some first_kid o (inside (suc k) s) e in let q = x.2 in cc

first-here : (o : Option Spot) → over first_kid o ≡ Some here → ⊥
first-here o e = let x = over_some first_kid o here e in let q = x.2 in cc

first-among : (o : Option Spot) (i : ℕ) (ns : List Bool) → over first_kid o ≡ Some (among i ns) → ⊥
first-among o i ns e = let x = over_some first_kid o (among i ns) e in let q = x.2 in cc

at-both : (i j : ℕ) (s u : Inner) → at j u ≡ at i s → (j ≡ i) × (u ≡ s)
at-both i j s u e = (cc, cc)

-- ---- entering

pub enter-term : (t : Term) (least : ℕ) (most : Option ℕ) (a : Name) (i : ℕ) (s : Inner) → enter (occurs t least most) a ≡ Some (at i s) → (i ≡ 0) × (enter_term t a ≡ Some s)
enter-term t least most a i s e =
    let x = over_some (at 0) (enter_term t a) (at i s) e in
    let b = at-both 0 i x.0 s x.2 in
    (b.0, x.1 ∙ ap Some (sym b.1))

order-first : (o : Option Spot) (b : Bool) (q : Option Inner) (s : Spot) → or_else (over first_kid o) (cond b (over next_kid q) None) ≡ Some (inside zero s) → o ≡ Some s
order-first o b q s e = go (or_else_some (over first_kid o) (cond b (over next_kid q) None) (inside zero s) e)
  where
    go : (over first_kid o ≡ Some (inside zero s)) ⊎ ((over first_kid o ≡ None) × (cond b (over next_kid q) None ≡ Some (inside zero s))) → o ≡ Some s
    go (inl h) = first o s h
    go (inr h) = absurd (not-first q s (cond_some b (over next_kid q) (inside zero s) h.1).1)

order-later : (o : Option Spot) (b : Bool) (q : Option Inner) (k : ℕ) (s : Spot) → or_else (over first_kid o) (cond b (over next_kid q) None) ≡ Some (inside (suc k) s)
    → (b ≡ true) × (q ≡ Some (inside k s))
order-later o b q k s e = go (or_else_some (over first_kid o) (cond b (over next_kid q) None) (inside (suc k) s) e)
  where
    go : (over first_kid o ≡ Some (inside (suc k) s)) ⊎ ((over first_kid o ≡ None) × (cond b (over next_kid q) None ≡ Some (inside (suc k) s))) → (b ≡ true) × (q ≡ Some (inside k s))
    go (inl h) = absurd (not-later o k s h)
    go (inr h) = let c = cond_some b (over next_kid q) (inside (suc k) s) h.1 in (c.0, later q k s c.1)

order-here : (o : Option Spot) (b : Bool) (q : Option Inner) → or_else (over first_kid o) (cond b (over next_kid q) None) ≡ Some here → q ≡ Some here
order-here o b q e = go (or_else_some (over first_kid o) (cond b (over next_kid q) None) here e)
  where
    go : (over first_kid o ≡ Some here) ⊎ ((over first_kid o ≡ None) × (cond b (over next_kid q) None ≡ Some here)) → q ≡ Some here
    go (inl h) = absurd (first-here o h)
    go (inr h) = later-here q (cond_some b (over next_kid q) here h.1).1

order-among : (o : Option Spot) (b : Bool) (q : Option Inner) (i : ℕ) (ns : List Bool) → or_else (over first_kid o) (cond b (over next_kid q) None) ≡ Some (among i ns) → q ≡ Some (among i ns)
order-among o b q i ns e = go (or_else_some (over first_kid o) (cond b (over next_kid q) None) (among i ns) e)
  where
    go : (over first_kid o ≡ Some (among i ns)) ⊎ ((over first_kid o ≡ None) × (cond b (over next_kid q) None ≡ Some (among i ns))) → q ≡ Some (among i ns)
    go (inl h) = absurd (first-among o i ns h)
    go (inr h) = later-among q i ns (cond_some b (over next_kid q) (among i ns) h.1).1

pub enter_order-first : (p : Particle) (ps : Particles) (a : Name) (s : Spot) → enter_order (more p ps) a ≡ Some (inside zero s) → enter p a ≡ Some s
enter_order-first p ps a s e = order-first (enter p a) (empties p) (enter_order ps a) s e

pub enter_order-later : (p : Particle) (ps : Particles) (a : Name) (k : ℕ) (s : Spot) → enter_order (more p ps) a ≡ Some (inside (suc k) s)
    → (empties p ≡ true) × (enter_order ps a ≡ Some (inside k s))
enter_order-later p ps a k s e = order-later (enter p a) (empties p) (enter_order ps a) k s e

pub enter_order-here : (ps : Particles) (a : Name) → enter_order ps a ≡ Some here → ⊥
enter_order-here none a e = cc
enter_order-here (more p ps) a e = enter_order-here ps a (order-here (enter p a) (empties p) (enter_order ps a) e)

pub enter_order-among : (ps : Particles) (a : Name) (i : ℕ) (ns : List Bool) → enter_order ps a ≡ Some (among i ns) → ⊥
enter_order-among none a i ns e = cc
enter_order-among (more p ps) a i ns e = enter_order-among ps a i ns (order-among (enter p a) (empties p) (enter_order ps a) i ns e)

pub enter_one-first : (p : Particle) (ps : Particles) (a : Name) (s : Spot) → enter_one (more p ps) a ≡ Some (inside zero s) → enter p a ≡ Some s
enter_one-first p ps a s e = order-first (enter p a) true (enter_one ps a) s e

pub enter_one-later : (p : Particle) (ps : Particles) (a : Name) (k : ℕ) (s : Spot) → enter_one (more p ps) a ≡ Some (inside (suc k) s) → enter_one ps a ≡ Some (inside k s)
enter_one-later p ps a k s e = (order-later (enter p a) true (enter_one ps a) k s e).1

pub enter_one-here : (ps : Particles) (a : Name) → enter_one ps a ≡ Some here → ⊥
enter_one-here none a e = cc
enter_one-here (more p ps) a e = enter_one-here ps a (order-here (enter p a) true (enter_one ps a) e)

pub enter_one-among : (ps : Particles) (a : Name) (i : ℕ) (ns : List Bool) → enter_one ps a ≡ Some (among i ns) → ⊥
enter_one-among none a i ns e = cc
enter_one-among (more p ps) a i ns e = enter_one-among ps a i ns (order-among (enter p a) true (enter_one ps a) i ns e)

-- ---- going on

-- in the same occurrence, or in the next
abbrev pub Onwards : Term → Option ℕ → ℕ → Inner → Name → ℕ → Inner → Type 0
Onwards t most i s a j u =
    ((j ≡ i) × (next_term t s a ≡ Some u)) ⊎ ((j ≡ suc i) × (finishes_term t s ≡ true) × (may_repeat most i ≡ true) × (enter_term t a ≡ Some u))

pub next-term : (t : Term) (least : ℕ) (most : Option ℕ) (a : Name) (i j : ℕ) (s u : Inner) → next (occurs t least most) (at i s) a ≡ Some (at j u) → Onwards t most i s a j u
next-term t least most a i j s u e =
    go (or_else_some (over (at i) (next_term t s a)) (cond (finishes_term t s && may_repeat most i) (over (at (suc i)) (enter_term t a)) None) (at j u) e)
  where
    both : (b c : Bool) → (b && c) ≡ true → (b ≡ true) × (c ≡ true)
    both true c h = (refl, h)
    both false c h = absurd (cc)

    go : (over (at i) (next_term t s a) ≡ Some (at j u))
        ⊎ ((over (at i) (next_term t s a) ≡ None) × (cond (finishes_term t s && may_repeat most i) (over (at (suc i)) (enter_term t a)) None ≡ Some (at j u))) → Onwards t most i s a j u
    go (inl h) =
        let x = over_some (at i) (next_term t s a) (at j u) h in
        let b = at-both i j x.0 u x.2 in
        inl (b.0, x.1 ∙ ap Some (sym b.1))
    go (inr h) =
        let c = cond_some (finishes_term t s && may_repeat most i) (over (at (suc i)) (enter_term t a)) (at j u) h.1 in
        let f = both (finishes_term t s) (may_repeat most i) c.0 in
        let x = over_some (at (suc i)) (enter_term t a) (at j u) c.1 in
        let b = at-both (suc i) j x.0 u x.2 in
        inr (b.0, f.0, f.1, x.1 ∙ ap Some (sym b.1))

pub next_order-first : (p : Particle) (ps : Particles) (a : Name) (s u : Spot) → next_order (more p ps) (inside zero s) a ≡ Some (inside zero u) → next p s a ≡ Some u
next_order-first p ps a s u e = order-first (next p s a) (finishes p s) (enter_order ps a) u e

pub next_order-leaves : (p : Particle) (ps : Particles) (a : Name) (s : Spot) (k : ℕ) (u : Spot) → next_order (more p ps) (inside zero s) a ≡ Some (inside (suc k) u)
    → (finishes p s ≡ true) × (enter_order ps a ≡ Some (inside k u))
next_order-leaves p ps a s k u e = order-later (next p s a) (finishes p s) (enter_order ps a) k u e

pub next_order-later : (p : Particle) (ps : Particles) (a : Name) (j : ℕ) (s : Spot) (k : ℕ) (u : Spot) → next_order (more p ps) (inside (suc j) s) a ≡ Some (inside (suc k) u)
    → next_order ps (inside j s) a ≡ Some (inside k u)
next_order-later p ps a j s k u e = later (next_order ps (inside j s) a) k u e

pub next_order-back : (p : Particle) (ps : Particles) (a : Name) (j : ℕ) (s u : Spot) → next_order (more p ps) (inside (suc j) s) a ≡ Some (inside zero u) → ⊥
next_order-back p ps a j s u e = not-first (next_order ps (inside j s) a) u e

pub next_order-here : (ps : Particles) (s : Inner) (a : Name) → next_order ps s a ≡ Some here → ⊥
next_order-here none s a e = cc
next_order-here (more p ps) here a e = cc
next_order-here (more p ps) (among j ms) a e = cc
next_order-here (more p ps) (inside zero s) a e = enter_order-here ps a (order-here (next p s a) (finishes p s) (enter_order ps a) e)
next_order-here (more p ps) (inside (suc j) s) a e = next_order-here ps (inside j s) a (later-here (next_order ps (inside j s) a) e)

pub next_order-among : (ps : Particles) (s : Inner) (a : Name) (i : ℕ) (ns : List Bool) → next_order ps s a ≡ Some (among i ns) → ⊥
next_order-among none s a i ns e = cc
next_order-among (more p ps) here a i ns e = cc
next_order-among (more p ps) (among j ms) a i ns e = cc
next_order-among (more p ps) (inside zero s) a i ns e = enter_order-among ps a i ns (order-among (next p s a) (finishes p s) (enter_order ps a) i ns e)
next_order-among (more p ps) (inside (suc j) s) a i ns e = next_order-among ps (inside j s) a i ns (later-among (next_order ps (inside j s) a) i ns e)

pub next_order-from : (ps : Particles) (a : Name) (u : Inner) → next_order ps here a ≡ Some u → ⊥
next_order-from none a u e = cc
next_order-from (more p ps) a u e = cc

pub next_one-first : (p : Particle) (ps : Particles) (a : Name) (s : Spot) (k : ℕ) (u : Spot) → next_one (more p ps) (inside zero s) a ≡ Some (inside k u) → (k ≡ 0) × (next p s a ≡ Some u)
next_one-first p ps a s zero u e = (refl, first (next p s a) u e)
next_one-first p ps a s (suc k) u e = absurd (not-later (next p s a) k u e)

pub next_one-later : (p : Particle) (ps : Particles) (a : Name) (j : ℕ) (s : Spot) (k : ℕ) (u : Spot) → next_one (more p ps) (inside (suc j) s) a ≡ Some (inside (suc k) u)
    → next_one ps (inside j s) a ≡ Some (inside k u)
next_one-later p ps a j s k u e = later (next_one ps (inside j s) a) k u e

pub next_one-back : (p : Particle) (ps : Particles) (a : Name) (j : ℕ) (s u : Spot) → next_one (more p ps) (inside (suc j) s) a ≡ Some (inside zero u) → ⊥
next_one-back p ps a j s u e = not-first (next_one ps (inside j s) a) u e

pub next_one-here : (ps : Particles) (s : Inner) (a : Name) → next_one ps s a ≡ Some here → ⊥
next_one-here none s a e = cc
next_one-here (more p ps) here a e = cc
next_one-here (more p ps) (among j ms) a e = cc
next_one-here (more p ps) (inside zero s) a e = first-here (next p s a) e
next_one-here (more p ps) (inside (suc j) s) a e = next_one-here ps (inside j s) a (later-here (next_one ps (inside j s) a) e)

pub next_one-among : (ps : Particles) (s : Inner) (a : Name) (i : ℕ) (ns : List Bool) → next_one ps s a ≡ Some (among i ns) → ⊥
next_one-among none s a i ns e = cc
next_one-among (more p ps) here a i ns e = cc
next_one-among (more p ps) (among j ms) a i ns e = cc
next_one-among (more p ps) (inside zero s) a i ns e = first-among (next p s a) i ns e
next_one-among (more p ps) (inside (suc j) s) a i ns e = next_one-among ps (inside j s) a i ns (later-among (next_one ps (inside j s) a) i ns e)

pub next_one-from : (ps : Particles) (a : Name) (u : Inner) → next_one ps here a ≡ Some u → ⊥
next_one-from none a u e = cc
next_one-from (more p ps) a u e = cc
