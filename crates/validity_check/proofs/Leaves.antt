-- The leaves of each list of a content model stand for declarations that its element particles name.
use Rattle.std.proofs.Common.{◌≡◌, ℕ, zero, suc, ◌+◌, ◌<◌, inl, inr, List, [], ◌∷◌, ◌++◌, length, get_or, sym, subst, arith}
use Rattle.std.specs.Prelude.{All, slice_get, IsSomeAnd}
use Rattle.std.proofs.lemmas.List.Elements.{All-nil, All-cons, All-head, All-tail, All-append}
use Rattle.base_texts.specs.declared.texts.Name.{Name}
use Rattle.content_models.specs.Particle.{Particle, occurs, Term, element, sequence, choice, all, Particles, none, more}
use Rattle.content_models.specs.Language.{Turn, Leaf, turn_of, leaf_at, size_of, Times, joined, Lang, Body, InOrder, OneOf, AnyOrder}
use Rattle.schema_components.specs.declared.components.ElementDecl.{ElementDecl}
use Rattle.schema_components.specs.Components.{Set}
use Rattle.schema_components.specs.Linked.{leaves, leaves_of_term, all_leaves, IsNamed}
use Rattle.validity_rules.specs.Faults.{Begins}
use Rattle.validity_check.specs.Told.{AreNamed}

split_all : {X : Type 0} (P : X → Type 0) (xs ys : List X) → All P (xs ++ ys) → All P xs × All P ys
split_all P [] ys h = (All-nil P, h)
split_all P (x ∷ xs) ys h =
    let rest = split_all P xs ys (All-tail P x (xs ++ ys) h) in
    (All-cons P x xs (All-head P x (xs ++ ys) h) rest.0, rest.1)

-- what holds of each declaration and name that a content model has holds of each leaf
module _ (P : ℕ → Name → Type 0) where
  abbrev IsSuch : ℕ × Name → Type 0
  IsSuch leaf = P leaf.0 leaf.1

  abbrev HasSuch : Leaf → Type 0
  HasSuch l = P l.decl l.name

  times-have : (B : ℕ → List Leaf → Type 0) → ((i : ℕ) (x : List Leaf) → B i x → All HasSuch x) → (k i : ℕ) (w : List Leaf) → Times B k i w → All HasSuch w
  times-have B f zero i w e = subst (λ v. All HasSuch v) (sym e) (All-nil HasSuch)
  times-have B f (suc k) i w (x, y, e, b, t) = subst (λ v. All HasSuch v) (sym e) (All-append HasSuch x y (f i x b) (times-have B f k (suc i) y t))

  -- a list between others
  between : (ys : List (List Leaf)) (x : List Leaf) (zs : List (List Leaf)) → All HasSuch x → All HasSuch (joined (ys ++ zs)) → All HasSuch (joined (ys ++ x ∷ zs))
  between [] x zs b h = All-append HasSuch x (joined zs) b h
  between (y ∷ ys) x zs b h =
      let both = split_all HasSuch y (joined (ys ++ zs)) h in
      All-append HasSuch y (joined (ys ++ x ∷ zs)) both.0 (between ys x zs b both.1)

  mutual
    particle-has : (p : Particle) (n : ℕ) (path : List Turn) (w : List Leaf) → All IsSuch (leaves p) → Lang p n path w → All HasSuch w
    particle-has (occurs t least most) n path w h (k, within, ts) =
        times-have (λ i. Body t n (path ++ turn_of n i ∷ [])) (λ i x b. term-has t n (path ++ turn_of n i ∷ []) x h b) k 0 w ts

    term-has : (t : Term) (n : ℕ) (path : List Turn) (w : List Leaf) → All IsSuch (leaves_of_term t) → Body t n path w → All HasSuch w
    term-has (element d a) n path w h e =
        subst (λ v. All HasSuch v) (sym e) (All-cons HasSuch (leaf_at n d a path) [] (All-head IsSuch (d, a) [] h) (All-nil HasSuch))
    term-has (sequence ps) n path w h b = order-has ps (suc n) path w h b
    term-has (choice ps) n path w h b = one-has ps (suc n) path w h b
    term-has (all ps) n path w h (xs, e, b) = subst (λ v. All HasSuch v) (sym e) (any-has ps (suc n) path xs h b)

    order-has : (ps : Particles) (n : ℕ) (path : List Turn) (w : List Leaf) → All IsSuch (all_leaves ps) → InOrder ps n path w → All HasSuch w
    order-has none n path w h e = subst (λ v. All HasSuch v) (sym e) (All-nil HasSuch)
    order-has (more p ps) n path w h (x, y, e, b, c) =
        let both = split_all IsSuch (leaves p) (all_leaves ps) h in
        subst (λ v. All HasSuch v) (sym e) (All-append HasSuch x y (particle-has p n path x both.0 b) (order-has ps (n + size_of p) path y both.1 c))

    one-has : (ps : Particles) (n : ℕ) (path : List Turn) (w : List Leaf) → All IsSuch (all_leaves ps) → OneOf ps n path w → All HasSuch w
    one-has none n path w h b = absurd b
    one-has (more p ps) n path w h (inl b) = particle-has p n path w (split_all IsSuch (leaves p) (all_leaves ps) h).0 b
    one-has (more p ps) n path w h (inr c) = one-has ps (n + size_of p) path w (split_all IsSuch (leaves p) (all_leaves ps) h).1 c

    any-has : (ps : Particles) (n : ℕ) (path : List Turn) (xs : List (List Leaf)) → All IsSuch (all_leaves ps) → AnyOrder ps n path xs → All HasSuch (joined xs)
    any-has none n path xs h e = subst (λ v. All HasSuch (joined v)) (sym e) (All-nil HasSuch)
    any-has (more p ps) n path xs h (ys, x, zs, e, b, c) =
        let both = split_all IsSuch (leaves p) (all_leaves ps) h in
        subst (λ v. All HasSuch (joined v)) (sym e) (between ys x zs (particle-has p n path x both.0 b) (any-has ps (n + size_of p) path (ys ++ zs) both.1 c))

  -- of the last of some leaves with which a list begins
  pub last_has : (p : Particle) (us : List Leaf) (l : Leaf) → All IsSuch (leaves p) → Begins p (us ++ l ∷ []) → P l.decl l.name
  last_has p us l such (w, lang) =
      let all = particle-has p 0 [] ((us ++ l ∷ []) ++ w) such lang in
      let first = (split_all HasSuch (us ++ l ∷ []) w all).0 in
      All-head HasSuch l [] (split_all HasSuch us (l ∷ []) first).1

pub last_declared : (s : Set) (p : Particle) (us : List Leaf) (l : Leaf) → AreNamed s p → Begins p (us ++ l ∷ []) → l.decl < length s.elements
last_declared s p us l low begins = last_has (λ d a. d < length s.elements) p us l low begins

there : {X : Type 0} (P : X → Type 0) (xs : List X) (n : ℕ) → IsSomeAnd (slice_get xs n) P → n < length xs
there P [] n h = absurd h
there P (x ∷ xs) zero h = omega arith
there P (x ∷ xs) (suc n) h = omega (arith, there P xs n h)

pub names_declared : (s : Set) (p : Particle) → All (IsNamed s) (leaves p) → AreNamed s p
names_declared s p h = λ k d lt. let a = get_or (leaves p) k d in there (λ (e : ElementDecl). e.name ≡ a.1) s.elements a.0 (h k d lt)
