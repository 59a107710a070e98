-- What holds of the element particles of a content model holds of the leaves of each of its lists.
use Rattle.std.proofs.Common.{ℕ, zero, suc, ◌+◌, inl, inr, List, [], ◌∷◌, ◌++◌, sym, subst}
use Rattle.std.specs.Prelude.{All}
use Rattle.std.proofs.lemmas.List.Elements.{All-nil, All-cons, All-head, All-tail, All-append}
use Rattle.base_texts.specs.declared.texts.Name.{Name}
use Rattle.content_models.specs.Particle.{Particle, occurs, Term, element, sequence, choice, all, Particles, none, more}
use Rattle.content_models.specs.Language.{Leaf, Turn, turn_of, leaf_at, size_of, Times, joined, Lang, Body, InOrder, OneOf, AnyOrder}
use Rattle.schema_components.specs.Linked.{leaves, leaves_of_term, all_leaves}

-- of a list before another
all-before : {X : Type 0} (P : X → Type 0) (xs ys : List X) → All P (xs ++ ys) → All P xs
all-before P [] ys h = All-nil P
all-before P (x ∷ xs) ys h = All-cons P x xs (All-head P x (xs ++ ys) h) (all-before P xs ys (All-tail P x (xs ++ ys) h))

all-behind : {X : Type 0} (P : X → Type 0) (xs ys : List X) → All P (xs ++ ys) → All P ys
all-behind P [] ys h = h
all-behind P (x ∷ xs) ys h = all-behind P xs ys (All-tail P x (xs ++ ys) h)

module _ (P : ℕ × Name → Type 0) where
  abbrev pub AtLeaf : Leaf → Type 0
  AtLeaf l = P (l.decl, l.name)

  times-hold : (B : ℕ → List Leaf → Type 0) → ((i : ℕ) (x : List Leaf) → B i x → All AtLeaf x) → (k t : ℕ) (w : List Leaf) → Times B k t w → All AtLeaf w
  times-hold B f zero t w e = subst (All AtLeaf) (sym e) (All-nil AtLeaf)
  times-hold B f (suc k) t w (x, y, e, b, rest) = subst (All AtLeaf) (sym e) (All-append AtLeaf x y (f t x b) (times-hold B f k (suc t) y rest))

  -- a list between others
  between : (ys : List (List Leaf)) (x : List Leaf) (zs : List (List Leaf)) → All AtLeaf x → All AtLeaf (joined (ys ++ zs)) → All AtLeaf (joined (ys ++ x ∷ zs))
  between [] x zs b h = All-append AtLeaf x (joined zs) b h
  between (y ∷ ys) x zs b h =
      All-append AtLeaf y (joined (ys ++ x ∷ zs)) (all-before AtLeaf y (joined (ys ++ zs)) h)
      (between ys x zs b (all-behind AtLeaf y (joined (ys ++ zs)) h))

  mutual
    pub lang-holds : (p : Particle) → All P (leaves p) → (n : ℕ) (path : List Turn) (w : List Leaf) → Lang p n path w → All AtLeaf w
    lang-holds (occurs t least most) h n path w (k, within, times) =
        times-hold (λ i. Body t n (path ++ turn_of n i ∷ [])) (λ i x b. body-holds t h n (path ++ turn_of n i ∷ []) x b) k 0 w times

    body-holds : (t : Term) → All P (leaves_of_term t) → (n : ℕ) (path : List Turn) (w : List Leaf) → Body t n path w → All AtLeaf w
    body-holds (element d a) h n path w e =
        subst (All AtLeaf) (sym e) (All-cons AtLeaf (leaf_at n d a path) [] (All-head P (d, a) [] h) (All-nil AtLeaf))
    body-holds (sequence ps) h n path w b = order-holds ps h (suc n) path w b
    body-holds (choice ps) h n path w b = one-holds ps h (suc n) path w b
    body-holds (all ps) h n path w (xs, e, b) = subst (All AtLeaf) (sym e) (any-holds ps h (suc n) path xs b)

    order-holds : (ps : Particles) → All P (all_leaves ps) → (n : ℕ) (path : List Turn) (w : List Leaf) → InOrder ps n path w → All AtLeaf w
    order-holds none h n path w e = subst (All AtLeaf) (sym e) (All-nil AtLeaf)
    order-holds (more p ps) h n path w (x, y, e, first, rest) =
        subst (All AtLeaf) (sym e)
        (All-append AtLeaf x y (lang-holds p (all-before P (leaves p) (all_leaves ps) h) n path x first)
        (order-holds ps (all-behind P (leaves p) (all_leaves ps) h) (n + size_of p) path y rest))

    one-holds : (ps : Particles) → All P (all_leaves ps) → (n : ℕ) (path : List Turn) (w : List Leaf) → OneOf ps n path w → All AtLeaf w
    one-holds none h n path w b = absurd b
    one-holds (more p ps) h n path w (inl b) = lang-holds p (all-before P (leaves p) (all_leaves ps) h) n path w b
    one-holds (more p ps) h n path w (inr b) = one-holds ps (all-behind P (leaves p) (all_leaves ps) h) (n + size_of p) path w b

    any-holds : (ps : Particles) → All P (all_leaves ps) → (n : ℕ) (path : List Turn) (xs : List (List Leaf)) → AnyOrder ps n path xs → All AtLeaf (joined xs)
    any-holds none h n path xs e = subst (λ v. All AtLeaf (joined v)) (sym e) (All-nil AtLeaf)
    any-holds (more p ps) h n path xs (ys, x, zs, e, first, rest) =
        subst (λ v. All AtLeaf (joined v)) (sym e)
        (between ys x zs (lang-holds p (all-before P (leaves p) (all_leaves ps) h) n path x first)
        (any-holds ps (all-behind P (leaves p) (all_leaves ps) h) (n + size_of p) path (ys ++ zs) rest))
