-- The declaration of the leaf whose way is open.
use Rattle.std.proofs.Common.{◌≡◌, ℕ, zero, suc, ◌+◌, Bool, true, false, List, [], ◌∷◌, ◌++◌, Option, Some, sym, ◌∙◌, ap}
use Rattle.base_flat_trees.specs.Zips.{Zip}
use Rattle.simple_types.specs.declared.labels.ValueLabel.{ValueLabel}
use Rattle.content_models.specs.Particle.{Particle, occurs, Term, element, sequence, choice, all, Particles, none, more}
use Rattle.content_models.specs.Language.{Turn, Leaf, leaf_at, turn_of, size_of}
use Rattle.content_models.specs.Spots.{Spot, at, Inner, here, inside, among, leaf_of, leaf_of_term, leaf_in}
use Rattle.value_contents.specs.Bounds.{is_single, is_parted}
use Rattle.value_contents.specs.Made.{Child}
use Rattle.value_contents.specs.Reached.{Reached, TermReached, OrderReached, OneReached, PartedReached, TopReached}
use Rattle.value_contents.proofs.Reaching.{ReachedBy}
use Rattle.value_contents.proofs.Topping.{TopBy}

items-leaf : (t : Term) (most : Option ℕ) (i : ℕ) (s : Inner) (single : Bool) (gs : List Child) (d : ℕ) (before now : Zip ValueLabel) (l : Leaf)
    → ((zs : List Child) (y : Zip ValueLabel) → TermReached t s zs d y now → d ≡ l.decl) → ReachedBy t most i s single gs d before now → d ≡ l.decl
items-leaf t most i s true gs d before now l f r = f gs before r.1
items-leaf t most i s false gs d before now l f (vs, a, b, e, bf, r) = f b _ r

mutual
  pub leaf-reached : (b : Bool) (p : Particle) (n : ℕ) (path : List Turn) (s : Spot) (gs : List Child) (d : ℕ) (before now : Zip ValueLabel) (l : Leaf)
      → Reached b p s gs d before now → leaf_of p n path s ≡ Some l → d ≡ l.decl
  leaf-reached b (occurs t least most) n path (at i s) gs d before now l r e =
      items-leaf t most i s (is_single b least most) gs d before now l (λ zs y q. leaf-reached_term t n (path ++ turn_of n i ∷ []) s zs d y now l q e) r

  leaf-reached_term : (t : Term) (n : ℕ) (path : List Turn) (s : Inner) (gs : List Child) (d : ℕ) (before now : Zip ValueLabel) (l : Leaf)
      → TermReached t s gs d before now → leaf_of_term t n path s ≡ Some l → d ≡ l.decl
  leaf-reached_term (element c a) n path here gs d before now l r e = let same : leaf_at n c a path ≡ l = cc in sym r.1 ∙ ap (λ (x : Leaf). x.decl) same
  leaf-reached_term (element c a) n path (inside j s) gs d before now l r e = absurd r
  leaf-reached_term (element c a) n path (among j ms) gs d before now l r e = absurd r
  leaf-reached_term (all ps) n path s gs d before now l r e = absurd r
  leaf-reached_term (choice ps) n path (among j ms) gs d before now l r e = absurd r
  leaf-reached_term (sequence ps) n path s gs d before now l r e = leaf-reached_order ps (suc n) path s gs d _ now l r e
  leaf-reached_term (choice ps) n path here gs d before now l r e = absurd r
  leaf-reached_term (choice ps) n path (inside j s) gs d before now l r e = leaf-reached_one ps (suc n) path j s gs d _ now l r e

  leaf-reached_order : (ps : Particles) (n : ℕ) (path : List Turn) (s : Inner) (gs : List Child) (d : ℕ) (before now : Zip ValueLabel) (l : Leaf)
      → OrderReached ps s gs d before now → leaf_in ps n path s ≡ Some l → d ≡ l.decl
  leaf-reached_order none n path s gs d before now l r e = absurd r
  leaf-reached_order (more p ps) n path here gs d before now l r e = absurd r
  leaf-reached_order (more p ps) n path (among j ms) gs d before now l r e = absurd r
  leaf-reached_order (more p ps) n path (inside zero s) gs d before now l r e = leaf-reached false p n path s gs d _ now l r e
  leaf-reached_order (more p ps) n path (inside (suc j) s) gs d before now l (flags, vs, a, b, q, m, r) e = leaf-reached_order ps (n + size_of p) path (inside j s) b d _ now l r e

  leaf-reached_one : (ps : Particles) (n : ℕ) (path : List Turn) (j : ℕ) (s : Spot) (gs : List Child) (d : ℕ) (before now : Zip ValueLabel) (l : Leaf)
      → OneReached ps j s gs d before now → leaf_in ps n path (inside j s) ≡ Some l → d ≡ l.decl
  leaf-reached_one none n path j s gs d before now l r e = absurd r
  leaf-reached_one (more p ps) n path zero s gs d before now l r e = leaf-reached true p n path s gs d before now l r e
  leaf-reached_one (more p ps) n path (suc j) s gs d before now l r e = leaf-reached_one ps (n + size_of p) path j s gs d before now l r e

parted-leaf : (t : Term) (least : ℕ) (most : Option ℕ) (s : Spot) (gs : List Child) (d : ℕ) (before now : Zip ValueLabel) (l : Leaf)
    → PartedReached t s gs d before now → leaf_of (occurs t least most) 0 [] s ≡ Some l → d ≡ l.decl
parted-leaf (element c a) least most s gs d before now l r e = absurd r
parted-leaf (choice ps) least most s gs d before now l r e = absurd r
parted-leaf (all ps) least most s gs d before now l r e = absurd r
parted-leaf (sequence ps) least most (at i s) gs d before now l r e = leaf-reached_order ps 1 (turn_of 0 i ∷ []) s gs d before now l r.1 e

-- the child element that comes next is one of the declaration that the leaf has
pub top-leaf : (p : Particle) (s : Spot) (gs : List Child) (d : ℕ) (before now : Zip ValueLabel) (l : Leaf) → TopReached p s gs d before now → leaf_of p 0 [] s ≡ Some l → d ≡ l.decl
top-leaf (occurs t least most) s gs d before now l r e = go (is_parted t least most) r
  where
    go : (parted : Bool) → TopBy t least most parted s gs d before now → d ≡ l.decl
    go true q = parted-leaf t least most s gs d before now l q e
    go false q = leaf-reached false (occurs t least most) 0 [] s gs d _ now l q e
