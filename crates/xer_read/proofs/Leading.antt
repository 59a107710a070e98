-- The way to a leaf leads to the declaration of the leaf.
use Rattle.std.proofs.Common.{◌≡◌, ℕ, zero, suc, ◌+◌, Bool, true, false, List, [], ◌∷◌, ◌++◌, Option, Some, None, length, refl, sym, ◌∙◌, ap, subst, arith, length-append}
use Rattle.base_texts.specs.declared.texts.Name.{Name}
use Rattle.base_trees.specs.Rose.{Rose}
use Rattle.base_flat_trees.specs.Zips.{Zip, opened, added_all}
use Rattle.simple_types.specs.declared.labels.ValueLabel.{ValueLabel}
use Rattle.simple_types.specs.declared.labels.ValueLabel.TheVariants as value
use Rattle.content_models.specs.Particle.{Particle, occurs, Term, element, sequence, choice, all, Particles, none, more}
use Rattle.content_models.specs.Language.{Turn, Leaf, turn_of, leaf_at, size_of}
use Rattle.content_models.specs.Clear.{Clear, ClearInOrder, ClearOneOf, IsNoAll}
use Rattle.content_models.specs.Spots.{Spot, at, Inner, here, inside, among, leaf_of, leaf_of_term, leaf_in}
use Rattle.content_models.specs.SpotLaws.{EndsAt, step_from}
use Rattle.content_match.specs.Taking.{Matched, TookMore, spot_of}
use Rattle.content_match.specs.declared.places.Leaf as matched
use Rattle.value_builder.specs.Built.{Built, Stands, flagged, with_parts}
use Rattle.xer_read.specs.Private.Putting.{OpenAt}
use Rattle.value_contents.specs.Bounds.{is_single, is_parted}
use Rattle.value_contents.specs.Made.{Child, TermMade}
use Rattle.value_contents.specs.Reached.{Before, Reached, TermReached, OrderReached, OneReached, PartedReached, TopReached, KeepsRule1, AllKeepRule1}

-- ---- the last leaf

pub last-same : {A : Type 0} (xs ys : List A) (x y : A) → xs ++ x ∷ [] ≡ ys ++ y ∷ [] → x ≡ y
last-same [] [] x y e = cc
last-same [] (b ∷ ys) x y e = absurd (let n = ap length e in let m = length-append ys (y ∷ []) in omega (arith, n, m))
last-same (a ∷ xs) [] x y e = absurd (let n = ap length e in let m = length-append xs (x ∷ []) in omega (arith, n, m))
last-same (a ∷ xs) (b ∷ ys) x y e = let rest : xs ++ x ∷ [] ≡ ys ++ y ∷ [] = cc in last-same xs ys x y rest

pub record Stop (p : Particle) (o : Option Spot) (l : Leaf) : Type 0 where
  pub spot : Spot
  pub is : o ≡ Some spot
  pub leaf : leaf_of p 0 [] spot ≡ Some l

-- behind a leaf, there is a spot, which is that of the leaf
pub stop-at : (p : Particle) (o : Option Spot) (us : List Leaf) (l : Leaf) → EndsAt p o (us ++ l ∷ []) → Stop p o l
stop-at p None us l e = absurd (let n = ap length e in let m = length-append us (l ∷ []) in omega (arith, n, m))
stop-at p (Some s) us l (earlier, last, e, leaf) = record { spot = s; is = refl; leaf = leaf ∙ ap (λ x. Some x) (sym (last-same us earlier l last e)) }

-- ---- the declaration

by-single : (b : Bool) (t : Term) (i : ℕ) (most : Option ℕ) (s : Inner) (gs : List Child) (d : ℕ) (before now : Zip ValueLabel) {P : Type 0}
    → ((own : List Child) (z : Zip ValueLabel) → TermReached t s own d z now → P)
    → elim b as (λ _. Type 0) [
      | true ↦ (i ≡ 0) × TermReached t s gs d before now
      | false ↦ (vs : List (Rose ValueLabel)) × (a : List Child) × (b : List Child) × (gs ≡ a ++ b) × Before (TermMade t) most i vs a
          × TermReached t s b d (added_all vs (opened value.SequenceOf before)) now
    ]
    → P
by-single true t i most s gs d before now f h = f gs before h.1
by-single false t i most s gs d before now f (vs, a, b, e, bounds, h) = f b (added_all vs (opened value.SequenceOf before)) h

leaf-decl : (n d : ℕ) (a : _) (path : List Turn) (l : Leaf) → Some (leaf_at n d a path) ≡ Some l → l.decl ≡ d
leaf-decl n d a path l q = let same : leaf_at n d a path ≡ l = cc in sym (ap (λ (x : Leaf). x.decl) same)

mutual
  particle-decl : (c : Bool) (p : Particle) (s : Spot) (gs : List Child) (d : ℕ) (before now : Zip ValueLabel) (n : ℕ) (path : List Turn) (l : Leaf) → Reached c p s gs d before now → leaf_of p n path s ≡ Some l → l.decl ≡ d
  particle-decl c (occurs t least most) (at i s) gs d before now n path l h e =
      by-single (is_single c least most) t i most s gs d before now (λ own z k. term-decl t s own d z now n (path ++ turn_of n i ∷ []) l k e) h

  term-decl : (t : Term) (s : Inner) (gs : List Child) (d : ℕ) (before now : Zip ValueLabel) (n : ℕ) (path : List Turn) (l : Leaf) → TermReached t s gs d before now → leaf_of_term t n path s ≡ Some l → l.decl ≡ d
  term-decl (element e a) here gs d before now n path l h q = leaf-decl n e a path l q ∙ h.1
  term-decl (element e a) (inside j s) gs d before now n path l h q = absurd h
  term-decl (element e a) (among j ms) gs d before now n path l h q = absurd h
  term-decl (all ps) s gs d before now n path l h q = absurd h
  term-decl (choice ps) (among j ms) gs d before now n path l h q = absurd h
  term-decl (sequence ps) s gs d before now n path l h q = order-decl ps s gs d (opened (value.Sequence []) before) now (suc n) path l h q
  term-decl (choice ps) here gs d before now n path l h q = absurd h
  term-decl (choice ps) (inside j s) gs d before now n path l h q = one-decl ps j s gs d (opened (value.Choice j) before) now (suc n) path l h q

  order-decl : (ps : Particles) (s : Inner) (gs : List Child) (d : ℕ) (before now : Zip ValueLabel) (n : ℕ) (path : List Turn) (l : Leaf) → OrderReached ps s gs d before now → leaf_in ps n path s ≡ Some l → l.decl ≡ d
  order-decl none s gs d before now n path l h q = absurd h
  order-decl (more p ps) here gs d before now n path l h q = absurd h
  order-decl (more p ps) (among j ms) gs d before now n path l h q = absurd h
  order-decl (more p ps) (inside zero s) gs d before now n path l h q = particle-decl false p s gs d (flagged true before) now n path l h q
  order-decl (more p ps) (inside (suc j) s) gs d before now n path l (flags, vs, a, b, e, made, h) q =
      order-decl ps (inside j s) b d (with_parts flags vs before) now (n + size_of p) path l h q

  one-decl : (ps : Particles) (j : ℕ) (s : Spot) (gs : List Child) (d : ℕ) (before now : Zip ValueLabel) (n : ℕ) (path : List Turn) (l : Leaf) → OneReached ps j s gs d before now → leaf_in ps n path (inside j s) ≡ Some l → l.decl ≡ d
  one-decl none j s gs d before now n path l h q = absurd h
  one-decl (more p ps) zero s gs d before now n path l h q = particle-decl true p s gs d before now n path l h q
  one-decl (more p ps) (suc j) s gs d before now n path l h q = one-decl ps j s gs d before now (n + size_of p) path l h q

parted-decl : (t : Term) (least : ℕ) (most : Option ℕ) (s : Spot) (gs : List Child) (d : ℕ) (before now : Zip ValueLabel) (l : Leaf) → PartedReached t s gs d before now → leaf_of (occurs t least most) 0 [] s ≡ Some l → l.decl ≡ d
parted-decl (element e a) least most s gs d before now l h q = absurd h
parted-decl (choice ps) least most s gs d before now l h q = absurd h
parted-decl (all ps) least most s gs d before now l h q = absurd h
parted-decl (sequence ps) least most (at i s) gs d before now l h q = order-decl ps s gs d before now 1 ([] ++ turn_of 0 i ∷ []) l h.1 q

pub top-decl : (p : Particle) (s : Spot) (gs : List Child) (d : ℕ) (before now : Zip ValueLabel) (l : Leaf) → TopReached p s gs d before now → leaf_of p 0 [] s ≡ Some l → l.decl ≡ d
top-decl (occurs t least most) s gs d before now l h q = by (is_parted t least most) h
  where
    by : (b : Bool)
        → elim b as (λ _. Type 0) [ true ↦ PartedReached t s gs d before now | false ↦ OrderReached (more (occurs t least most) none) (inside 0 s) gs d before now ] → l.decl ≡ d
    by true h = parted-decl t least most s gs d before now l h q
    by false h = particle-decl false (occurs t least most) s gs d (flagged true before) now 0 [] l h q

-- ---- behind a step

module _ (p : Particle) (k new : Matched) (us : List Leaf) (n : Name) (leaf : matched.Leaf) (same : new.particle ≡ k.particle) (is : k.particle ≡ p) (further : TookMore k new us n leaf) where
  pub stop : Stop p (spot_of new) further.last
  stop = stop-at p (spot_of new) us further.last (subst (λ q. EndsAt q (spot_of new) (us ++ further.last ∷ [])) (same ∙ is) further.took.leads.ends)

  pub opened-at : (gs : List Child) (before : Zip ValueLabel) (after : Built)
      → ((s : Spot) → spot_of new ≡ Some s → (d : ℕ) × (way : Zip ValueLabel) × TopReached p s gs d before way × Stands after way) → OpenAt p new gs leaf.decl before after
  opened-at gs before after f =
      let (d, way, reached, stands) = f stop.spot stop.is in
      record {
        spot = stop.spot;
        spot_is = stop.is;
        way = way;
        reached = subst (λ e. TopReached p stop.spot gs e before way) (sym (top-decl p stop.spot gs d before way further.last reached stop.leaf) ∙ further.decl) reached;
        stands = stands;
      }

pub step-goes : (p q : Particle) (a : Name) (from to o : Option Spot) (s : Spot) → q ≡ p → from ≡ to → step_from q to a ≡ o → o ≡ Some s → step_from p from a ≡ Some s
step-goes p q a from to o s e f g h = cc

-- ---- rule 1

mutual
  pub clear-rule1 : (p : Particle) (follow : _) → Clear p follow → IsNoAll p → KeepsRule1 p
  clear-rule1 (occurs (element d a) least most) follow h n = (h.0, tt)
  clear-rule1 (occurs (sequence ps) least most) follow h n = (h.0, order-rule1 ps _ h.4)
  clear-rule1 (occurs (choice ps) least most) follow h n = (h.0, one-rule1 ps _ h.4)
  clear-rule1 (occurs (all ps) least most) follow h n = absurd n

  order-rule1 : (ps : Particles) (follow : _) → ClearInOrder ps follow → AllKeepRule1 ps
  order-rule1 none follow h = tt
  order-rule1 (more p ps) follow h = (clear-rule1 p _ h.0 h.2, order-rule1 ps follow h.1)

  one-rule1 : (ps : Particles) (follow : _) → ClearOneOf ps follow → AllKeepRule1 ps
  one-rule1 none follow h = tt
  one-rule1 (more p ps) follow h = (clear-rule1 p follow h.0 h.2, one-rule1 ps follow h.1)
