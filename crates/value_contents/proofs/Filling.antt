-- Particles of which no child element is have the empty parts.
use Rattle.std.proofs.Common.{◌≡◌, ℕ, zero, suc, inl, inr, Bool, true, false, not, ◌&&◌, ◌||◌, cond, nat_le, List, [], ◌∷◌, Option, Some, None, refl, sym, subst}
use Rattle.std.proofs.Math.Dec.{leb-zero}
use Rattle.base_trees.specs.Rose.{Rose, node}
use Rattle.base_trees.specs.Rose as rose
use Rattle.simple_types.specs.declared.labels.ValueLabel.{ValueLabel}
use Rattle.simple_types.specs.declared.labels.ValueLabel.TheVariants as value
use Rattle.simple_types.specs.Lexical.{is_at_most}
use Rattle.content_models.specs.Particle.{Particle, occurs, Term, element, sequence, choice, all, Particles, none, more}
use Rattle.content_models.specs.Clear.{is_zero, empties, empties_term, all_empty, any_empty, Rule1}
use Rattle.content_models.proofs.Entering.{both_true}
use Rattle.value_contents.specs.Bounds.{is_once, is_optional}
use Rattle.value_contents.specs.Made.{Child, Several, Standing, TermMade, PartsMade, ChosenMade}
use Rattle.value_contents.specs.Reached.{KeepsRule1, TermKeepsRule1, AllKeepRule1}
use Rattle.value_contents.specs.Private.Empty.{empty_flags, empty_values, empty_value, empty_term, empty_place, empty_chosen}

-- the value of a particle that stands, by whether it is single
abbrev pub StandsBy : (Rose ValueLabel → List Child → Type 0) → ℕ → Option ℕ → Bool → Rose ValueLabel → List Child → Type 0
StandsBy B least most single v gs = elim single as (λ _. Type 0) [ true ↦ B v gs | false ↦ Several B least most v gs ]

pub once-some : (least : ℕ) (most : Option ℕ) → is_once least most ≡ true → is_zero least ≡ false
once-some zero None h = absurd (cc)
once-some zero (Some m) h = absurd (cc)
once-some (suc n) most h = refl

only-second : (e d : Bool) → (e || d) ≡ true → e ≡ false → d ≡ true
only-second true d h n = absurd (cc)
only-second false d h n = h

only-first : (e d : Bool) → (e || d) ≡ true → d ≡ false → e ≡ true
only-first true d h n = refl
only-first false d h n = absurd (cc)

zero-is : (n : ℕ) → is_zero n ≡ true → n ≡ 0
zero-is zero h = refl
zero-is (suc n) h = absurd (cc)

-- an occurrence of what stands once is empty where it is, and of another there is none
pub once-empty : (least : ℕ) (most : Option ℕ) (e : Bool) → is_once least most ≡ true → (is_zero least || e) ≡ true → e ≡ true
once-empty least most e o h = only-second (is_zero least) e h (once-some least most o)

pub several-empty : (t : Term) (least : ℕ) (most : Option ℕ) → Rule1 t least most → is_once least most ≡ false → (is_zero least || empties_term t) ≡ true → least ≡ 0
several-empty t least most (inl one) o h = absurd (let p : is_once 1 (Some 1) ≡ false = rw (one.0, one.1) at o in cc)
several-empty t least most (inr full) o h = zero-is least (only-first (is_zero least) (empties_term t) h full)

at-most-any : (most : Option ℕ) → is_at_most 0 most ≡ true
at-most-any None = refl
at-most-any (Some m) = leb-zero m

no-items : (B : Rose ValueLabel → List Child → Type 0) (least : ℕ) (most : Option ℕ) → least ≡ 0 → Several B least most (node value.SequenceOf rose.none) []
no-items B least most e = ([], refl, subst (λ n. nat_le n 0 ≡ true) (sym e) (leb-zero 0), at-most-any most, refl)

standing-empty : (B : Rose ValueLabel → List Child → Type 0) (least : ℕ) (most : Option ℕ) (v : Rose ValueLabel) (other : Bool) → other ≡ false
    → (is_once least most ≡ true → B v []) → (is_once least most ≡ false → least ≡ 0)
    → StandsBy B least most (is_once least most || other) (cond (is_once least most) v (node value.SequenceOf rose.none)) []
standing-empty B least most v other off one many = go (is_once least most) refl
  where
    go : (o : Bool) → is_once least most ≡ o → StandsBy B least most (o || other) (cond o v (node value.SequenceOf rose.none)) []
    go true e = one e
    go false e = subst (λ b. StandsBy B least most b (node value.SequenceOf rose.none) []) (sym off) (no-items B least most (many e))

not-optional : (b : Bool) → b ≡ false → (b && true) ≡ false
not-optional true h = absurd (cc)
not-optional false h = refl

in-choice : (b : Bool) → (b && false) ≡ false
in-choice true = refl
in-choice false = refl

-- the part, where a particle can be left out or not
part-empty : (t : Term) (least : ℕ) (most : Option ℕ) (ps : Particles) (v : Rose ValueLabel) (flags : List Bool) (vs : List (Rose ValueLabel))
    → (is_optional least most ≡ false → Standing (TermMade t) false least most v []) → PartsMade ps flags vs []
    → PartsMade (more (occurs t least most) ps) (not (is_optional least most) ∷ flags) (cond (is_optional least most) vs (v ∷ vs)) []
part-empty t least most ps v flags vs stands rest = go (is_optional least most) refl
  where
    go : (o : Bool) → is_optional least most ≡ o → PartsMade (more (occurs t least most) ps) (not o ∷ flags) (cond o vs (v ∷ vs)) []
    go true e = (e, rest)
    go false e = ([], [], refl, stands e, rest)

-- the alternative, where the first may be empty or not
chosen-empty : (t : Term) (least : ℕ) (most : Option ℕ) (ps : Particles) (i : ℕ) (v w : Rose ValueLabel)
    → (empties (occurs t least most) ≡ true → Standing (TermMade t) true least most v []) → (empties (occurs t least most) ≡ false → ChosenMade ps i w [])
    → ChosenMade (more (occurs t least most) ps) (cond (empties (occurs t least most)) 0 (suc i)) (cond (empties (occurs t least most)) v w) []
chosen-empty t least most ps i v w one others = go (empties (occurs t least most)) refl
  where
    go : (e : Bool) → empties (occurs t least most) ≡ e → ChosenMade (more (occurs t least most) ps) (cond e 0 (suc i)) (cond e v w) []
    go true e = one e
    go false e = others e

mutual
  pub term-empty : (t : Term) → TermKeepsRule1 t → empties_term t ≡ true → TermMade t (empty_term t) []
  term-empty (element d a) k e = absurd (cc)
  term-empty (sequence ps) k e = (empty_flags ps, empty_values ps, refl, parts-empty ps k e)
  term-empty (all ps) k e = absurd k
  term-empty (choice ps) k e = (empty_place ps, empty_chosen ps, refl, one-empty ps k e)

  pub parts-empty : (ps : Particles) → AllKeepRule1 ps → all_empty ps ≡ true → PartsMade ps (empty_flags ps) (empty_values ps) []
  parts-empty none k e = refl
  parts-empty (more (occurs t least most) ps) k e =
      let b = both_true (is_zero least || empties_term t) (all_empty ps) e in
      part-empty t least most ps (empty_value (occurs t least most)) (empty_flags ps) (empty_values ps)
      (λ o. standing-empty (TermMade t) least most (empty_term t) (is_optional least most && true) (not-optional (is_optional least most) o)
      (λ once. term-empty t k.0.1 (once-empty least most (empties_term t) once b.0)) (λ many. several-empty t least most k.0.0 many b.0))
      (parts-empty ps k.1 b.1)

  pub one-empty : (ps : Particles) → AllKeepRule1 ps → any_empty ps ≡ true → ChosenMade ps (empty_place ps) (empty_chosen ps) []
  one-empty none k e = absurd (cc)
  one-empty (more (occurs t least most) ps) k e =
      chosen-empty t least most ps (empty_place ps) (empty_value (occurs t least most)) (empty_chosen ps)
      (λ b. standing-empty (TermMade t) least most (empty_term t) (is_optional least most && false) (in-choice (is_optional least most))
      (λ once. term-empty t k.0.1 (once-empty least most (empties_term t) once b)) (λ many. several-empty t least most k.0.0 many b))
      (λ b. one-empty ps k.1 (only-second (is_zero least || empties_term t) (any_empty ps) e b))

-- the part of one particle
pub part-empty-alone : (p : Particle) → KeepsRule1 p → empties p ≡ true → PartsMade (more p none) (empty_flags (more p none)) (empty_values (more p none)) []
part-empty-alone p k e = parts-empty (more p none) (k, tt) (rw e refl)
