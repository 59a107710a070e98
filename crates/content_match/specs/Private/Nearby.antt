-- The leaf next to the last one, where that is a child of the top.
use Rattle.std.specs.Prelude.{◌≡◌, ℕ, suc, ◌+◌, ◌≤◌, List, Some, true, slice_get}
use Rattle.base_trees.specs.Rose.{Rose, label_of, kids_of}
use Rattle.base_texts.specs.declared.texts.Name.{Name}
use Rattle.base_texts.specs.Names.{name_eq}
use Rattle.content_models.specs.Particle.{Particle}
use Rattle.content_models.specs.Spots.{at, here, inside, next}
use Rattle.content_match.specs.Private.Plans.{IsPlan}
use Rattle.content_match.specs.Private.Standing.{IsLeaf}
use Rattle.content_match.specs.declared.beside.Beside.{Beside}
use Rattle.content_match.specs.declared.places.Leaf.{Leaf}
use Rattle.content_match.specs.declared.plans.Group.{Group}
use Rattle.content_match.specs.declared.plans.PlanKind.TheVariants.{Leaf as PlanLeaf, Group as PlanGroup}
use Rattle.content_match.specs.declared.plans.PlanLabel.{PlanLabel}

-- it is a sequence
abbrev pub IsOrdered : Rose PlanLabel → Type 0
IsOrdered t = (g : Group) × ((label_of t).kind ≡ PlanGroup g) × (g.ordered ≡ true)

-- There is a child at this place, an element of this name, and this is its leaf.
pub record IsNamedKid (ts : List (Rose PlanLabel)) (k : ℕ) (a : Name) (leaf : Leaf) : Type 0 where
  pub child : Rose PlanLabel
  pub there : slice_get ts k ≡ Some child
  pub own : Name
  pub kind : (label_of child).kind ≡ PlanLeaf leaf.decl own
  pub same : name_eq a own ≡ true
  pub number : leaf.particle ≡ (label_of child).number

-- The result is the first turn of the leaf after this child of a sequence, and has the name.
pub record LiesBehind (t : Rose PlanLabel) (k : ℕ) (a : Name) (b : Beside) : Type 0 where
  pub ordered : IsOrdered t
  pub kid_is : b.kid ≡ suc k
  pub turn_is : b.turn ≡ 0
  pub named : IsNamedKid (kids_of t) (suc k) a b.leaf

-- From this turn of this child the name leads to the result.
pub record LiesBeside (t : Rose PlanLabel) (k turn : ℕ) (a : Name) (b : Beside) : Type 0 where
  pub child : Rose PlanLabel
  pub there : slice_get (kids_of t) b.kid ≡ Some child
  pub number : b.leaf.particle ≡ (label_of child).number
  pub decl : IsLeaf (label_of child).kind b.leaf.decl
  pub small : b.turn ≤ turn + 1
  pub goes : (n : ℕ) (p : Particle) → IsPlan n p t → (i : ℕ) → next p (at i (inside k (at turn here))) a ≡ Some (at i (inside b.kid (at b.turn here)))
