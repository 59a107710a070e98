-- The types of a module, as reading goes down them.
use Rattle.std.proofs.Common.{◌≡◌, ℕ, suc, ◌+◌, ◌≤◌, Some, List, [], ◌∷◌, refl, sym, ap, subst, arith, inl, inr}
use Rattle.std.specs.Prelude.{slice_get}
use Rattle.std.proofs.lemmas.List.Elements.{All-head, All-tail}
use Rattle.base_trees.specs.Rose.{Rose, node, Roses, none, more, label_of, kids_of, height, depth_all}
use Rattle.asn_types.specs.declared.modules.Assignment.{Assignment}
use Rattle.asn_types.specs.declared.types.Component.{Component}
use Rattle.asn_types.specs.declared.types.TypeLabel.{TypeLabel}
use Rattle.asn_types.specs.Bounds.{AreBounded, AllBounded, IsBounded}
use Rattle.asn_types.specs.Parts.{parts_of}
use Rattle.asn_types.specs.Refs.{StandsIn, StandsInSome, IsOf}
use Rattle.asn_types.proofs.Chaining.{parts-of-module}
use Rattle.per_fields.specs.Levels.{tallest}
use Rattle.per_fields.proofs.Levels.{EachKid}

-- a type that stands in another is no taller, and its bounds are as narrow
mutual
  inside-low : (t u : Rose TypeLabel) → StandsIn t u → height t ≤ height u
  inside-low t (node l ts) (inl same) = omega (arith, ap height same)
  inside-low t (node l ts) (inr below) = let h = some-low t ts below in omega (arith, h)

  some-low : (t : Rose TypeLabel) (ts : Roses TypeLabel) → StandsInSome t ts → height t ≤ depth_all ts
  some-low t none h = absurd h
  some-low t (more u us) (inl h) = let k = inside-low t u h in omega (arith, k)
  some-low t (more u us) (inr h) = let k = some-low t us h in omega (arith, k)

mutual
  inside-bounded : (t u : Rose TypeLabel) → StandsIn t u → AreBounded u → AreBounded t
  inside-bounded t (node l ts) (inl same) b = subst AreBounded (sym same) b
  inside-bounded t (node l ts) (inr below) b = some-bounded t ts below b.1

  some-bounded : (t : Rose TypeLabel) (ts : Roses TypeLabel) → StandsInSome t ts → AllBounded ts → AreBounded t
  some-bounded t none h b = absurd h
  some-bounded t (more u us) (inl h) b = inside-bounded t u h b.0
  some-bounded t (more u us) (inr h) b = some-bounded t us h b.1

pub of-tall : (M : List Assignment) (t : Rose TypeLabel) → IsOf M t → height t ≤ tallest M
of-tall [] t h = absurd h
of-tall (a ∷ others) t (inl h) = let k = inside-low t a.body h in omega (arith, k)
of-tall (a ∷ others) t (inr h) = let k = of-tall others t h in omega (arith, k)

pub of-bounded : (M : List Assignment) (t : Rose TypeLabel) → IsOf M t → IsBounded M → AreBounded t
of-bounded [] t h b = absurd h
of-bounded (a ∷ others) t (inl h) b = inside-bounded t a.body h (All-head (λ a. AreBounded a.body) a others b)
of-bounded (a ∷ others) t (inr h) b = of-bounded others t h (All-tail (λ a. AreBounded a.body) a others b)

-- the types of the parts are of the module
each-of : (M : List Assignment) (l : TypeLabel) (i : ℕ) (parts : List Component) (ts : List (Rose TypeLabel)) → ((j : ℕ) (t : Rose TypeLabel) → slice_get ts j ≡ Some t → IsOf M t) → EachKid (λ p. IsOf M p.type) l i parts ts
each-of M l i [] ts h = tt
each-of M l i (c ∷ cs) [] h = tt
each-of M l i (c ∷ cs) (t ∷ ts) h = (h 0 t refl, each-of M l (i + 1) cs ts (λ j u e. h (suc j) u e))

pub kids-of : (M : List Assignment) (u : Rose TypeLabel) → IsOf M u → EachKid (λ p. IsOf M p.type) (label_of u) 0 (parts_of (label_of u).form) (kids_of u)
kids-of M (node l ts) of = each-of M l 0 (parts_of l.form) (kids_of (node l ts)) (λ j t e. parts-of-module M l ts j t of e)
