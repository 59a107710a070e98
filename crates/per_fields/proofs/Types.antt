-- The types of a module, as reading goes down them.
use Rattle.std.proofs.Common.{◌≡◌, ℕ, zero, suc, ◌+◌, ◌<◌, ◌≤◌, Bool, true, false, Option, Some, None, List, [], ◌∷◌, length, refl, sym, ap, subst, arith, inl, inr}
use Rattle.std.specs.Prelude.{slice_get, MatchBool, if◌then◌else◌}
use Rattle.std.proofs.lemmas.List.Elements.{All-head, All-tail}
use Rattle.base_trees.specs.Rose.{Rose, node, Roses, none, more, label_of, kids_of, height, depth_all}
use Rattle.asn_types.specs.declared.modules.Assignment.{Assignment}
use Rattle.asn_types.specs.declared.types.Component.{Component}
use Rattle.asn_types.specs.declared.types.TypeLabel.{TypeLabel}
use Rattle.asn_types.specs.Bounds.{AreBounded, AllBounded, IsBounded}
use Rattle.asn_types.specs.Modules.{IsModule}
use Rattle.asn_types.specs.Parts.{parts_of}
use Rattle.asn_types.specs.Refs.{resolve, StandsIn, StandsInSome, IsOf}
use Rattle.asn_values.specs.Values.{ComponentPlace, place_of, place_at, put_first, present_from}
use Rattle.asn_types.proofs.Chaining.{no-reference, well-formed, have-parts, parts-of-module, resolved-of-module}
use Rattle.per_fields.specs.Laws.{Present}
use Rattle.per_fields.specs.Levels.{tallest}
use Rattle.per_fields.proofs.Levels.{EachKid}
use Rattle.per_fields.proofs.Parts.{AreThere}

-- a type that stands in another is no taller, and its bounds are as narrow
mutual
  inside-low : (t u : Rose TypeLabel) → StandsIn t u → height t ≤ height u
  inside-low t (node l ts) (inl same) = omega (arith, ap height same)
  inside-low t (node l ts) (inr below) = let h = some-low t ts below in omega (arith, h)

  some-low : (t : Rose TypeLabel) (ts : Roses TypeLabel) → StandsInSome t ts → height t ≤ depth_all ts
  some-low t none h = absurd h
  some-low t (more u us) (inl h) = let k = inside-low t u h in omega (arith, k)
  some-low t (more u us) (inr h) = let k = some-low t us h in omega (arith, k)

mutual
  inside-bounded : (t u : Rose TypeLabel) → StandsIn t u → AreBounded u → AreBounded t
  inside-bounded t (node l ts) (inl same) b = subst AreBounded (sym same) b
  inside-bounded t (node l ts) (inr below) b = some-bounded t ts below b.1

  some-bounded : (t : Rose TypeLabel) (ts : Roses TypeLabel) → StandsInSome t ts → AllBounded ts → AreBounded t
  some-bounded t none h b = absurd h
  some-bounded t (more u us) (inl h) b = inside-bounded t u h b.0
  some-bounded t (more u us) (inr h) b = some-bounded t us h b.1

pub of-tall : (M : List Assignment) (t : Rose TypeLabel) → IsOf M t → height t ≤ tallest M
of-tall [] t h = absurd h
of-tall (a ∷ others) t (inl h) = let k = inside-low t a.body h in omega (arith, k)
of-tall (a ∷ others) t (inr h) = let k = of-tall others t h in omega (arith, k)

pub of-bounded : (M : List Assignment) (t : Rose TypeLabel) → IsOf M t → IsBounded M → AreBounded t
of-bounded [] t h b = absurd h
of-bounded (a ∷ others) t (inl h) b = inside-bounded t a.body h (All-head (λ a. AreBounded a.body) a others b)
of-bounded (a ∷ others) t (inr h) b = of-bounded others t h (All-tail (λ a. AreBounded a.body) a others b)

-- the types of the parts are of the module
each-of : (M : List Assignment) (l : TypeLabel) (i : ℕ) (parts : List Component) (ts : List (Rose TypeLabel)) → ((j : ℕ) (t : Rose TypeLabel) → slice_get ts j ≡ Some t → IsOf M t) → EachKid (λ p. IsOf M p.type) l i parts ts
each-of M l i [] ts h = tt
each-of M l i (c ∷ cs) [] h = tt
each-of M l i (c ∷ cs) (t ∷ ts) h = (h 0 t refl, each-of M l (i + 1) cs ts (λ j u e. h (suc j) u e))

pub kids-of : (M : List Assignment) (u : Rose TypeLabel) → IsOf M u → EachKid (λ p. IsOf M p.type) (label_of u) 0 (parts_of (label_of u).form) (kids_of u)
kids-of M (node l ts) of = each-of M l 0 (parts_of l.form) (kids_of (node l ts)) (λ j t e. parts-of-module M l ts j t of e)

-- THE PARTS ARE THERE
at_within : {A : Type 0} (xs : List A) (i : ℕ) → i < length xs → (x : A) × (slice_get xs i ≡ Some x)
at_within [] i below = absurd (omega arith)
at_within (x ∷ xs) zero below = (x, refl)
at_within (x ∷ xs) (suc i) below = at_within xs i (omega arith)

put_some : (p : ComponentPlace) (o : Option (List ComponentPlace)) → (o ≡ None → ⊥) → put_first p o ≡ None → ⊥
put_some p None h e = h refl
put_some p (Some ps) h e = absurd cc

left_out : (optional : Bool) (o : Option (List ComponentPlace)) → MatchBool optional (Unit {0}) (false ≡ true) → (o ≡ None → ⊥) → (if optional then o else None) ≡ None → ⊥
left_out true o h k e = k e
left_out false o h k e = absurd cc

present_there : (l : TypeLabel) (i : ℕ) (parts : List Component) (ts : List (Rose TypeLabel)) (flags : List Bool) → length ts ≡ length parts → Present parts flags → present_from l i parts ts flags ≡ None → ⊥
present_there l i [] ts [] n h e = absurd cc
present_there l i [] ts (flag ∷ flags) n h e = h
present_there l i (c ∷ cs) ts [] n h e = h
present_there l i (c ∷ cs) [] (flag ∷ flags) n h e = absurd (omega (arith, n))
present_there l i (c ∷ cs) (t ∷ ts) (true ∷ flags) n h e =
    put_some (place_of l i c t) (present_from l (i + 1) cs ts flags) (present_there l (i + 1) cs ts flags (omega (arith, n)) h.1) e
present_there l i (c ∷ cs) (t ∷ ts) (false ∷ flags) n h e =
    left_out c.optional (present_from l (i + 1) cs ts flags) h.0 (present_there l (i + 1) cs ts flags (omega (arith, n)) h.1) e

at_place : (l : TypeLabel) (i : ℕ) (o : Option Component) (q : Option (Rose TypeLabel)) (c : Component) (t : Rose TypeLabel) → o ≡ Some c → q ≡ Some t → place_at l i o q ≡ None → ⊥
at_place l i None q c t h k e = absurd cc
at_place l i (Some d) None c t h k e = absurd cc
at_place l i (Some d) (Some u) c t h k e = absurd cc

pub are-there : (M : List Assignment) (t : Rose TypeLabel) → IsModule M → IsOf M t → AreThere (label_of (resolve M t)) (kids_of (resolve M t)) (label_of (resolve M t)).form
are-there M t is of =
    let u = resolve M t in
    let parts = parts_of (label_of u).form in
    let all = have-parts M u is (resolved-of-module M t of) in
    record {
      no_reference = no-reference M t is (well-formed M t is of);
      present = λ flags h e. present_there (label_of u) 0 parts (kids_of u) flags all h e;
      part = λ i below e.
          let part = at_within parts i below in
          let type = at_within (kids_of u) i (omega (arith, all, below)) in
          at_place (label_of u) i (slice_get parts i) (slice_get (kids_of u) i) part.0 type.0 part.1 type.1 e;
    }
