-- Types of a module, as reading goes down them.
use Rattle.std.proofs.Common.{◌≡◌, ℕ, suc, ◌+◌, ◌-◌, ◌*◌, ◌<◌, ◌≤◌, List, [], ◌∷◌, refl, ap, sym, subst, arith, Option, Some, None, inl, inr}
use Rattle.std.specs.Prelude.{slice_get, option_and_then}
use Rattle.base_trees.specs.Rose.{Rose, node, Roses, none, more, label_of, kids_of, height, depth_all}
use Rattle.asn_types.specs.declared.modules.Assignment.{Assignment}
use Rattle.asn_types.specs.declared.types.Component.{Component}
use Rattle.asn_types.specs.declared.types.Form.{Form}
use Rattle.asn_types.specs.declared.types.Form.TheVariants as form
use Rattle.asn_types.specs.declared.types.TypeLabel.{TypeLabel}
use Rattle.asn_types.specs.Parts.{parts_of}
use Rattle.asn_types.specs.Refs.{target, body_at, resolve, StandsIn, StandsInSome, IsOf}
use Rattle.asn_types.specs.Roles.{role_of}
use Rattle.asn_values.specs.Values.{below, place_at}
use Rattle.asn_types.proofs.Chaining.{resolved-of-module, well-formed, has-four, no-reference}
use Rattle.asn_types.proofs.Following.{follow-stops}
use Rattle.per_fields.specs.Levels.{tallest, levels_needed}
use Rattle.per_fields.proofs.Levels.{kid-each, kids-need, levels-follow, NeedsFewer, IfPlace, EachKid}
use Rattle.per_decode.specs.declared.places.Place.{Place}
use Rattle.per_decode.specs.Private.Places.{IsPlace}
use Rattle.per_decode.specs.Private.Bodies.{IsKnown, HasFields}

-- what the type of a place resolves to is of the module
pub found_of : {deepest : ℕ} (place : Place) → IsPlace deepest place → IsOf place.module.now place.found.now
found_of place is = subst (IsOf place.module.now) (sym is.resolved) (resolved-of-module place.module.now place.node.now is.of)

-- a type that stands in another is no taller
mutual
  inside-low : (t u : Rose TypeLabel) → StandsIn t u → height t ≤ height u
  inside-low t (node l ts) (inl same) = omega (arith, ap height same)
  inside-low t (node l ts) (inr below) = let h = some-low t ts below in omega (arith, h)

  some-low : (t : Rose TypeLabel) (ts : Roses TypeLabel) → StandsInSome t ts → height t ≤ depth_all ts
  some-low t none h = absurd h
  some-low t (more u us) (inl h) = let k = inside-low t u h in omega (arith, k)
  some-low t (more u us) (inr h) = let k = some-low t us h in omega (arith, k)

pub of-tall : (M : List Assignment) (t : Rose TypeLabel) → IsOf M t → height t ≤ tallest M
of-tall [] t h = absurd h
of-tall (a ∷ others) t (inl h) = let k = inside-low t a.body h in omega (arith, k)
of-tall (a ∷ others) t (inr h) = let k = of-tall others t h in omega (arith, k)

-- a type with fields of its own is no reference
fields-no_target : (f : Form) → HasFields f → target f ≡ None
fields-no_target form.Bool h = refl
fields-no_target (form.Int least greatest) h = refl
fields-no_target (form.Numbers numbers) h = refl
fields-no_target (form.Words identifiers words) h = refl
fields-no_target (form.Order identifiers) h = refl
fields-no_target (form.Utf8 least most class) h = absurd h
fields-no_target (form.Sequence parts) h = refl
fields-no_target (form.Choice parts) h = refl
fields-no_target (form.SequenceOf part least most) h = refl
fields-no_target (form.Ref to) h = absurd h

module _ (M : List Assignment) where
  pub fields-resolved : (u : Rose TypeLabel) → HasFields (label_of u).form → resolve M u ≡ u
  fields-resolved u h = follow-stops M 4 u (ap (option_and_then (body_at M)) (fields-no_target (label_of u).form h))

  -- behind references stands a type with fields, or a text
  pub resolved-fields : IsKnown M → (t : Rose TypeLabel) → IsOf M t → ((least : ℕ) (most : Option ℕ) (class : _) → (label_of (resolve M t)).form ≡ form.Utf8 least most class → ⊥) → HasFields (label_of (resolve M t)).form
  resolved-fields known t of no_text = by (label_of (resolve M t)).form (no-reference M t known.0 (well-formed M t known.0 of)) no_text
    where
      by : (f : Form) → target f ≡ None → ((least : ℕ) (most : Option ℕ) (class : _) → f ≡ form.Utf8 least most class → ⊥) → HasFields f
      by form.Bool e k = tt
      by (form.Int least greatest) e k = tt
      by (form.Numbers numbers) e k = tt
      by (form.Words identifiers words) e k = tt
      by (form.Order identifiers) e k = tt
      by (form.Utf8 least most class) e k = k least most class refl
      by (form.Sequence parts) e k = tt
      by (form.Choice parts) e k = tt
      by (form.SequenceOf part least most) e k = tt
      by (form.Ref to) e k = absurd cc

  -- as many levels as behind its references
  pub resolved-levels : IsKnown M → (depth : ℕ) (t : Rose TypeLabel) → IsOf M t → levels_needed M depth (resolve M t) ≡ levels_needed M depth t
  resolved-levels known depth t of = ap (λ n. (65 - depth) * (5 * suc (tallest M)) + n) (levels-follow M 4 4 t (has-four M t (well-formed M t known.0 of)) (omega arith))

  -- a kid needs fewer
  pub kid-fewer : IsKnown M → (depth : ℕ) (u : Rose TypeLabel) → IsOf M u → HasFields (label_of u).form → depth ≤ 64 → (i : ℕ) (part : Component) (kid : Rose TypeLabel)
      → slice_get (parts_of (label_of u).form) i ≡ Some part → slice_get (kids_of u) i ≡ Some kid
      → levels_needed M (below (role_of (label_of u) i part) depth) kid < levels_needed M depth u
  kid-fewer known depth u of has deep i part kid is_part is_kid =
      let all = kids-need M depth u deep (has-four M u (well-formed M u known.0 of)) (of-tall M u of) in
      let here = subst (λ w. EachKid (NeedsFewer M depth u) (label_of w) 0 (parts_of (label_of w).form) (kids_of w)) (fields-resolved u has) all in
      let at = kid-each (NeedsFewer M depth u) (label_of u) 0 i i (parts_of (label_of u).form) (kids_of u) (omega arith) here in
      let found = subst (λ o. IfPlace (NeedsFewer M depth u) (place_at (label_of u) i (Some part) o)) is_kid
      (subst (λ o. IfPlace (NeedsFewer M depth u) (place_at (label_of u) i o (slice_get (kids_of u) i))) is_part at) in
      found.1
