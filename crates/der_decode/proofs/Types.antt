-- Types of a module, as reading goes down them.
use Rattle.std.proofs.Common.{◌≡◌, ℕ, suc, ◌+◌, ◌-◌, ◌*◌, ◌<◌, ◌≤◌, Bool, true, false, List, refl, sym, ◌∙◌, ap, subst, arith, Some, None}
use Rattle.std.specs.Prelude.{slice_get, option_and_then}
use Rattle.std.proofs.lemmas.Bool.{true≢false}
use Rattle.base_trees.specs.Rose.{Rose, label_of, kids_of}
use Rattle.asn_types.specs.declared.modules.Assignment.{Assignment}
use Rattle.asn_types.specs.declared.types.Component.{Component}
use Rattle.asn_types.specs.declared.types.Form.{Form}
use Rattle.asn_types.specs.declared.types.Form.TheVariants as form
use Rattle.asn_types.specs.declared.types.TypeLabel.{TypeLabel}
use Rattle.asn_types.specs.Modules.{IsModule, IsForm}
use Rattle.asn_types.specs.Parts.{is_leaf, parts_of}
use Rattle.asn_types.specs.Refs.{target, body_at, resolve, IsOf}
use Rattle.asn_types.specs.Roles.{role_of}
use Rattle.asn_values.specs.Values.{below, place_at}
use Rattle.asn_types.proofs.Chaining.{resolved-of-module, well-formed, has-four, no-reference}
use Rattle.asn_types.proofs.Following.{follow-stops}
use Rattle.per_fields.specs.Levels.{tallest, levels_needed}
use Rattle.per_fields.proofs.Levels.{kid-each, kids-need, levels-follow, NeedsFewer, IfPlace, EachKid}
use Rattle.der_fields.proofs.Types.{of-tall}
use Rattle.der_decode.specs.Private.Bodies.{HasKids, HasNoKids}
use Rattle.der_decode.specs.Private.Leaves.{IsLeaf}
use Rattle.der_decode.specs.declared.places.Place.{Place}
use Rattle.der_decode.specs.Private.Places.{IsPlace}

-- what the type of a place resolves to is of the module
pub found_of : {deepest : ℕ} (place : Place) → IsPlace deepest place → IsOf place.module.now place.found.now
found_of place is = subst (IsOf place.module.now) (sym is.resolved) (resolved-of-module place.module.now place.node.now is.of)

-- a type with kids of its own is no reference
kids-no_target : (f : Form) → HasKids f → target f ≡ None
kids-no_target (form.Sequence parts) h = refl
kids-no_target (form.Choice parts) h = refl
kids-no_target (form.SequenceOf part least most) h = refl
kids-no_target f h = absurd h

-- the test for a form without kids
pub leaf-no_kids : (f : Form) (b : Bool) → b ≡ is_leaf f → b ≡ true → HasNoKids f
leaf-no_kids f b is holds = by f (sym is ∙ holds)
  where
    by : (f : Form) → is_leaf f ≡ true → HasNoKids f
    by form.Bool e = tt
    by (form.Int least greatest) e = tt
    by (form.Numbers numbers) e = tt
    by (form.Words identifiers words) e = tt
    by (form.Order identifiers) e = tt
    by (form.Utf8 least most class) e = tt
    by (form.Sequence parts) e = absurd (true≢false (sym e))
    by (form.Choice parts) e = absurd (true≢false (sym e))
    by (form.SequenceOf part least most) e = absurd (true≢false (sym e))
    by (form.Ref to) e = absurd (true≢false (sym e))

pub kids-no_leaf : (f : Form) (b : Bool) → b ≡ is_leaf f → b ≡ false → HasNoKids f → ⊥
kids-no_leaf f b is fails leaf = by f (sym is ∙ fails) leaf
  where
    by : (f : Form) → is_leaf f ≡ false → HasNoKids f → ⊥
    by form.Bool e h = true≢false e
    by (form.Int least greatest) e h = true≢false e
    by (form.Numbers numbers) e h = true≢false e
    by (form.Words identifiers words) e h = true≢false e
    by (form.Order identifiers) e h = true≢false e
    by (form.Utf8 least most class) e h = true≢false e
    by (form.Sequence parts) e h = h
    by (form.Choice parts) e h = h
    by (form.SequenceOf part least most) e h = h
    by (form.Ref to) e h = h

-- what a module says of a form without kids
pub leaf-form : (M : List Assignment) (f : Form) → HasNoKids f → IsForm M f → IsLeaf f
leaf-form M form.Bool h k = tt
leaf-form M (form.Int least greatest) h k = tt
leaf-form M (form.Numbers numbers) h k = k
leaf-form M (form.Words identifiers words) h k = k.0
leaf-form M (form.Order identifiers) h k = k
leaf-form M (form.Utf8 least most class) h k = tt
leaf-form M (form.Sequence parts) h k = absurd h
leaf-form M (form.Choice parts) h k = absurd h
leaf-form M (form.SequenceOf part least most) h k = absurd h
leaf-form M (form.Ref to) h k = absurd h

module _ (M : List Assignment) where
  pub kids-resolved : (u : Rose TypeLabel) → HasKids (label_of u).form → resolve M u ≡ u
  kids-resolved u h = follow-stops M 4 u (ap (option_and_then (body_at M)) (kids-no_target (label_of u).form h))

  module _ (is : IsModule M) where
    -- behind references stands a type with kids, or without
    pub resolved-kids : (t : Rose TypeLabel) → IsOf M t → (HasNoKids (label_of (resolve M t)).form → ⊥) → HasKids (label_of (resolve M t)).form
    resolved-kids t of no_leaf = by (label_of (resolve M t)).form (no-reference M t is (well-formed M t is of)) no_leaf
      where
        by : (f : Form) → target f ≡ None → (HasNoKids f → ⊥) → HasKids f
        by form.Bool e k = k tt
        by (form.Int least greatest) e k = k tt
        by (form.Numbers numbers) e k = k tt
        by (form.Words identifiers words) e k = k tt
        by (form.Order identifiers) e k = k tt
        by (form.Utf8 least most class) e k = k tt
        by (form.Sequence parts) e k = tt
        by (form.Choice parts) e k = tt
        by (form.SequenceOf part least most) e k = tt
        by (form.Ref to) e k = absurd cc

    -- as many levels as behind its references
    pub resolved-levels : (depth : ℕ) (t : Rose TypeLabel) → IsOf M t → levels_needed M depth (resolve M t) ≡ levels_needed M depth t
    resolved-levels depth t of = ap (λ n. (65 - depth) * (5 * suc (tallest M)) + n) (levels-follow M 4 4 t (has-four M t (well-formed M t is of)) (omega arith))

    -- a kid needs fewer
    pub kid-fewer : (depth : ℕ) (u : Rose TypeLabel) → IsOf M u → HasKids (label_of u).form → depth ≤ 64 → (i : ℕ) (part : Component) (kid : Rose TypeLabel)
        → slice_get (parts_of (label_of u).form) i ≡ Some part → slice_get (kids_of u) i ≡ Some kid
        → levels_needed M (below (role_of (label_of u) i part) depth) kid < levels_needed M depth u
    kid-fewer depth u of has deep i part kid is_part is_kid =
        let all = kids-need M depth u deep (has-four M u (well-formed M u is of)) (of-tall M u of) in
        let here = subst (λ w. EachKid (NeedsFewer M depth u) (label_of w) 0 (parts_of (label_of w).form) (kids_of w)) (kids-resolved u has) all in
        let at = kid-each (NeedsFewer M depth u) (label_of u) 0 i i (parts_of (label_of u).form) (kids_of u) (omega arith) here in
        let found = subst (λ o. IfPlace (NeedsFewer M depth u) (place_at (label_of u) i (Some part) o)) is_kid
        (subst (λ o. IfPlace (NeedsFewer M depth u) (place_at (label_of u) i o (slice_get (kids_of u) i))) is_part at) in
        found.1
