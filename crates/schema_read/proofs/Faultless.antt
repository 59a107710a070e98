-- What stands in an element of a document without a fault.
use Rattle.std.proofs.Common.{◌≡◌, ℕ, Bool, true, false, cond, List, [], ◌∷◌, ◌++◌, Option, Some, None, refl, subst, bytes_eq, codes, not}
use Rattle.schema_read.proofs.Words.{list_any, option_or, Name, beside, first_true, Rose, node, Roses, list_of, ItemLabel, Element, is_schema_name, left_out, element_names, children, may_stand, refused_or, placement_of, has_unknown, has_bad_value, ElementRole, Position, Part, lacks_required, has_both_forms, is_over_limit, level_inside, early_tests, left_out_attributes, left_out_reference, untyped, is_empty_choice, late_tests, LookedAt, own_reason, unless_composition, placed_at, reasons_at, reasons_among, NoneAtAll}
use Rattle.schema_faults.specs.Reasons.{reason_against}
use Rattle.schema_syntax.specs.Elements.{placed}
use Rattle.schema_syntax.specs.declared.why.SchemaWhy.{SchemaWhy}
use Rattle.schema_syntax.specs.declared.why.SchemaWhy.TheVariants as why
use Rattle.schema_syntax.specs.declared.elements.Placement.{Placement}
use Rattle.schema_syntax.specs.declared.elements.Placement.TheVariants.{Skipped, Refused, Placed}

-- no reason stands against either
pub none_parts : (xs ys : List LookedAt) → NoneAtAll (xs ++ ys) → NoneAtAll xs × NoneAtAll ys
none_parts [] ys h = (tt, h)
none_parts (x ∷ xs) ys h = let two = none_parts xs ys h.1 in ((h.0, two.0), two.1)

no_reason : (reason : SchemaWhy) → Some reason ≡ None → ⊥
no_reason reason is = cc

-- ---- a child that stands where it may

pub record Stands (parent : ElementRole) (outer : List (List ℕ × List ℕ)) (level : ℕ) (name : Name) (attributes : List (Name × List ℕ)) (declares : List (List ℕ × List ℕ)) (kids : Roses ItemLabel) : Type 0 where
  pub part : Part
  pub is_schema : is_schema_name name ≡ true
  pub found : beside name.local (children parent) ≡ Some part
  pub clean : own_reason part.role (declares ++ outer) level attributes (list_of kids) ≡ None
  pub inside : NoneAtAll (unless_composition part.role (reasons_among part.role None (declares ++ outer) (level_inside part.role level) kids))

module _ (parent : ElementRole) (before : Option Position) (outer : List (List ℕ × List ℕ)) (level : ℕ) (name : Name) (attributes : List (Name × List ℕ)) (declares : List (List ℕ × List ℕ)) (at : ℕ) (kids : Roses ItemLabel) where
  abbrev inside : ElementRole → List LookedAt
  inside role = (at, own_reason role (declares ++ outer) level attributes (list_of kids)) ∷ unless_composition role (reasons_among role None (declares ++ outer) (level_inside role level) kids)

  abbrev Clean : Placement → Type 0
  Clean p = NoneAtAll (placed_at at p inside)

  module _ (is : is_schema_name name ≡ true) where
    by_position : (part : Part) (b : Bool) → beside name.local (children parent) ≡ Some part → Clean (cond b (Placed part) (Refused why.Misplaced)) → Stands parent outer level name attributes declares kids
    by_position part true found h = record { part = part; is_schema = is; found = found; clean = h.0; inside = h.1 }
    by_position part false found h = absurd (no_reason why.Misplaced h.0)

    by_part : (o : Option Part) → beside name.local (children parent) ≡ o → Clean (placed before o) → Stands parent outer level name attributes declares kids
    by_part None found h = absurd (no_reason why.Misplaced h.0)
    by_part (Some part) found h = by_position part (may_stand before part.position) found h

    by_listed : (b : Bool) → Clean (cond b (placed before (beside name.local (children parent))) (Refused why.UnknownElement)) → Stands parent outer level name attributes declares kids
    by_listed true h = by_part (beside name.local (children parent)) refl h
    by_listed false h = absurd (no_reason why.UnknownElement h.0)

    by_left_out : (o : Option SchemaWhy) → Clean (refused_or o (cond (list_any (bytes_eq name.local) element_names) (placed before (beside name.local (children parent))) (Refused why.UnknownElement)))
        → Stands parent outer level name attributes declares kids
    by_left_out None h = by_listed (list_any (bytes_eq name.local) element_names) h
    by_left_out (Some reason) h = absurd (no_reason reason h.0)

  by_space : (b c : Bool) → is_schema_name name ≡ b → c ≡ false → Clean (cond (not b) (Refused why.UnknownElement) (cond c Skipped (placement_of parent before name.local)))
      → Stands parent outer level name attributes declares kids
  by_space false c is other h = absurd (no_reason why.UnknownElement h.0)
  by_space true c is other h =
      by_left_out is (left_out parent name.local) (subst (λ b. Clean (cond b Skipped (placement_of parent before name.local))) other h)

  -- if it is no annotation
  pub stands : bytes_eq name.local (codes "annotation") ≡ false → NoneAtAll (reasons_at parent before outer level (node (Element name attributes declares at) kids)) → Stands parent outer level name attributes declares kids
  stands other h = by_space (is_schema_name name) (bytes_eq name.local (codes "annotation")) refl other h

-- ---- what is known of an element by itself

pub record Passes (role : ElementRole) (scope : List (List ℕ × List ℕ)) (level : ℕ) (own : List (List ℕ × List ℕ)) (kids : List (Rose ItemLabel)) : Type 0 where
  pub known : has_unknown role own ≡ false
  pub required : lacks_required role own kids ≡ false
  pub good : has_bad_value role scope own ≡ false
  pub few : is_over_limit role level own kids ≡ false
  pub filled : is_empty_choice role own kids ≡ false

neither : {A : Type 0} (a b : Option A) → option_or a b ≡ None → (a ≡ None) × (b ≡ None)
neither None b h = (refl, h)
neither (Some x) b h = absurd (cc)

test_fails : (t : Bool) (reason : SchemaWhy) (more : List (Bool × SchemaWhy)) → first_true ((t, reason) ∷ more) ≡ None → (t ≡ false) × (first_true more ≡ None)
test_fails true reason more h = absurd (no_reason reason h)
test_fails false reason more h = (refl, h)

both_none : (role : ElementRole) (scope : List (List ℕ × List ℕ)) (level : ℕ) (own : List (List ℕ × List ℕ)) (kids : List (Rose ItemLabel))
    → reason_against role scope level own kids ≡ None → (first_true (early_tests role scope level own kids) ≡ None) × (first_true (late_tests role own kids) ≡ None)
unfolding reason_against
both_none role scope level own kids h =
    let early = first_true (early_tests role scope level own kids) in
    let a = neither (option_or (option_or early (left_out_reference scope own)) (untyped role own kids)) (first_true (late_tests role own kids)) h in
    let b = neither (option_or early (left_out_reference scope own)) (untyped role own kids) a.0 in
    ((neither early (left_out_reference scope own) b.0).0, a.1)

pub passes : (role : ElementRole) (scope : List (List ℕ × List ℕ)) (level : ℕ) (own : List (List ℕ × List ℕ)) (kids : List (Rose ItemLabel))
    → reason_against role scope level own kids ≡ None → Passes role scope level own kids
passes role scope level own kids h =
    let more = left_out_attributes role own in
    let l = (is_over_limit role level own kids, why.Limit) ∷ more in
    let b = (has_bad_value role scope own, why.BadValue) ∷ l in
    let m = (lacks_required role own kids, why.MissingAttribute) ∷ b in
    let both = both_none role scope level own kids h in
    let one = test_fails (has_unknown role own) why.UnknownAttribute m both.0 in
    let two = test_fails (lacks_required role own kids) why.MissingAttribute b one.1 in
    let three = test_fails (has_bad_value role scope own) why.BadValue l two.1 in
    let four = test_fails (is_over_limit role level own kids) why.Limit more three.1 in
    let five = test_fails (has_both_forms role own kids) why.BothForms ((is_empty_choice role own kids, why.EmptyChoice) ∷ []) both.1 in
    let six = test_fails (is_empty_choice role own kids) why.EmptyChoice [] five.1 in
    record { known = one.0; required = two.0; good = three.0; few = four.0; filled = six.0 }
