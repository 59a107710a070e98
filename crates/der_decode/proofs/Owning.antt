-- A node, by what is read of it and its rule; and a part, by its node and its default or fixed value.
use Rattle.std.proofs.Common.{◌≡◌, ℕ, Bool, true, false, not, List, length, take, refl, sym, ap, ◌∙◌, subst, Option, Result, Ok, Err, inl, inr, ◌⊎◌}
use Rattle.std.specs.Prelude.{IfOk}
use Rattle.base_trees.specs.Rose.{Rose, label_of, kids_of}
use Rattle.simple_types.specs.declared.labels.ValueLabel.{ValueLabel}
use Rattle.simple_types.specs.declared.standards.Standard.TheVariants.{Free}
use Rattle.asn_types.specs.declared.modules.Assignment.{Assignment}
use Rattle.asn_types.specs.declared.types.Component.{Component}
use Rattle.asn_types.specs.declared.types.TypeLabel.{TypeLabel}
use Rattle.asn_types.specs.Modules.{AreWellFormed, IsModule}
use Rattle.asn_types.specs.Refs.{resolve, IsOf}
use Rattle.asn_types.proofs.Chaining.{well-formed, resolved-of-module}
use Rattle.asn_values.specs.Values.{Own, Kept}
use Rattle.asn_values.proofs.Standards.{free-kept}
use Rattle.base_codecs.specs.declared.spots.Spot.{Spot}
use Rattle.base_codecs.specs.Reading.{◌>>=◌, stop_if}
use Rattle.base_codecs.proofs.Steps.{err_bind}
use Rattle.der_fields.specs.declared.stops.Stop.{Stop}
use Rattle.der_fields.specs.declared.stops.Why.TheVariants.{NotUtf8, NotAValue}
use Rattle.der_fields.specs.FieldsReading.{stop_at}
use Rattle.der_fields.specs.Encoding.{identifier}
use Rattle.der_fields.specs.Reading.{leaf_of, contents_at, owned_at, kept_at, unkept_why, node_read}
use Rattle.der_fields.proofs.Unfolding.{node_recursion}
use Rattle.per_fields.specs.Nodes.{is_no_text}
use Rattle.per_fields.specs.Owning.{owns, keeps}
use Rattle.per_fields.proofs.Owns.{owns_own, own_owns, kept_keeps, keeps_kept}
use Rattle.der_decode.specs.declared.faults.DerEnd.{DerEnd}
use Rattle.der_decode.specs.declared.faults.DerEnd.TheVariants as fault
use Rattle.der_decode.specs.Private.Bodies.{HasNoKids, part_read, kid_at, headed_read}
use Rattle.der_decode.specs.Private.Leaves.{IsLeafAt, StopsLeaf}
use Rattle.der_decode.specs.Private.Showing.{Fails, Shows, ShowsHead, spot, behind_head}
use Rattle.der_decode.proofs.Heading.{leaf-closed, headed-closed}

-- THE RULE of a node
module _ (M : List Assignment) (is : IsModule M) (depth : ℕ) (tag : Option ℕ) (t : Rose TypeLabel) (of : IsOf M t) where
  abbrev formed : AreWellFormed M (resolve M t)
  formed = well-formed M (resolve M t) is (resolved-of-module M t of)

  module _ (begin : ℕ) (v : Rose ValueLabel) (r : Spot) (text : is_no_text (label_of v) ≡ false) where
    owned-is : owned_at M begin (resolve M t) (v, r) ≡ stop_if (not (owns M (resolve M t) v)) (stop_at begin NotAValue) (Ok (v, r))
    unfolding owned_at
    owned-is = ap (λ b. stop_if b (stop_at begin NotUtf8) (stop_if (not (owns M (resolve M t) v)) (stop_at begin NotAValue) (Ok (v, r)))) text

    owned-own : Own M t v → owned_at M begin (resolve M t) (v, r) ≡ Ok (v, r)
    owned-own own = owned-is ∙ ap (λ b. stop_if (not b) (stop_at begin NotAValue) (Ok (v, r))) (own_owns M (resolve M t) v own)

    owned-not : (Own M t v → ⊥) → owned_at M begin (resolve M t) (v, r) ≡ Err (stop_at begin NotAValue)
    owned-not wrong = owned-is ∙ by (owns M (resolve M t) v) (λ e. wrong (owns_own M (resolve M t) v formed e))
      where
        by : (b : Bool) → (b ≡ true → ⊥) → stop_if {A = Rose ValueLabel × Spot} (not b) (stop_at begin NotAValue) (Ok (v, r)) ≡ Err (stop_at begin NotAValue)
        by true k = absurd (k refl)
        by false k = refl

  module _ (X : List ℕ) (s : Spot) where
    abbrev ruled : Result (Rose ValueLabel × Spot) Stop → Result (Rose ValueLabel × Spot) Stop
    ruled r = r >>= owned_at M s.at (resolve M t)

    node-is : node_read M depth tag t X s ≡ ruled (headed_read M depth tag (resolve M t) X s)
    node-is = node_recursion M is depth tag t of X s

    -- a node that keeps its rule, or not
    module _ (v : Rose ValueLabel) (r : Spot) (read : headed_read M depth tag (resolve M t) X s ≡ Ok (v, r)) (text : is_no_text (label_of v) ≡ false) where
      pub node_keeps : Own M t v → node_read M depth tag t X s ≡ Ok (v, r)
      node_keeps own = node-is ∙ ap ruled read ∙ owned-own s.at v r text own

      node_breaks : (Own M t v → ⊥) → node_read M depth tag t X s ≡ Err (stop_at s.at NotAValue)
      node_breaks wrong = node-is ∙ ap ruled read ∙ owned-not s.at v r text wrong

      pub node_unowned : (e : DerEnd) → (e ≡ fault.Memory) ⊎ ((e ≡ fault.Stopped (stop_at s.at NotAValue)) × (Own M t v → ⊥)) → Fails e (node_read M depth tag t X s)
      node_unowned e (inl m) = subst (λ f. Fails f (node_read M depth tag t X s)) (sym m) tt
      node_unowned e (inr n) = subst (λ f. Fails f (node_read M depth tag t X s)) (sym n.0) (node_breaks n.1)

    -- before its rule it fails
    pub node_fails : (e : DerEnd) → Fails e (headed_read M depth tag (resolve M t) X s) → Fails e (node_read M depth tag t X s)
    node_fails (fault.Stopped stop) h = node-is ∙ err_bind (headed_read M depth tag (resolve M t) X s) (owned_at M s.at (resolve M t)) stop h
    node_fails fault.Memory h = tt

    -- where every value keeps the rule, a node is what is read before it
    pub node_plain : (w : Rose ValueLabel) (answer : Result Spot DerEnd) → ((v : Rose ValueLabel) → Own M t v) → IfOk answer (λ _. is_no_text (label_of w) ≡ false)
        → Shows (λ r. (w, r)) answer (headed_read M depth tag (resolve M t) X s) → Shows (λ r. (w, r)) answer (node_read M depth tag t X s)
    node_plain w (Ok r) own text read = node_keeps w r read text (own w)
    node_plain w (Err e) own text h = node_fails e h

    -- A NODE WITHOUT KIDS
    module _ (leaf : HasNoKids (label_of (resolve M t)).form) where
      abbrev leaf_contents : (X : List ℕ) (s' : Spot) → Result (Rose ValueLabel × Spot) Stop
      leaf_contents X s' = contents_at M (kid_at M depth) s.at (label_of (resolve M t)) (kids_of (resolve M t)) (label_of (resolve M t)).form X s'

      leaf-is : headed_read M depth tag (resolve M t) X s ≡ behind_head depth (identifier tag (label_of (resolve M t)).form) leaf_contents X s
      leaf-is = headed-closed M (kid_at M depth) depth tag (label_of (resolve M t)) (kids_of (resolve M t)) X s (leaf-closed tag (label_of (resolve M t)).form leaf)

      pub leaf_headless : (e : DerEnd) → ShowsHead (Err e) depth (identifier tag (label_of (resolve M t)).form) X s → Fails e (node_read M depth tag t X s)
      leaf_headless (fault.Stopped stop) h = node_fails (fault.Stopped stop) (leaf-is ∙ h leaf_contents)
      leaf_headless fault.Memory h = tt

      module _ (at end nodes : ℕ)
          (head : (contents : (X : List ℕ) (s' : Spot) → Result (Rose ValueLabel × Spot) Stop) → behind_head depth (identifier tag (label_of (resolve M t)).form) contents X s ≡ contents (take end X) (spot at nodes)) where
        leaf-read : headed_read M depth tag (resolve M t) X s ≡ leaf_contents (take end X) (spot at nodes)
        leaf-read = leaf-is ∙ head leaf_contents

        pub leaf_stops : (e : DerEnd) → StopsLeaf (label_of (resolve M t)).form (take end X) s.at (spot at nodes) e → Fails e (node_read M depth tag t X s)
        leaf_stops (fault.Stopped stop) h = node-is ∙ ap ruled leaf-read ∙ h M (kid_at M depth) (label_of (resolve M t)) (kids_of (resolve M t)) (resolve M t)
        leaf_stops fault.Memory h = tt

        module _ (l : ValueLabel) (found : IsLeafAt (label_of (resolve M t)).form (take end X) (spot at nodes) l) (long : length (take end X) ≡ end) (text : is_no_text l ≡ false) where
          leaf-there : headed_read M depth tag (resolve M t) X s ≡ Ok (leaf_of l, spot end nodes)
          leaf-there = leaf-read ∙ found M (kid_at M depth) s.at (label_of (resolve M t)) (kids_of (resolve M t)) ∙ ap (λ n. Ok (leaf_of l, spot n nodes)) long

          pub leaf_keeps : Own M t (leaf_of l) → node_read M depth tag t X s ≡ Ok (leaf_of l, spot end nodes)
          leaf_keeps own = node_keeps (leaf_of l) (spot end nodes) leaf-there text own

          pub leaf_breaks : (Own M t (leaf_of l) → ⊥) → node_read M depth tag t X s ≡ Err (stop_at s.at NotAValue)
          leaf_breaks wrong = node_breaks (leaf_of l) (spot end nodes) leaf-there text wrong

-- A DEFAULT OR FIXED VALUE
module _ (M : List Assignment) (depth : ℕ) (tag : Option ℕ) (part : Component) (t : Rose TypeLabel) (X : List ℕ) (s : Spot) where
  abbrev kept : Result (Rose ValueLabel × Spot) Stop → Result (Rose ValueLabel × Spot) Stop
  kept r = r >>= kept_at M part t s.at

  kept-goes : (v : Rose ValueLabel) (r : Spot) → Kept M part t v → kept_at M part t s.at (v, r) ≡ Ok (v, r)
  unfolding kept_at
  kept-goes v r h = ap (λ b. stop_if (not b) (stop_at s.at (unkept_why M part t v)) (Ok (v, r))) (kept_keeps M part t v h)

  kept-not : (v : Rose ValueLabel) (r : Spot) → (Kept M part t v → ⊥) → kept_at M part t s.at (v, r) ≡ Err (stop_at s.at (unkept_why M part t v))
  unfolding kept_at
  kept-not v r wrong = by (keeps M part t v) (λ e. wrong (keeps_kept M part t v e))
    where
      by : (b : Bool) → (b ≡ true → ⊥) → stop_if {A = Rose ValueLabel × Spot} (not b) (stop_at s.at (unkept_why M part t v)) (Ok (v, r)) ≡ Err (stop_at s.at (unkept_why M part t v))
      by true k = absurd (k refl)
      by false k = refl

  -- without one a part is its node
  pub free_read : part.standard ≡ Free → part_read M depth tag part t X s ≡ node_read M depth tag t X s
  free_read free = by (node_read M depth tag t X s)
    where
      by : (r : Result (Rose ValueLabel × Spot) Stop) → kept r ≡ r
      by (Ok v) = kept-goes v.0 v.1 (free-kept M part t v.0 free)
      by (Err e) = refl

  module _ (v : Rose ValueLabel) (r : Spot) (read : node_read M depth tag t X s ≡ Ok (v, r)) where
    pub part_keeps : Kept M part t v → part_read M depth tag part t X s ≡ Ok (v, r)
    part_keeps h = ap kept read ∙ kept-goes v r h

    pub part_unkept : (e : DerEnd) → (e ≡ fault.Memory) ⊎ ((e ≡ fault.Stopped (stop_at s.at (unkept_why M part t v))) × (Kept M part t v → ⊥)) → Fails e (part_read M depth tag part t X s)
    part_unkept e (inl m) = subst (λ f. Fails f (part_read M depth tag part t X s)) (sym m) tt
    part_unkept e (inr n) = subst (λ f. Fails f (part_read M depth tag part t X s)) (sym n.0) (ap kept read ∙ kept-not v r n.1)
