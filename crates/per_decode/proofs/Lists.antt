-- The items of a SEQUENCE OF, by their count.
use Rattle.std.proofs.Common.{◌≡◌, ℕ, ◌+◌, ◌-◌, ◌*◌, ◌<◌, ◌≤◌, Bool, true, false, List, [], ◌++◌, length, refl, sym, ap, ◌∙◌, subst, arith, Option, Some, None, Result, Ok, Err}
use Rattle.std.specs.Prelude.{replicate}
use Rattle.std.proofs.lemmas.Bool.{lt-ltb, le-ltb}
use Rattle.base_trees.specs.Rose.{Rose, node, roses_of}
use Rattle.simple_types.specs.declared.labels.ValueLabel.{ValueLabel}
use Rattle.simple_types.specs.declared.labels.ValueLabel.TheVariants as value
use Rattle.simple_types.specs.declared.standards.Standard.TheVariants.{Free}
use Rattle.asn_types.specs.declared.modules.Assignment.{Assignment}
use Rattle.asn_types.specs.declared.types.TypeLabel.{TypeLabel}
use Rattle.asn_values.specs.Values.{ComponentPlace, below}
use Rattle.base_codecs.specs.declared.spots.Spot.{Spot}
use Rattle.per_fields.specs.declared.stops.Stop.{Stop}
use Rattle.per_fields.specs.Reading.{◌>>=◌}
use Rattle.per_fields.specs.Fields.{number_at, sized_at, counted_at, list_at}
use Rattle.per_fields.specs.Nodes.{items_at}
use Rattle.per_decode.specs.Private.Giving.{Halt, memory, FailsAt}
use Rattle.per_decode.specs.Private.Bodies.{kid_at, node_of, many_at, more_at}
use Rattle.per_decode.proofs.Ends.{SteadyReader, sits-each, sits-list, fails_first, sits-number}
use Rattle.per_decode.proofs.EndNodes.{sits-node}
use Rattle.per_decode.proofs.Forms.{items_are}

-- nothing in front
front_none : {B : Type 0} (r : Result (List B × Spot) Stop) → r ≡ (r >>= λ x. Ok ([] ++ x.0, x.1))
front_none (Ok x) = refl
front_none (Err f) = refl

module _ (aligned : Bool) (M : List Assignment) (depth : ℕ) (t : Rose TypeLabel) where
  pub steady-items : (n : ℕ) → SteadyReader (λ X s. many_at aligned M depth n t X s)
  steady-items n X s h = sits-each (node_of aligned M depth t) (λ i. sits-node aligned M depth t) (replicate n 0) X s h

  module _ (least : ℕ) (X : List Bool) (s : Spot) where
    pub list-none : list_at aligned least None (λ n. many_at aligned M depth n t) X s ≡ counted_at aligned least None (λ n. many_at aligned M depth n t) X s
    unfolding list_at
    list-none = refl

    module _ (most : ℕ) where
      pub list-large : 65536 ≤ most → list_at aligned least (Some most) (λ n. many_at aligned M depth n t) X s ≡ counted_at aligned least (Some most) (λ n. many_at aligned M depth n t) X s
      unfolding list_at
      list-large h = ap (λ b. elim b as (λ _. Result (List (Rose ValueLabel) × Spot) Stop) [ true ↦ sized_at aligned least most (λ n. many_at aligned M depth n t) X s | false ↦ counted_at aligned least (Some most) (λ n. many_at aligned M depth n t) X s ]) (le-ltb most 65536 h)

      list-small : most < 65536 → list_at aligned least (Some most) (λ n. many_at aligned M depth n t) X s ≡ (number_at aligned (most - least) X s >>= λ n. many_at aligned M depth (least + n.0) t X n.1)
      unfolding list_at sized_at
      list-small h = ap (λ b. elim b as (λ _. Result (List (Rose ValueLabel) × Spot) Stop) [ true ↦ sized_at aligned least most (λ n. many_at aligned M depth n t) X s | false ↦ counted_at aligned least (Some most) (λ n. many_at aligned M depth n t) X s ]) (lt-ltb most 65536 h)

      pub count_fails : (limit : ℕ) (whole : List ℕ) (e : Halt) (taken : ℕ) → most < 65536 → s.at ≤ length X → FailsAt limit whole e taken (number_at aligned (most - least) X s)
          → FailsAt limit whole e taken (list_at aligned least (Some most) (λ n. many_at aligned M depth n t) X s)
      count_fails limit whole e taken small inside h =
          subst (FailsAt limit whole e taken) (sym (list-small small))
          (fails_first limit whole e taken X (number_at aligned (most - least) X s) (λ n. many_at aligned M depth (least + n.0) t X n.1) (sits-number aligned (most - least) X s inside).inside (λ n i. steady-items (least + n.0) X n.1 i) h)

      pub count_told : (n : ℕ) (r : Spot) → most < 65536 → number_at aligned (most - least) X s ≡ Ok (n, r) → list_at aligned least (Some most) (λ n. many_at aligned M depth n t) X s ≡ more_at aligned M depth (least + n) t [] X r
      count_told n r small e = list-small small ∙ ap (λ c. c >>= λ n. many_at aligned M depth (least + n.0) t X n.1) e ∙ front_none (many_at aligned M depth (least + n) t X r)

-- a SEQUENCE OF, by its items
module _ (aligned : Bool) (M : List Assignment) (depth : ℕ) (p : ComponentPlace) (free : p.part.standard ≡ Free) (least : ℕ) (most : Option ℕ) (X : List Bool) (s : Spot) where
  abbrev listed : Result (List (Rose ValueLabel) × Spot) Stop
  listed = list_at aligned least most (λ n. many_at aligned M (below p.role depth) n p.type) X s

  pub list_fails : (limit : ℕ) (whole : List ℕ) (e : Halt) (taken : ℕ) → s.at ≤ length X → FailsAt limit whole e taken (list_at aligned least most (λ n. many_at aligned M (below p.role depth) n p.type) X s)
      → FailsAt limit whole e taken (items_at aligned (kid_at aligned M depth) least most (Some p) X s)
  list_fails limit whole e taken inside h =
      subst (FailsAt limit whole e taken) (sym (items_are aligned M depth p free least most X s))
      (fails_first limit whole e taken X listed (λ vs. Ok (node value.SequenceOf (roses_of vs.0), vs.1))
      (sits-list aligned least most (λ n. many_at aligned M (below p.role depth) n p.type) (steady-items aligned M (below p.role depth) p.type) X s inside).inside (λ vs i. record { later = omega arith; inside = i }) h)

  -- want of memory before the count
  pub list_full : (limit : ℕ) (whole : List ℕ) (taken : ℕ) → s.at ≤ length X → 8 * taken ≤ s.at + 7 → FailsAt limit whole memory taken (items_at aligned (kid_at aligned M depth) least most (Some p) X s)
  list_full limit whole taken inside step =
      list_fails limit whole memory taken inside
      (omega (arith, (sits-list aligned least most (λ n. many_at aligned M (below p.role depth) n p.type) (steady-items aligned M (below p.role depth) p.type) X s inside).later, step))

  pub list_reads : (vs : List (Rose ValueLabel)) (q : Spot) → list_at aligned least most (λ n. many_at aligned M (below p.role depth) n p.type) X s ≡ Ok (vs, q)
      → items_at aligned (kid_at aligned M depth) least most (Some p) X s ≡ Ok (node value.SequenceOf (roses_of vs), q)
  list_reads vs q e = items_are aligned M depth p free least most X s ∙ ap (λ r. r >>= λ vs. Ok (node value.SequenceOf (roses_of vs.0), vs.1)) e
