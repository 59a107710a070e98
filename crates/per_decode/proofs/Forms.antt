-- The fields of a node, by the form of its type.
use Rattle.std.proofs.Common.{◌≡◌, ℕ, zero, suc, ◌+◌, ◌-◌, ◌*◌, ◌≤◌, Bool, List, [], ◌∷◌, length, refl, sym, ap, ◌∙◌, subst, arith, Option, Some, None, Result, Ok, Err}
use Rattle.std.specs.Prelude.{replicate, slice_get, ℤ}
use Rattle.base_trees.specs.Rose.{Rose, node, roses_of, label_of, kids_of}
use Rattle.simple_types.specs.declared.labels.ValueLabel.{ValueLabel}
use Rattle.simple_types.specs.declared.labels.ValueLabel.TheVariants as value
use Rattle.asn_types.specs.declared.modules.Assignment.{Assignment}
use Rattle.asn_types.specs.declared.types.Component.{Component}
use Rattle.asn_types.specs.declared.types.Form.TheVariants as form
use Rattle.asn_types.specs.declared.types.TypeLabel.{TypeLabel}
use Rattle.asn_values.specs.Values.{ComponentPlace, below, place_of, place_at, present_from, alone}
use Rattle.base_codecs.specs.declared.spots.Spot.{Spot}
use Rattle.per_fields.specs.declared.stops.Stop.{Stop}
use Rattle.per_fields.specs.Reading.{◌>>=◌, Reader, each_at}
use Rattle.per_fields.specs.Fields.{number_at, list_at}
use Rattle.simple_types.specs.declared.standards.Standard.TheVariants.{Free}
use Rattle.per_fields.specs.Nodes.{node_read, flag_at, bool_at, int_at, enum_at, sequence_at, choice_at, items_at, content_at, kids_at}
use Rattle.per_decode.specs.declared.faults.PerEnd.{PerEnd}
use Rattle.per_decode.specs.Private.Giving.{Halt, memory, FailsAt, Shows}
use Rattle.per_decode.specs.Private.Bodies.{kid_at, fields_at, kids_read, many_at, item_place}
use Rattle.per_decode.proofs.Ends.{Sits, SteadyReader, sits-each, fails_first, sits-number}
use Rattle.per_decode.proofs.EndNodes.{sits-kid, sits-kids, sits-flags}
use Rattle.per_decode.proofs.Free.{free-read}

-- what a reading shows, another does that is equal to it
pub shows_as : {A B : Type 0} (limit : ℕ) (whole : List ℕ) (view : A → B) (r : Result A PerEnd) (new : Spot) (stop : Stop) (taken : ℕ) (found other : Result (B × Spot) Stop) → other ≡ found → Shows limit whole view r new stop taken found → Shows limit whole view r new stop taken other
shows_as limit whole view r new stop taken found other e h = subst (Shows limit whole view r new stop taken) (sym e) h

module _ (aligned : Bool) (M : List Assignment) (depth : ℕ) (t : Rose TypeLabel) (X : List Bool) (s : Spot) where
  pub fields-bool : (label_of t).form ≡ form.Bool → fields_at aligned M depth t X s ≡ bool_at X s
  unfolding content_at
  fields-bool e = rw e refl

  pub fields-int : (lo hi : Option ℤ) → (label_of t).form ≡ form.Int lo hi → fields_at aligned M depth t X s ≡ int_at aligned lo hi X s
  unfolding content_at
  fields-int lo hi e = rw e refl

  pub fields-numbers : (numbers : List ℤ) → (label_of t).form ≡ form.Numbers numbers → fields_at aligned M depth t X s ≡ enum_at aligned (length numbers) X s
  unfolding content_at
  fields-numbers numbers e = rw e refl

  pub fields-words : (identifiers words : List (List ℕ)) → (label_of t).form ≡ form.Words identifiers words → fields_at aligned M depth t X s ≡ enum_at aligned (length words) X s
  unfolding content_at
  fields-words identifiers words e = rw e refl

  pub fields-order : (identifiers : List (List ℕ)) → (label_of t).form ≡ form.Order identifiers → fields_at aligned M depth t X s ≡ enum_at aligned (length identifiers) X s
  unfolding content_at
  fields-order identifiers e = rw e refl

  pub fields-sequence : (parts : List Component) → (label_of t).form ≡ form.Sequence parts → fields_at aligned M depth t X s ≡ sequence_at (kid_at aligned M depth) (label_of t) (kids_of t) parts X s
  unfolding content_at
  fields-sequence parts e = rw e refl

  pub fields-choice : (parts : List Component) → (label_of t).form ≡ form.Choice parts → fields_at aligned M depth t X s ≡ choice_at aligned (kid_at aligned M depth) (label_of t) (kids_of t) parts X s
  unfolding content_at
  fields-choice parts e = rw e refl

  pub fields-list : (part : Component) (least : ℕ) (most : Option ℕ) → (label_of t).form ≡ form.SequenceOf part least most → fields_at aligned M depth t X s ≡ items_at aligned (kid_at aligned M depth) least most (item_place t part) X s
  unfolding content_at
  fields-list part least most e = rw e refl

module _ (aligned : Bool) (M : List Assignment) (depth : ℕ) where
  steady-kid : (p : ComponentPlace) → SteadyReader (kid_at aligned M depth p)
  steady-kid p = sits-kid aligned M depth p

  -- kids and their label
  abbrev put_kids : ValueLabel → List (Rose ValueLabel) × Spot → Result (Rose ValueLabel × Spot) Stop
  put_kids l vs = Ok (node l (roses_of vs.0), vs.1)

  abbrev put_kid : ValueLabel → Rose ValueLabel × Spot → Result (Rose ValueLabel × Spot) Stop
  put_kid l v = Ok (node l (roses_of (v.0 ∷ [])), v.1)

  kids_as : (l : ValueLabel) (o : Option (List ComponentPlace)) (X : List Bool) (s : Spot) → kids_at (kid_at aligned M depth) l o X s ≡ (kids_read aligned M depth o X s >>= λ vs. Ok (node l (roses_of vs.0), vs.1))
  unfolding kids_at
  kids_as l None X s = refl
  kids_as l (Some ps) X s = refl

  -- A SEQUENCE
  module _ (l : TypeLabel) (ts : List (Rose TypeLabel)) (parts : List Component) (X : List Bool) (s : Spot) where
    pub sequence_fails : (limit : ℕ) (whole : List ℕ) (e : Halt) (taken : ℕ) → s.at ≤ length X → FailsAt limit whole e taken (each_at flag_at parts X s) → FailsAt limit whole e taken (sequence_at (kid_at aligned M depth) l ts parts X s)
    unfolding sequence_at
    sequence_fails limit whole e taken inside h =
        fails_first limit whole e taken X (each_at flag_at parts X s) (λ f. kids_at (kid_at aligned M depth) (value.Sequence f.0) (present_from l 0 parts ts f.0) X f.1) (sits-flags parts X s inside).inside
        (λ f i. sits-kids (kid_at aligned M depth) steady-kid (value.Sequence f.0) (present_from l 0 parts ts f.0) X f.1 i) h

    module _ (flags : List Bool) (r : Spot) (present : each_at flag_at parts X s ≡ Ok (flags, r)) where
      sequence_is : sequence_at (kid_at aligned M depth) l ts parts X s ≡ (kids_read aligned M depth (present_from l 0 parts ts flags) X r >>= λ vs. Ok (node (value.Sequence flags) (roses_of vs.0), vs.1))
      unfolding sequence_at
      sequence_is = ap (λ f. f >>= λ f. kids_at (kid_at aligned M depth) (value.Sequence f.0) (present_from l 0 parts ts f.0) X f.1) present ∙ kids_as (value.Sequence flags) (present_from l 0 parts ts flags) X r

      pub sequence_reads : (vs : List (Rose ValueLabel)) (q : Spot) → kids_read aligned M depth (present_from l 0 parts ts flags) X r ≡ Ok (vs, q) → sequence_at (kid_at aligned M depth) l ts parts X s ≡ Ok (node (value.Sequence flags) (roses_of vs), q)
      sequence_reads vs q e = sequence_is ∙ ap (λ k. k >>= λ vs. Ok (node (value.Sequence flags) (roses_of vs.0), vs.1)) e

      sits-read : (o : Option (List ComponentPlace)) → r.at ≤ length X → Sits X r.at (kids_read aligned M depth o X r)
      sits-read None h = record { later = omega arith; inside = h }
      sits-read (Some ps) h = sits-each (kid_at aligned M depth) steady-kid ps X r h

      pub components_fail : (limit : ℕ) (whole : List ℕ) (e : Halt) (taken : ℕ) → r.at ≤ length X → FailsAt limit whole e taken (kids_read aligned M depth (present_from l 0 parts ts flags) X r) → FailsAt limit whole e taken (sequence_at (kid_at aligned M depth) l ts parts X s)
      components_fail limit whole e taken inside h =
          subst (FailsAt limit whole e taken) (sym sequence_is)
          (fails_first limit whole e taken X (kids_read aligned M depth (present_from l 0 parts ts flags) X r) (λ vs. Ok (node (value.Sequence flags) (roses_of vs.0), vs.1)) (sits-read (present_from l 0 parts ts flags) inside).inside (λ vs i. record { later = omega arith; inside = i }) h)

      -- want of memory behind the presence bits
      pub components_full : (limit : ℕ) (whole : List ℕ) (taken : ℕ) → r.at ≤ length X → 8 * taken ≤ r.at + 7 → FailsAt limit whole memory taken (sequence_at (kid_at aligned M depth) l ts parts X s)
      components_full limit whole taken inside step = components_fail limit whole memory taken inside (omega (arith, (sits-read (present_from l 0 parts ts flags) inside).later, step))

  -- A CHOICE
  module _ (l : TypeLabel) (ts : List (Rose TypeLabel)) (parts : List Component) (X : List Bool) (s : Spot) where
    pub choice_fails : (limit : ℕ) (whole : List ℕ) (e : Halt) (taken : ℕ) → s.at ≤ length X → FailsAt limit whole e taken (number_at aligned (length parts - 1) X s) → FailsAt limit whole e taken (choice_at aligned (kid_at aligned M depth) l ts parts X s)
    unfolding choice_at
    choice_fails limit whole e taken inside h =
        fails_first limit whole e taken X (number_at aligned (length parts - 1) X s) (λ i. kids_at (kid_at aligned M depth) (value.Choice i.0) (alone (place_at l i.0 (slice_get parts i.0) (slice_get ts i.0))) X i.1) (sits-number aligned (length parts - 1) X s inside).inside
        (λ i j. sits-kids (kid_at aligned M depth) steady-kid (value.Choice i.0) (alone (place_at l i.0 (slice_get parts i.0) (slice_get ts i.0))) X i.1 j) h

    module _ (i : ℕ) (r : Spot) (part : Component) (kid : Rose TypeLabel) (index : number_at aligned (length parts - 1) X s ≡ Ok (i, r)) (is_part : slice_get parts i ≡ Some part) (is_kid : slice_get ts i ≡ Some kid) where
      one_kid : (k : Result (Rose ValueLabel × Spot) Stop) → kid_at aligned M depth (place_of l i part kid) X r ≡ k → (each_at (kid_at aligned M depth) (place_of l i part kid ∷ []) X r >>= put_kids (value.Choice i)) ≡ (k >>= put_kid (value.Choice i))
      unfolding each_at
      one_kid (Ok v) e = rw e refl
      one_kid (Err f) e = rw e refl

      choice_is : choice_at aligned (kid_at aligned M depth) l ts parts X s ≡ (kid_at aligned M depth (place_of l i part kid) X r >>= put_kid (value.Choice i))
      unfolding choice_at
      choice_is =
          ap (λ n. n >>= λ i. kids_at (kid_at aligned M depth) (value.Choice i.0) (alone (place_at l i.0 (slice_get parts i.0) (slice_get ts i.0))) X i.1) index
          ∙ kids_as (value.Choice i) (alone (place_at l i (slice_get parts i) (slice_get ts i))) X r
          ∙ ap (λ o. kids_read aligned M depth (alone (place_at l i o (slice_get ts i))) X r >>= put_kids (value.Choice i)) is_part
          ∙ ap (λ o. kids_read aligned M depth (alone (place_at l i (Some part) o)) X r >>= put_kids (value.Choice i)) is_kid
          ∙ one_kid (kid_at aligned M depth (place_of l i part kid) X r) refl

      pub choice_reads : (v : Rose ValueLabel) (q : Spot) → kid_at aligned M depth (place_of l i part kid) X r ≡ Ok (v, q) → choice_at aligned (kid_at aligned M depth) l ts parts X s ≡ Ok (node (value.Choice i) (roses_of (v ∷ [])), q)
      choice_reads v q e = choice_is ∙ ap (λ k. k >>= λ v. Ok (node (value.Choice i) (roses_of (v.0 ∷ [])), v.1)) e

      pub alternative_fails : (limit : ℕ) (whole : List ℕ) (e : Halt) (taken : ℕ) → r.at ≤ length X → FailsAt limit whole e taken (kid_at aligned M depth (place_of l i part kid) X r) → FailsAt limit whole e taken (choice_at aligned (kid_at aligned M depth) l ts parts X s)
      alternative_fails limit whole e taken inside h =
          subst (FailsAt limit whole e taken) (sym choice_is)
          (fails_first limit whole e taken X (kid_at aligned M depth (place_of l i part kid) X r) (λ v. Ok (node (value.Choice i) (roses_of (v.0 ∷ [])), v.1)) (steady-kid (place_of l i part kid) X r inside).inside (λ v j. record { later = omega arith; inside = j }) h)

      -- want of memory behind the index
      pub alternative_full : (limit : ℕ) (whole : List ℕ) (taken : ℕ) → r.at ≤ length X → 8 * taken ≤ r.at + 7 → FailsAt limit whole memory taken (choice_at aligned (kid_at aligned M depth) l ts parts X s)
      alternative_full limit whole taken inside step = alternative_fails limit whole memory taken inside (omega (arith, (steady-kid (place_of l i part kid) X r inside).later, step))

  -- THE ITEMS OF A SEQUENCE OF: one place again and again is one type again and again
  module _ (p : ComponentPlace) (free : p.part.standard ≡ Free) where
    many_same : (n : ℕ) (X : List Bool) (s : Spot) → each_at (kid_at aligned M depth) (replicate n p) X s ≡ many_at aligned M (below p.role depth) n p.type X s
    unfolding each_at
    many_same zero X s = refl
    many_same (suc n) X s =
        ap (λ k. k >>= λ b. each_at (kid_at aligned M depth) (replicate n p) X b.1 >>= λ bs. Ok (b.0 ∷ bs.0, bs.1)) (free-read aligned M (below p.role depth) p.part p.type free X s)
        ∙ ap (λ k. node_read aligned M (below p.role depth) p.type X s >>= k) (λ i b. many_same n X b.1 i >>= λ bs. Ok (b.0 ∷ bs.0, bs.1))

    abbrev same_place : ℕ → Reader (List (Rose ValueLabel))
    same_place n X s = each_at (kid_at aligned M depth) (replicate n p) X s

    abbrev same_type : ℕ → Reader (List (Rose ValueLabel))
    same_type n X s = many_at aligned M (below p.role depth) n p.type X s

    items_path : same_place ≡ same_type
    items_path = λ i n X s. many_same n X s i

    -- as the code reads them
    pub items_are : (least : ℕ) (most : Option ℕ) (X : List Bool) (s : Spot)
        → items_at aligned (kid_at aligned M depth) least most (Some p) X s ≡ (list_at aligned least most (λ n. many_at aligned M (below p.role depth) n p.type) X s >>= λ vs. Ok (node value.SequenceOf (roses_of vs.0), vs.1))
    unfolding items_at
    items_are least most X s = ap (λ (items : ℕ → Reader (List (Rose ValueLabel))). list_at aligned least most items X s >>= λ vs. Ok (node value.SequenceOf (roses_of vs.0), vs.1)) items_path
