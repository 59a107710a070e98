-- Nodes without kids, for which it makes no difference how many elements stand in one another down to them.
use Rattle.std.proofs.Common.{◌≡◌, ℕ, suc, ◌<◌, ◌≤◌, Bool, true, false, cond, ltb, List, [], refl, sym, ap, ◌∙◌, subst, arith, Option, Some, None, inl, inr, ◌⊎◌}
use Rattle.std.specs.Prelude.{slice_get, IfSome}
use Rattle.base_trees.specs.Rose.{Rose, node, Roses, none, more, label_of, kids_of, length_all}
use Rattle.simple_types.specs.declared.labels.ValueLabel.{ValueLabel}
use Rattle.simple_types.specs.declared.labels.ValueLabel.TheVariants as value
use Rattle.asn_types.specs.declared.modules.Assignment.{Assignment}
use Rattle.asn_types.specs.declared.roles.Role.{Role}
use Rattle.asn_types.specs.declared.roles.Role.TheVariants.{Element}
use Rattle.asn_types.specs.declared.types.Component.{Component}
use Rattle.asn_types.specs.declared.types.Form.{Form}
use Rattle.asn_types.specs.declared.types.Form.TheVariants as form
use Rattle.asn_types.specs.declared.types.TypeLabel.{TypeLabel}
use Rattle.asn_types.specs.Parts.{is_leaf, parts_of}
use Rattle.asn_types.specs.Refs.{resolve, IsOf}
use Rattle.asn_types.specs.Roles.{role_of}
use Rattle.asn_values.specs.Values.{ComponentPlace, none_if, places_in, places, below, FitsAt, FitEach}
use Rattle.asn_values.specs.Private.Placing.{FitPlaces}
use Rattle.base_codecs.specs.declared.spots.Spot.{Spot}
use Rattle.per_fields.specs.Levels.{levels_needed}
use Rattle.per_fields.specs.Reading.{◌>>=◌, moved}
use Rattle.per_fields.specs.Nodes.{content_at, enter_by, owned_at, kept_at, node_read}
use Rattle.per_decode.specs.Private.Bodies.{IsKnown, HasFields, part_read, kid_at, fields_at, body_at}
use Rattle.per_decode.proofs.Bodies.{node-shallow}
use Rattle.per_decode.proofs.Parts.{if_some, Kid, kid_here}
use Rattle.per_decode.proofs.Types.{resolved-levels}

-- HOW FAR READING GOES DOWN: a node without kids needs nothing below it
abbrev pub needs : List Assignment → ℕ → Rose TypeLabel → ℕ
needs M depth u = cond (is_leaf (label_of u).form) 0 (levels_needed M depth u)

module _ (M : List Assignment) (depth : ℕ) (u : Rose TypeLabel) where
  pub needs-leaf : is_leaf (label_of u).form ≡ true → needs M depth u ≡ 0
  needs-leaf e = ap (λ b. cond b 0 (levels_needed M depth u)) e

  -- a node of a type with this form, which has kids
  pub needs-kids : (f : Form) → (label_of u).form ≡ f → is_leaf f ≡ false → needs M depth u ≡ levels_needed M depth u
  needs-kids f e kids = ap (λ f. cond (is_leaf f) 0 (levels_needed M depth u)) e ∙ ap (λ b. cond b 0 (levels_needed M depth u)) kids

  pub needs-within : needs M depth u ≤ levels_needed M depth u
  needs-within = by (is_leaf (label_of u).form)
    where
      by : (b : Bool) → cond b 0 (levels_needed M depth u) ≤ levels_needed M depth u
      by true = omega arith
      by false = omega arith

pub needs-resolved : (M : List Assignment) → IsKnown M → (depth : ℕ) (t : Rose TypeLabel) → IsOf M t → needs M depth (resolve M t) ≤ levels_needed M depth t
needs-resolved M known depth t of = omega (arith, needs-within M depth (resolve M t), resolved-levels M known depth t of)

-- WHAT IS READ
leaf-fields : (aligned : Bool) (M : List Assignment) (a b : ℕ) (u : Rose TypeLabel) (X : List Bool) (s : Spot) → is_leaf (label_of u).form ≡ true → fields_at aligned M a u X s ≡ fields_at aligned M b u X s
unfolding content_at
leaf-fields aligned M a b u X s leaf = by (label_of u).form leaf
  where
    by : (f : Form) → is_leaf f ≡ true → content_at aligned (kid_at aligned M a) (label_of u) (kids_of u) f X s ≡ content_at aligned (kid_at aligned M b) (label_of u) (kids_of u) f X s
    by form.Bool e = refl
    by (form.Int least greatest) e = refl
    by (form.Numbers numbers) e = refl
    by (form.Words identifiers words) e = refl
    by (form.Order identifiers) e = refl
    by (form.Utf8 least most class) e = refl
    by (form.Sequence parts) e = absurd cc
    by (form.Choice parts) e = absurd cc
    by (form.SequenceOf part least most) e = absurd cc
    by (form.Ref to) e = absurd cc

pub leaf-read : (aligned : Bool) (M : List Assignment) → IsKnown M → (a b : ℕ) (t : Rose TypeLabel) → IsOf M t → (X : List Bool) (s : Spot) → a ≤ 64 → b ≤ 64 → is_leaf (label_of (resolve M t)).form ≡ true → node_read aligned M a t X s ≡ node_read aligned M b t X s
leaf-read aligned M known a b t of X s at_a at_b leaf = node-shallow aligned M known a t of X s at_a ∙ by (ltb s.nodes 1048576) ∙ sym (node-shallow aligned M known b t of X s at_b)
  where
    by : (few : Bool) → enter_by true few s (λ r. body_at aligned M a s.at (resolve M t) X r) ≡ enter_by true few s (λ r. body_at aligned M b s.at (resolve M t) X r)
    by false = refl
    by true = ap (λ x. x >>= λ v. owned_at M s.at (resolve M t) v) (leaf-fields aligned M a b (resolve M t) X (moved s 0 1) leaf)

-- WHAT FITS
same_some : {A : Type 0} (a b : A) → Some a ≡ Some b → a ≡ b
same_some a b e = cc

none_some : {A : Type 0} {X : Type 0} (a : A) → None ≡ Some a → X
none_some a e = absurd cc

none_if-none : (b : Bool) (ps : List ComponentPlace) → none_if b ≡ Some ps → ps ≡ []
none_if-none true ps e = sym (same_some [] ps e)
none_if-none false ps e = none_some ps e

leaf-places : (l : TypeLabel) (ts : List (Rose TypeLabel)) (f : Form) (v : ValueLabel) (n : ℕ) (ps : List ComponentPlace) → is_leaf f ≡ true → places_in l ts f v n ≡ Some ps → ps ≡ []
leaf-places l ts form.Bool (value.Bool b) n ps leaf e = sym (same_some [] ps e)
leaf-places l ts (form.Int least greatest) (value.Int z) n ps leaf e = none_if-none _ ps e
leaf-places l ts (form.Numbers numbers) (value.Enum i) n ps leaf e = none_if-none _ ps e
leaf-places l ts (form.Words identifiers words) (value.Enum i) n ps leaf e = none_if-none _ ps e
leaf-places l ts (form.Order identifiers) (value.Enum i) n ps leaf e = none_if-none _ ps e
leaf-places l ts (form.Utf8 least most class) (value.Utf8 text) n ps leaf e = sym (same_some [] ps e)
leaf-places l ts (form.Sequence parts) v n ps leaf e = absurd cc
leaf-places l ts (form.Choice parts) v n ps leaf e = absurd cc
leaf-places l ts (form.SequenceOf part least most) v n ps leaf e = absurd cc
leaf-places l ts (form.Ref to) v n ps leaf e = absurd cc
leaf-places l ts f v n ps leaf e = none_some ps e

module _ (M : List Assignment) (a b : ℕ) where
  no_kids : (vs : Roses ValueLabel) → FitEach M a [] vs → FitEach M b [] vs
  unfolding FitEach
  no_kids none h = tt
  no_kids (more v vs) h = absurd h

  pub leaf-fits : (t : Rose TypeLabel) (v : Rose ValueLabel) → b ≤ 64 → is_leaf (label_of (resolve M t)).form ≡ true → FitsAt M a t v → FitsAt M b t v
  unfolding FitsAt
  leaf-fits t (node l vs) shallow leaf h = (shallow, by (places (resolve M t) l (length_all vs)) refl h.1, h.2)
    where
      by : (o : Option (List ComponentPlace)) → places (resolve M t) l (length_all vs) ≡ o → FitPlaces M a o vs → FitPlaces M b o vs
      by None is k = absurd k
      by (Some ps) is k =
          let e = leaf-places (label_of (resolve M t)) (kids_of (resolve M t)) (label_of (resolve M t)).form l (length_all vs) ps leaf is in
          subst (λ qs. FitEach M b qs vs) (sym e) (no_kids vs (subst (λ qs. FitEach M a qs vs) e k))

-- A KID, read as if so many elements stood in one another down to it
below-few : (role : Role) (depth : ℕ) → below role depth ≤ suc depth
below-few Element depth = omega arith
below-few role depth = omega arith

module _ (M : List Assignment) (known : IsKnown M) (u : Rose TypeLabel) (of : IsOf M u) where
  pub record Inner (depth i inner : ℕ) (part : Component) (kid : Rose TypeLabel) : Type 0 where
    pub of_module : IsOf M kid
    pub fewer : needs M inner (resolve M kid) < levels_needed M depth u
    pub read : (aligned : Bool) (X : List Bool) (s : Spot) → part_read aligned M inner part kid X s ≡ part_read aligned M (below (role_of (label_of u) i part) depth) part kid X s
    pub fits : (v : Rose ValueLabel) → FitsAt M inner kid v → FitsAt M (below (role_of (label_of u) i part) depth) kid v

  pub inner_here : (depth i inner : ℕ) (part : Component) (kid found : Rose TypeLabel) → HasFields (label_of u).form → depth ≤ 64 → slice_get (parts_of (label_of u).form) i ≡ Some part → slice_get (kids_of u) i ≡ Some kid → found ≡ resolve M kid
      → ((depth < 64) × (is_leaf (label_of found).form ≡ true) × (inner ≡ depth)) ⊎ IfSome (slice_get (parts_of (label_of u).form) i) (λ part. inner ≡ below (role_of (label_of u) i part) depth)
      → Inner depth i inner part kid
  inner_here depth i inner part kid found has deep is_part is_kid is_found is_inner = by is_inner
    where
      role : Role
      role = role_of (label_of u) i part

      k : Kid M known u of depth i (below role depth) part kid
      k = kid_here M known u of depth i (below role depth) part kid role has deep is_part is_kid (subst (λ o. IfSome o (λ part. role ≡ role_of (label_of u) i part)) (sym is_part) refl) refl

      by : ((depth < 64) × (is_leaf (label_of found).form ≡ true) × (inner ≡ depth)) ⊎ IfSome (slice_get (parts_of (label_of u).form) i) (λ part. inner ≡ below (role_of (label_of u) i part) depth)
          → Inner depth i inner part kid
      by (inl h) =
          let leaf : is_leaf (label_of (resolve M kid)).form ≡ true = subst (λ (w : Rose TypeLabel). is_leaf (label_of w).form ≡ true) is_found h.1 in
          let low : below role depth ≤ 64 = omega (arith, below-few role depth, h.0) in
          record {
            of_module = k.of_module;
            fewer = omega (arith, needs-leaf M inner (resolve M kid) leaf, k.fewer);
            read = λ aligned X s. ap (λ r. r >>= kept_at M part kid s.at) (leaf-read aligned M known inner (below role depth) kid k.of_module X s (omega (arith, h.2, deep)) low leaf);
            fits = λ v f. leaf-fits M inner (below role depth) kid v low leaf f;
          }
      by (inr h) =
          let e : inner ≡ below role depth = if_some (λ part. inner ≡ below (role_of (label_of u) i part) depth) (slice_get (parts_of (label_of u).form) i) part is_part h in
          record {
            of_module = k.of_module;
            fewer = omega (arith, needs-resolved M known inner kid k.of_module, k.fewer, ap (λ n. levels_needed M n kid) e);
            read = λ aligned X s. ap (λ n. part_read aligned M n part kid X s) e;
            fits = λ v f. subst (λ n. FitsAt M n kid v) e f;
          }
