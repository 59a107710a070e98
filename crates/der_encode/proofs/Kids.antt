-- The kids of a value that fits, by the label of the value.
use Rattle.std.proofs.Common.{◌≡◌, ℕ, zero, suc, ◌+◌, ◌<◌, Bool, true, false, cond, leb, ltb, ◌&&◌, Option, Some, None, List, [], ◌∷◌, ◌++◌, length, get_or, refl, sym, ap, ◌∙◌, subst, arith}
use Rattle.std.specs.Prelude.{slice_get, replicate, ℤ}
use Rattle.std.proofs.lemmas.Bool.{ltb-true}
use Rattle.std.proofs.lemmas.List.{append-nil}
use Rattle.std.proofs.lemmas.Option.{slice_get_within}
use Rattle.base_trees.specs.Rose.{Rose, node, Roses, roses_of, list_of, label_of, kids_of, length_all}
use Rattle.base_trees.proofs.Roses.{length-list_of, roses_of-list_of}
use Rattle.simple_types.specs.declared.labels.ValueLabel.{ValueLabel}
use Rattle.simple_types.specs.declared.labels.ValueLabel.TheVariants as value
use Rattle.simple_types.specs.Lexical.{is_at_most}
use Rattle.asn_types.specs.declared.modules.Assignment.{Assignment}
use Rattle.asn_types.specs.declared.types.Component.{Component}
use Rattle.asn_types.specs.declared.types.Form.{Form}
use Rattle.asn_types.specs.declared.types.Form.TheVariants as form
use Rattle.asn_types.specs.declared.types.TypeLabel.{TypeLabel}
use Rattle.asn_types.specs.Refs.{resolve}
use Rattle.asn_values.specs.Values.{ComponentPlace, place_of, put_first, present_from, place_at, alone, repeated, none_if, places_in, places, below, FitsAt, FitEach, In}
use Rattle.asn_values.specs.Private.Placing.{FitPlaces}
use Rattle.asn_values.proofs.Counting.{fits-kids}
use Rattle.der_fields.specs.Encoding.{tags_from, tags_of, tagged, number_in, contents, headed, identifier, is_open, wrapped, der, each_der, distinguished}
use Rattle.der_encode.specs.Private.Kids.{HasItem, FitsSomewhere, PartsFit, parts_octets, ItemsFit, items_octets, FitAt, octets_at, KidsFit, resolved_octets}

pub some_same : {A : Type 0} {x y : A} → Some x ≡ Some y → x ≡ y
some_same e = cc

-- a node has identifier and length round its contents, or nothing
pub wrapped_open : (tag : Option ℕ) (f : Form) (octets : List ℕ) → is_open tag f ≡ true → wrapped tag f octets ≡ octets
wrapped_open tag f octets is = ap (λ b. cond b octets (headed (identifier tag f) octets)) is

pub wrapped_closed : (tag : Option ℕ) (f : Form) (octets : List ℕ) → is_open tag f ≡ false → wrapped tag f octets ≡ headed (identifier tag f) octets
wrapped_closed tag f octets is = ap (λ b. cond b octets (headed (identifier tag f) octets)) is

-- the number of an item
pub number_at : (numbers : List ℤ) (i : ℕ) (d : ℤ) → i < length numbers → number_in (slice_get numbers i) ≡ get_or numbers i d
number_at [] i d less = absurd (omega (arith, less))
number_at (z ∷ numbers) zero d less = refl
number_at (z ∷ numbers) (suc i) d less = number_at numbers i d (omega (arith, less))

module _ (M : List Assignment) where
  octets_found : (tags : List (Option ℕ)) (o : Option (List ComponentPlace)) (vs : Roses ValueLabel)
      → elim o as (λ _. List ℕ) [ None ↦ [] | Some ps ↦ each_der M (tagged tags ps) vs ] ≡ octets_at M tags o (list_of vs)
  octets_found tags None vs = refl
  octets_found tags (Some ps) vs = ap (each_der M (tagged tags ps)) (sym (roses_of-list_of vs))

  pub der_resolved : (tag : Option ℕ) (t : Rose TypeLabel) (v : Rose ValueLabel) → der M tag t v ≡ wrapped tag (label_of (resolve M t)).form (resolved_octets M (resolve M t) v)
  unfolding der
  der_resolved tag t (node l vs) =
      let u = resolve M t in
      ap (λ octets. wrapped tag (label_of u).form (contents (label_of u).form l octets)) (octets_found (tags_of l (length_all vs)) (places u l (length_all vs)) vs
      ∙ ap (λ n. octets_at M (tags_of l n) (places u l n) (list_of vs)) (sym (length-list_of vs)))

  fit_at : (depth : ℕ) (o : Option (List ComponentPlace)) (vs : List (Rose ValueLabel)) → FitPlaces M depth o (roses_of vs) → FitAt M depth o vs
  fit_at depth None vs h = h
  fit_at depth (Some ps) vs h = h

  pub kids_fit : (t : Rose TypeLabel) (v : Rose ValueLabel) → FitsSomewhere M t v → KidsFit M (resolve M t) v
  kids_fit t v h = (h.0, fit_at h.0 (places (resolve M t) (label_of v) (length (kids_of v))) (kids_of v) (fits-kids M h.0 t v h.1).1)

  -- SEQUENCE
  module _ (depth : ℕ) where
    put_some : (p : ComponentPlace) (o : Option (List ComponentPlace)) (v : Rose ValueLabel) (vs : List (Rose ValueLabel)) → FitAt M depth (put_first p o) (v ∷ vs) → FitsSomewhere M p.type v × FitAt M depth o vs
    unfolding FitEach
    put_some p None v vs h = absurd h
    put_some p (Some ps) v vs h = ((below p.role depth, h.0.0), h.1)

    put_none : (p : ComponentPlace) (o : Option (List ComponentPlace)) → FitAt M depth (put_first p o) [] → ⊥
    unfolding FitEach
    put_none p None h = h
    put_none p (Some ps) h = h

    put_octets : (tag : Option ℕ) (tags : List (Option ℕ)) (p : ComponentPlace) (o : Option (List ComponentPlace)) (v : Rose ValueLabel) (vs : List (Rose ValueLabel)) → FitAt M depth (put_first p o) (v ∷ vs)
        → octets_at M (tag ∷ tags) (put_first p o) (v ∷ vs) ≡ der M tag p.type v ++ octets_at M tags o vs
    unfolding each_der
    put_octets tag tags p None v vs h = absurd h
    put_octets tag tags p (Some ps) v vs h = refl

    when_fits : (b : Bool) (o : Option (List ComponentPlace)) (vs : List (Rose ValueLabel)) → FitAt M depth (cond b o None) vs → (b ≡ true) × FitAt M depth o vs
    when_fits true o vs h = (refl, h)
    when_fits false o vs h = absurd h

    sequence_kids : (l : TypeLabel) (i : ℕ) (parts : List Component) (ts : List (Rose TypeLabel)) (flags : List Bool) (vs : List (Rose ValueLabel)) → FitAt M depth (present_from l i parts ts flags) vs
        → PartsFit M ts flags vs × (octets_at M (tags_from i flags) (present_from l i parts ts flags) vs ≡ parts_octets M i ts flags vs)
    unfolding FitEach each_der
    sequence_kids l i [] [] [] [] h = (tt, refl)
    sequence_kids l i [] (t ∷ ts) [] [] h = (tt, refl)
    sequence_kids l i [] ts [] (v ∷ vs) h = absurd h
    sequence_kids l i [] ts (f ∷ fs) vs h = absurd h
    sequence_kids l i (c ∷ cs) [] [] vs h = absurd h
    sequence_kids l i (c ∷ cs) [] (f ∷ fs) vs h = absurd h
    sequence_kids l i (c ∷ cs) (t ∷ ts) [] vs h = absurd h
    sequence_kids l i (c ∷ cs) (t ∷ ts) (true ∷ fs) [] h = absurd (put_none (place_of l i c t) (present_from l (i + 1) cs ts fs) h)
    sequence_kids l i (c ∷ cs) (t ∷ ts) (true ∷ fs) (v ∷ vs) h =
        let k = put_some (place_of l i c t) (present_from l (i + 1) cs ts fs) v vs h in
        let r = sequence_kids l (i + 1) cs ts fs vs k.1 in
        ((k.0, r.0), put_octets (Some i) (tags_from (i + 1) fs) (place_of l i c t) (present_from l (i + 1) cs ts fs) v vs h ∙ ap (λ m. der M (Some i) t v ++ m) r.1)
    sequence_kids l i (c ∷ cs) (t ∷ ts) (false ∷ fs) vs h =
        let k = when_fits c.optional (present_from l (i + 1) cs ts fs) vs h in
        let r = sequence_kids l (i + 1) cs ts fs vs k.1 in
        (r.0, ap (λ b. octets_at M (tags_from (i + 1) fs) (cond b (present_from l (i + 1) cs ts fs) None) vs) k.0 ∙ r.1)

    sequence_form : (l : TypeLabel) (ts : List (Rose TypeLabel)) (f : Form) (flags : List Bool) (n : ℕ) (vs : List (Rose ValueLabel)) → FitAt M depth (places_in l ts f (value.Sequence flags) n) vs
        → PartsFit M ts flags vs × (octets_at M (tags_from 0 flags) (places_in l ts f (value.Sequence flags) n) vs ≡ parts_octets M 0 ts flags vs)
    sequence_form l ts form.Bool flags n vs h = absurd h
    sequence_form l ts (form.Int least greatest) flags n vs h = absurd h
    sequence_form l ts (form.Numbers numbers) flags n vs h = absurd h
    sequence_form l ts (form.Words identifiers words) flags n vs h = absurd h
    sequence_form l ts (form.Order identifiers) flags n vs h = absurd h
    sequence_form l ts (form.Utf8 least most class) flags n vs h = absurd h
    sequence_form l ts (form.Sequence parts) flags n vs h = sequence_kids l 0 parts ts flags vs h
    sequence_form l ts (form.Choice parts) flags n vs h = absurd h
    sequence_form l ts (form.SequenceOf part least most) flags n vs h = absurd h
    sequence_form l ts (form.Ref to) flags n vs h = absurd h

    -- CHOICE
    pub record ChoiceKid (i : ℕ) (ts : List (Rose TypeLabel)) (vs : List (Rose ValueLabel)) (octets : List ℕ) : Type 0 where
      pub type : Rose TypeLabel
      pub type_is : slice_get ts i ≡ Some type
      pub kid : Rose ValueLabel
      pub kids_are : vs ≡ kid ∷ []
      pub fits : FitsSomewhere M type kid
      pub octets_are : octets ≡ der M (Some i) type kid

    choice_kid : (l : TypeLabel) (i : ℕ) (o : Option Component) (ts : List (Rose TypeLabel)) (q : Option (Rose TypeLabel)) (vs : List (Rose ValueLabel)) → slice_get ts i ≡ q
        → FitAt M depth (alone (place_at l i o q)) vs → ChoiceKid i ts vs (octets_at M (Some i ∷ []) (alone (place_at l i o q)) vs)
    unfolding FitEach each_der
    choice_kid l i None ts None vs is h = absurd h
    choice_kid l i None ts (Some t) vs is h = absurd h
    choice_kid l i (Some part) ts None vs is h = absurd h
    choice_kid l i (Some part) ts (Some t) [] is h = absurd h
    choice_kid l i (Some part) ts (Some t) (v ∷ []) is h =
        record { type = t; type_is = is; kid = v; kids_are = refl; fits = (below (place_of l i part t).role depth, h.0.0); octets_are = append-nil (der M (Some i) t v) }
    choice_kid l i (Some part) ts (Some t) (v ∷ w ∷ ws) is h = absurd h.1

    choice_form : (l : TypeLabel) (ts : List (Rose TypeLabel)) (f : Form) (i n : ℕ) (vs : List (Rose ValueLabel)) → FitAt M depth (places_in l ts f (value.Choice i) n) vs
        → ChoiceKid i ts vs (octets_at M (Some i ∷ []) (places_in l ts f (value.Choice i) n) vs)
    choice_form l ts form.Bool i n vs h = absurd h
    choice_form l ts (form.Int least greatest) i n vs h = absurd h
    choice_form l ts (form.Numbers numbers) i n vs h = absurd h
    choice_form l ts (form.Words identifiers words) i n vs h = absurd h
    choice_form l ts (form.Order identifiers) i n vs h = absurd h
    choice_form l ts (form.Utf8 least most class) i n vs h = absurd h
    choice_form l ts (form.Sequence parts) i n vs h = absurd h
    choice_form l ts (form.Choice parts) i n vs h = choice_kid l i (slice_get parts i) ts (slice_get ts i) vs refl h
    choice_form l ts (form.SequenceOf part least most) i n vs h = absurd h
    choice_form l ts (form.Ref to) i n vs h = absurd h

    -- SEQUENCE OF
    copies_fit : (p : ComponentPlace) (vs : List (Rose ValueLabel)) → FitEach M depth (replicate (length vs) p) (roses_of vs) → ItemsFit M p.type vs
    unfolding FitEach
    copies_fit p [] h = tt
    copies_fit p (v ∷ vs) h = ((below p.role depth, h.0.0), copies_fit p vs h.1)

    copies_octets : (p : ComponentPlace) (vs : List (Rose ValueLabel)) → each_der M (tagged (replicate (length vs) None) (replicate (length vs) p)) (roses_of vs) ≡ items_octets M p.type vs
    unfolding each_der
    copies_octets p [] = refl
    copies_octets p (v ∷ vs) = ap (λ octets. der M None p.type v ++ octets) (copies_octets p vs)

    pub record ListKids (ts : List (Rose TypeLabel)) (vs : List (Rose ValueLabel)) (octets : List ℕ) : Type 0 where
      pub type : Rose TypeLabel
      pub type_is : slice_get ts 0 ≡ Some type
      pub fit : ItemsFit M type vs
      pub octets_are : octets ≡ items_octets M type vs

    list_kids : (sized : Bool) (l : TypeLabel) (part : Component) (ts : List (Rose TypeLabel)) (q : Option (Rose TypeLabel)) (vs : List (Rose ValueLabel)) → slice_get ts 0 ≡ q
        → FitAt M depth (cond sized (repeated (length vs) (place_at l 0 (Some part) q)) None) vs
        → ListKids ts vs (octets_at M (replicate (length vs) None) (cond sized (repeated (length vs) (place_at l 0 (Some part) q)) None) vs)
    list_kids false l part ts q vs is h = absurd h
    list_kids true l part ts None vs is h = absurd h
    list_kids true l part ts (Some t) vs is h =
        record { type = t; type_is = is; fit = copies_fit (place_of l 0 part t) vs h; octets_are = copies_octets (place_of l 0 part t) vs }

    list_form : (l : TypeLabel) (ts : List (Rose TypeLabel)) (f : Form) (vs : List (Rose ValueLabel)) → FitAt M depth (places_in l ts f value.SequenceOf (length vs)) vs
        → ListKids ts vs (octets_at M (replicate (length vs) None) (places_in l ts f value.SequenceOf (length vs)) vs)
    list_form l ts form.Bool vs h = absurd h
    list_form l ts (form.Int least greatest) vs h = absurd h
    list_form l ts (form.Numbers numbers) vs h = absurd h
    list_form l ts (form.Words identifiers words) vs h = absurd h
    list_form l ts (form.Order identifiers) vs h = absurd h
    list_form l ts (form.Utf8 least most class) vs h = absurd h
    list_form l ts (form.Sequence parts) vs h = absurd h
    list_form l ts (form.Choice parts) vs h = absurd h
    list_form l ts (form.SequenceOf part least most) vs h = list_kids (leb least (length vs) && is_at_most (length vs) most) l part ts (slice_get ts 0) vs refl h
    list_form l ts (form.Ref to) vs h = absurd h

    -- ENUMERATED
    when_none : (b : Bool) (vs : List (Rose ValueLabel)) → FitAt M depth (none_if b) vs → b ≡ true
    when_none true vs h = refl
    when_none false vs h = absurd h

    enum_form : (l : TypeLabel) (ts : List (Rose TypeLabel)) (f : Form) (i n : ℕ) (vs : List (Rose ValueLabel)) → FitAt M depth (places_in l ts f (value.Enum i) n) vs → HasItem f i
    enum_form l ts form.Bool i n vs h = tt
    enum_form l ts (form.Int least greatest) i n vs h = tt
    enum_form l ts (form.Numbers numbers) i n vs h = ltb-true i (length numbers) (when_none (ltb i (length numbers)) vs h)
    enum_form l ts (form.Words identifiers words) i n vs h = tt
    enum_form l ts (form.Order identifiers) i n vs h = tt
    enum_form l ts (form.Utf8 least most class) i n vs h = tt
    enum_form l ts (form.Sequence parts) i n vs h = tt
    enum_form l ts (form.Choice parts) i n vs h = tt
    enum_form l ts (form.SequenceOf part least most) i n vs h = tt
    enum_form l ts (form.Ref to) i n vs h = tt

  -- BY THE LABEL of the value
  module _ (u : Rose TypeLabel) (v : Rose ValueLabel) where
    abbrev fit_as : ValueLabel → ℕ → Type 0
    fit_as w depth = FitAt M depth (places u w (length (kids_of v))) (kids_of v)

    abbrev octets_as : ValueLabel → List ℕ
    octets_as w = octets_at M (tags_of w (length (kids_of v))) (places u w (length (kids_of v))) (kids_of v)

    fits_as : (w : ValueLabel) → label_of v ≡ w → (h : KidsFit M u v) → fit_as w h.0
    fits_as w is h = subst (λ x. fit_as x h.0) is h.1

    pub seen_as : (w : ValueLabel) → label_of v ≡ w → resolved_octets M u v ≡ contents (label_of u).form w (octets_as w)
    seen_as w is = ap (λ x. contents (label_of u).form x (octets_as x)) is

    pub sequence_here : (flags : List Bool) → label_of v ≡ value.Sequence flags → KidsFit M u v → PartsFit M (kids_of u) flags (kids_of v)
    sequence_here flags is h = (sequence_form h.0 (label_of u) (kids_of u) (label_of u).form flags (length (kids_of v)) (kids_of v) (fits_as (value.Sequence flags) is h)).0

    pub sequence_octets : (flags : List Bool) → label_of v ≡ value.Sequence flags → KidsFit M u v → resolved_octets M u v ≡ parts_octets M 0 (kids_of u) flags (kids_of v)
    sequence_octets flags is h =
        seen_as (value.Sequence flags) is ∙ (sequence_form h.0 (label_of u) (kids_of u) (label_of u).form flags (length (kids_of v)) (kids_of v) (fits_as (value.Sequence flags) is h)).1

    choice_at : (i : ℕ) → label_of v ≡ value.Choice i → (h : KidsFit M u v) → ChoiceKid h.0 i (kids_of u) (kids_of v) (octets_as (value.Choice i))
    choice_at i is h = choice_form h.0 (label_of u) (kids_of u) (label_of u).form i (length (kids_of v)) (kids_of v) (fits_as (value.Choice i) is h)

    pub choice_within : (i : ℕ) → label_of v ≡ value.Choice i → KidsFit M u v → (i < length (kids_of u)) × (0 < length (kids_of v))
    choice_within i is h = let k = choice_at i is h in (slice_get_within (kids_of u) i k.type k.type_is, omega (arith, ap length k.kids_are))

    pub choice_here : (i : ℕ) (t : Rose TypeLabel) (w : Rose ValueLabel) → label_of v ≡ value.Choice i → KidsFit M u v → slice_get (kids_of u) i ≡ Some t → slice_get (kids_of v) 0 ≡ Some w
        → FitsSomewhere M t w × (resolved_octets M u v ≡ der M (Some i) t w)
    choice_here i t w is h type_is kid_is =
        let k = choice_at i is h in
        let a : k.type ≡ t = some_same (sym k.type_is ∙ type_is) in
        let b : k.kid ≡ w = some_same (sym (ap (λ vs. slice_get vs 0) k.kids_are) ∙ kid_is) in (
          subst (λ x. FitsSomewhere M t x) b (subst (λ x. FitsSomewhere M x k.kid) a k.fits),
          seen_as (value.Choice i) is ∙ k.octets_are ∙ ap (λ x. der M (Some i) x k.kid) a ∙ ap (λ x. der M (Some i) t x) b,
        )

    list_at : label_of v ≡ value.SequenceOf → (h : KidsFit M u v) → ListKids h.0 (kids_of u) (kids_of v) (octets_as value.SequenceOf)
    list_at is h = list_form h.0 (label_of u) (kids_of u) (label_of u).form (kids_of v) (fits_as value.SequenceOf is h)

    pub list_within : label_of v ≡ value.SequenceOf → KidsFit M u v → 0 < length (kids_of u)
    list_within is h = let k = list_at is h in slice_get_within (kids_of u) 0 k.type k.type_is

    pub list_here : (t : Rose TypeLabel) → label_of v ≡ value.SequenceOf → KidsFit M u v → slice_get (kids_of u) 0 ≡ Some t
        → ItemsFit M t (kids_of v) × (resolved_octets M u v ≡ items_octets M t (kids_of v))
    list_here t is h type_is =
        let k = list_at is h in
        let a : k.type ≡ t = some_same (sym k.type_is ∙ type_is) in
        (subst (λ x. ItemsFit M x (kids_of v)) a k.fit, seen_as value.SequenceOf is ∙ k.octets_are ∙ ap (λ x. items_octets M x (kids_of v)) a)

    pub enum_here : (i : ℕ) → label_of v ≡ value.Enum i → KidsFit M u v → HasItem (label_of u).form i
    enum_here i is h = enum_form h.0 (label_of u) (kids_of u) (label_of u).form i (length (kids_of v)) (kids_of v) (fits_as (value.Enum i) is h)

-- THE ROOT
module _ (M : List Assignment) (v : Rose ValueLabel) where
  abbrev IfBody : Option Assignment → Type 0
  IfBody None = ⊥
  IfBody (Some a) = FitsAt M 1 a.body v

  within : (t : ℕ) (o : Option Assignment) → slice_get M t ≡ o → IfBody o → t < length M
  within t None is h = absurd h
  within t (Some a) is h = slice_get_within M t a is

  pub is_assigned : (t : ℕ) → In M t v → t < length M
  is_assigned t h = within t (slice_get M t) refl h.0

  body_fits : (o : Option Assignment) (a : Assignment) → o ≡ Some a → IfBody o → FitsAt M 1 a.body v
  body_fits None a is h = absurd h
  body_fits (Some b) a is h = let same : b ≡ a = cc in subst (λ x. FitsAt M 1 x.body v) same h

  pub root_fits : (t : ℕ) (a : Assignment) → slice_get M t ≡ Some a → In M t v → FitsSomewhere M a.body v
  root_fits t a is h = (1, body_fits (slice_get M t) a is h.0)

  pub root_octets : (t : ℕ) (a : Assignment) → slice_get M t ≡ Some a → der M None a.body v ≡ distinguished M t v
  root_octets t a is = ap (λ (o : Option Assignment). elim o as (λ _. List ℕ) [ None ↦ [] | Some b ↦ der M None b.body v ]) (sym is)
