-- The kids of a value that fits, by the form of its type.
use Rattle.std.proofs.Common.{◌≡◌, ℕ, zero, suc, ◌+◌, ◌-◌, ◌<◌, ◌≤◌, Bool, true, false, cond, leb, ◌&&◌, Option, Some, None, List, [], ◌∷◌, ◌++◌, length, get_or, drop, refl, sym, ap, ◌∙◌, subst, arith}
use Rattle.std.specs.Prelude.{map, replicate, slice_get, ℤ}
use Rattle.std.proofs.lemmas.List.{drop_more, append-nil}
use Rattle.std.proofs.lemmas.Option.{slice_get_within}
use Rattle.base_trees.specs.Rose.{Rose, node, Roses, none, more, roses_of, list_of, label_of, kids_of, length_all}
use Rattle.base_trees.proofs.Roses.{length-list_of}
use Rattle.simple_types.specs.declared.labels.ValueLabel.{ValueLabel}
use Rattle.simple_types.specs.declared.labels.ValueLabel.TheVariants as value
use Rattle.simple_types.specs.declared.simples.Class.{Class}
use Rattle.simple_types.specs.Lexical.{is_at_most}
use Rattle.asn_types.specs.declared.modules.Assignment.{Assignment}
use Rattle.asn_types.specs.declared.types.Component.{Component}
use Rattle.asn_types.specs.declared.types.Form.{Form}
use Rattle.asn_types.specs.declared.types.Form.TheVariants as form
use Rattle.asn_types.specs.declared.types.TypeLabel.{TypeLabel}
use Rattle.asn_types.specs.Refs.{resolve}
use Rattle.asn_values.specs.Values.{ComponentPlace, place_of, put_first, present_from, place_at, alone, repeated, places_in, places, below, FitsAt, FitEach, In}
use Rattle.asn_values.specs.Private.Placing.{FitPlaces}
use Rattle.asn_values.proofs.Counting.{fits-kids, drop-past}
use Rattle.per_fields.specs.Codec.{AllOf}
use Rattle.per_fields.specs.Fields.{Writer, then_bits, in_turn, number_bits, whole_bits, counted_bits, list_bits}
use Rattle.per_fields.specs.Encoding.{octet_writer, flag_bits, node_bits, per, each_per, completed, complete_by}
use Rattle.per_encode.specs.Private.Kids.{chosen, types_of, FitsSomewhere, AllFit, writers, FitAt, writers_at, KidsFit, resolved_bits}

put_first-some : (p : ComponentPlace) (o : Option (List ComponentPlace)) (ps : List ComponentPlace) → put_first p o ≡ Some ps → (qs : List ComponentPlace) × (o ≡ Some qs) × (ps ≡ p ∷ qs)
put_first-some p None ps is = absurd cc
put_first-some p (Some qs) ps is = (qs, refl, cc)

cond-some : (b : Bool) (o : Option (List ComponentPlace)) (ps : List ComponentPlace) → cond b o None ≡ Some ps → o ≡ Some ps
cond-some true o ps is = is
cond-some false o ps is = absurd cc

pub both : (a b : Bool) → (a && b) ≡ true → (a ≡ true) × (b ≡ true)
both true true is = (refl, refl)
both true false is = absurd cc
both false b is = absurd cc

some_same : {A : Type 0} {x y : A} → Some x ≡ Some y → x ≡ y
some_same e = cc

no_types : (ts : List (Rose TypeLabel)) → [] ≡ chosen ts []
no_types [] = refl
no_types (t ∷ ts) = refl

-- the places of those that are present are of their types
record Chosen (parts : List Component) (ts : List (Rose TypeLabel)) (flags : List Bool) (ps : List ComponentPlace) : Type 0 where
  counted : length parts ≡ length flags
  typed : length flags ≤ length ts
  are : types_of ps ≡ chosen ts flags

present-chosen : (l : TypeLabel) (i : ℕ) (parts : List Component) (ts : List (Rose TypeLabel)) (flags : List Bool) (ps : List ComponentPlace)
    → present_from l i parts ts flags ≡ Some ps → Chosen parts ts flags ps
present-chosen l i [] ts [] ps is = let e : ps ≡ [] = cc in record { counted = refl; typed = omega arith; are = ap types_of e ∙ no_types ts }
present-chosen l i [] ts (f ∷ fs) ps is = absurd cc
present-chosen l i (c ∷ cs) [] [] ps is = absurd cc
present-chosen l i (c ∷ cs) [] (f ∷ fs) ps is = absurd cc
present-chosen l i (c ∷ cs) (t ∷ ts) [] ps is = absurd cc
present-chosen l i (c ∷ cs) (t ∷ ts) (true ∷ fs) ps is =
    let first = put_first-some (place_of l i c t) (present_from l (i + 1) cs ts fs) ps is in
    let rest = present-chosen l (i + 1) cs ts fs first.0 first.1 in
    record { counted = ap suc rest.counted; typed = omega (arith, rest.typed); are = ap types_of first.2 ∙ ap (λ us. t ∷ us) rest.are }
present-chosen l i (c ∷ cs) (t ∷ ts) (false ∷ fs) ps is =
    let rest = present-chosen l (i + 1) cs ts fs ps (cond-some c.optional (present_from l (i + 1) cs ts fs) ps is) in
    record { counted = ap suc rest.counted; typed = omega (arith, rest.typed); are = rest.are }

module _ (aligned : Bool) (M : List Assignment) where
  -- ALL KIDS, by their types
  each_fit : (depth : ℕ) (ps : List ComponentPlace) (vs : List (Rose ValueLabel)) → FitEach M depth ps (roses_of vs) → AllFit M (types_of ps) vs
  unfolding FitEach
  each_fit depth [] [] h = tt
  each_fit depth [] (v ∷ vs) h = absurd h
  each_fit depth (p ∷ ps) [] h = absurd h
  each_fit depth (p ∷ ps) (v ∷ vs) h = ((below p.role depth, h.0.0), each_fit depth ps vs h.1)

  fit_at : (depth : ℕ) (o : Option (List ComponentPlace)) (vs : List (Rose ValueLabel)) → FitPlaces M depth o (roses_of vs) → FitAt M o vs
  fit_at depth None vs h = h
  fit_at depth (Some ps) vs h = each_fit depth ps vs h

  pub kids_fit : (t : Rose TypeLabel) (v : Rose ValueLabel) → FitsSomewhere M t v → KidsFit M (resolve M t) v
  kids_fit t v h = fit_at h.0 (places (resolve M t) (label_of v) (length (kids_of v))) (kids_of v) (fits-kids M h.0 t v h.1).1

  writers-each : (ps : List ComponentPlace) (vs : Roses ValueLabel) → each_per aligned M ps vs ≡ writers aligned M (types_of ps) (list_of vs)
  unfolding each_per
  writers-each [] none = refl
  writers-each [] (more v vs) = refl
  writers-each (p ∷ ps) none = refl
  writers-each (p ∷ ps) (more v vs) = ap (λ ws. per aligned M p.type v ∷ ws) (writers-each ps vs)

  writers-found : (o : Option (List ComponentPlace)) (vs : Roses ValueLabel) → elim o as (λ _. List Writer) [ None ↦ [] | Some ps ↦ each_per aligned M ps vs ] ≡ writers_at aligned M o (list_of vs)
  writers-found None vs = refl
  writers-found (Some ps) vs = writers-each ps vs

  pub per-resolved : (t : Rose TypeLabel) (v : Rose ValueLabel) (p : ℕ) → per aligned M t v p ≡ resolved_bits aligned M (resolve M t) v p
  unfolding per
  per-resolved t (node l vs) p =
      let u = resolve M t in
      ap (λ ws. node_bits aligned (label_of u).form l ws p) (writers-found (places u l (length_all vs)) vs
      ∙ ap (λ n. writers_at aligned M (places u l n) (list_of vs)) (sym (length-list_of vs)))

  -- BY THE FORM of the type and the label of the value
  module _ (u : Rose TypeLabel) (v : Rose ValueLabel) (f : Form) (w : ValueLabel) (form_is : (label_of u).form ≡ f) (label_is : label_of v ≡ w) where
    abbrev found : Option (List ComponentPlace)
    found = places_in (label_of u) (kids_of u) f w (length (kids_of v))

    found_is : places u (label_of v) (length (kids_of v)) ≡ found
    found_is =
        ap (λ g. places_in (label_of u) (kids_of u) g (label_of v) (length (kids_of v))) form_is
        ∙ ap (λ x. places_in (label_of u) (kids_of u) f x (length (kids_of v))) label_is

    pub fit_found : KidsFit M u v → FitAt M found (kids_of v)
    fit_found h = subst (λ o. FitAt M o (kids_of v)) found_is h

    pub bits_found : (p : ℕ) → resolved_bits aligned M u v p ≡ node_bits aligned f w (writers_at aligned M found (kids_of v)) p
    bits_found p =
        ap (λ g. node_bits aligned g (label_of v) (writers_at aligned M (places u (label_of v) (length (kids_of v))) (kids_of v)) p) form_is
        ∙ ap (λ x. node_bits aligned f x (writers_at aligned M (places u (label_of v) (length (kids_of v))) (kids_of v)) p) label_is
        ∙ ap (λ o. node_bits aligned f w (writers_at aligned M o (kids_of v)) p) found_is

  -- what is written of a value of each form
  module _ (u : Rose TypeLabel) (v : Rose ValueLabel) where
    abbrev pub Is : Form → ValueLabel → Type 0
    Is f w = ((label_of u).form ≡ f) × (label_of v ≡ w)

    pub bool-bits : (b : Bool) → Is form.Bool (value.Bool b) → (p : ℕ) → resolved_bits aligned M u v p ≡ b ∷ []
    unfolding node_bits
    bool-bits b is p = bits_found u v form.Bool (value.Bool b) is.0 is.1 p

    pub int-bits : (least greatest : Option ℤ) (z : ℤ) → Is (form.Int least greatest) (value.Int z) → (p : ℕ) → resolved_bits aligned M u v p ≡ whole_bits aligned least greatest z p
    unfolding node_bits
    int-bits least greatest z is p = bits_found u v (form.Int least greatest) (value.Int z) is.0 is.1 p

    pub number-bits : (numbers : List ℤ) (i : ℕ) → Is (form.Numbers numbers) (value.Enum i) → (p : ℕ) → resolved_bits aligned M u v p ≡ number_bits aligned (length numbers - 1) i p
    unfolding node_bits
    number-bits numbers i is p = bits_found u v (form.Numbers numbers) (value.Enum i) is.0 is.1 p

    pub word-bits : (identifiers words : List (List ℕ)) (i : ℕ) → Is (form.Words identifiers words) (value.Enum i) → (p : ℕ) → resolved_bits aligned M u v p ≡ number_bits aligned (length words - 1) i p
    unfolding node_bits
    word-bits identifiers words i is p = bits_found u v (form.Words identifiers words) (value.Enum i) is.0 is.1 p

    pub order-bits : (identifiers : List (List ℕ)) (i : ℕ) → Is (form.Order identifiers) (value.Enum i) → (p : ℕ) → resolved_bits aligned M u v p ≡ number_bits aligned (length identifiers - 1) i p
    unfolding node_bits
    order-bits identifiers i is p = bits_found u v (form.Order identifiers) (value.Enum i) is.0 is.1 p

    pub text-bits : (least : ℕ) (most : Option ℕ) (class : Class) (text : List ℕ) → Is (form.Utf8 least most class) (value.Utf8 text) → (p : ℕ) → resolved_bits aligned M u v p ≡ counted_bits aligned (map octet_writer text) p
    unfolding node_bits
    text-bits least most class text is p = bits_found u v (form.Utf8 least most class) (value.Utf8 text) is.0 is.1 p

  -- SEQUENCE
  pub record SequenceFits (l : TypeLabel) (parts : List Component) (ts : List (Rose TypeLabel)) (flags : List Bool) (vs : List (Rose ValueLabel)) : Type 0 where
    pub counted : length parts ≡ length flags
    pub typed : length flags ≤ length ts
    pub fit : AllFit M (chosen ts flags) vs
    pub written : writers_at aligned M (present_from l 0 parts ts flags) vs ≡ writers aligned M (chosen ts flags) vs

  sequence_at : (l : TypeLabel) (parts : List Component) (ts : List (Rose TypeLabel)) (flags : List Bool) (vs : List (Rose ValueLabel)) (o : Option (List ComponentPlace))
      → present_from l 0 parts ts flags ≡ o → FitAt M o vs → SequenceFits l parts ts flags vs
  sequence_at l parts ts flags vs None is h = absurd h
  sequence_at l parts ts flags vs (Some ps) is h =
      let c = present-chosen l 0 parts ts flags ps is in
      record {
        counted = c.counted;
        typed = c.typed;
        fit = subst (λ us. AllFit M us vs) c.are h;
        written = ap (λ o. writers_at aligned M o vs) is ∙ ap (λ us. writers aligned M us vs) c.are;
      }

  pub sequence_fits : (l : TypeLabel) (parts : List Component) (ts : List (Rose TypeLabel)) (flags : List Bool) (vs : List (Rose ValueLabel))
      → FitAt M (present_from l 0 parts ts flags) vs → SequenceFits l parts ts flags vs
  sequence_fits l parts ts flags vs h = sequence_at l parts ts flags vs (present_from l 0 parts ts flags) refl h

  pub sequence_here : (u : Rose TypeLabel) (v : Rose ValueLabel) (parts : List Component) (flags : List Bool) → Is u v (form.Sequence parts) (value.Sequence flags) → KidsFit M u v
      → SequenceFits (label_of u) parts (kids_of u) flags (kids_of v)
  sequence_here u v parts flags is h = sequence_fits (label_of u) parts (kids_of u) flags (kids_of v) (fit_found u v (form.Sequence parts) (value.Sequence flags) is.0 is.1 h)

  pub sequence-bits : (u : Rose TypeLabel) (v : Rose ValueLabel) (parts : List Component) (flags : List Bool) → Is u v (form.Sequence parts) (value.Sequence flags) → KidsFit M u v
      → (p : ℕ) → resolved_bits aligned M u v p ≡ then_bits (flag_bits parts flags) (in_turn (writers aligned M (chosen (kids_of u) flags) (kids_of v))) p
  unfolding node_bits
  sequence-bits u v parts flags is h p =
      bits_found u v (form.Sequence parts) (value.Sequence flags) is.0 is.1 p ∙ ap (λ ws. then_bits (flag_bits parts flags) (in_turn ws) p) (sequence_here u v parts flags is h).written

  -- CHOICE
  pub record ChoiceFits (l : TypeLabel) (i : ℕ) (o : Option Component) (q : Option (Rose TypeLabel)) (vs : List (Rose ValueLabel)) : Type 0 where
    pub part : Component
    pub part_is : o ≡ Some part
    pub type : Rose TypeLabel
    pub type_is : q ≡ Some type
    pub kid : Rose ValueLabel
    pub kids_are : vs ≡ kid ∷ []
    pub fits : FitsSomewhere M type kid
    pub written : writers_at aligned M (alone (place_at l i o q)) vs ≡ per aligned M type kid ∷ []

  pub choice_fits : (l : TypeLabel) (i : ℕ) (o : Option Component) (q : Option (Rose TypeLabel)) (vs : List (Rose ValueLabel)) → FitAt M (alone (place_at l i o q)) vs → ChoiceFits l i o q vs
  choice_fits l i None None vs h = absurd h
  choice_fits l i None (Some t) vs h = absurd h
  choice_fits l i (Some part) None vs h = absurd h
  choice_fits l i (Some part) (Some t) [] h = absurd h
  choice_fits l i (Some part) (Some t) (v ∷ []) h =
      record { part = part; part_is = refl; type = t; type_is = refl; kid = v; kids_are = refl; fits = h.0; written = refl }
  choice_fits l i (Some part) (Some t) (v ∷ w ∷ ws) h = absurd h.1

  abbrev ChoiceHere : Rose TypeLabel → Rose ValueLabel → List Component → ℕ → Type 0
  ChoiceHere u v parts i = ChoiceFits (label_of u) i (slice_get parts i) (slice_get (kids_of u) i) (kids_of v)

  pub choice_here : (u : Rose TypeLabel) (v : Rose ValueLabel) (parts : List Component) (i : ℕ) → Is u v (form.Choice parts) (value.Choice i) → KidsFit M u v → ChoiceHere u v parts i
  choice_here u v parts i is h = choice_fits (label_of u) i (slice_get parts i) (slice_get (kids_of u) i) (kids_of v) (fit_found u v (form.Choice parts) (value.Choice i) is.0 is.1 h)

  -- the alternative and the kid, as code finds them
  pub choice_kid : (u : Rose TypeLabel) (v : Rose ValueLabel) (parts : List Component) (i : ℕ) (t : Rose TypeLabel) (w : Rose ValueLabel) → ChoiceHere u v parts i
      → slice_get (kids_of u) i ≡ Some t → slice_get (kids_of v) 0 ≡ Some w → FitsSomewhere M t w × (writers_at aligned M (alone (place_at (label_of u) i (slice_get parts i) (slice_get (kids_of u) i))) (kids_of v) ≡ per aligned M t w ∷ [])
  choice_kid u v parts i t w h type_is kid_is =
      let a : h.type ≡ t = some_same (sym h.type_is ∙ type_is) in
      let b : h.kid ≡ w = some_same (sym (ap (λ vs. slice_get vs 0) h.kids_are) ∙ kid_is) in
      (subst (λ x. FitsSomewhere M t x) b (subst (λ x. FitsSomewhere M x h.kid) a h.fits), h.written ∙ ap (λ x. per aligned M x h.kid ∷ []) a ∙ ap (λ x. per aligned M t x ∷ []) b)

  pub choice-bits : (u : Rose TypeLabel) (v : Rose ValueLabel) (parts : List Component) (i : ℕ) (t : Rose TypeLabel) (w : Rose ValueLabel) → Is u v (form.Choice parts) (value.Choice i) → KidsFit M u v
      → slice_get (kids_of u) i ≡ Some t → slice_get (kids_of v) 0 ≡ Some w → (p : ℕ) → resolved_bits aligned M u v p ≡ then_bits (number_bits aligned (length parts - 1) i p) (per aligned M t w) p
  unfolding node_bits in_turn
  choice-bits u v parts i t w is h type_is kid_is p =
      let k = choice_kid u v parts i t w (choice_here u v parts i is h) type_is kid_is in
      let n = number_bits aligned (length parts - 1) i p in
      bits_found u v (form.Choice parts) (value.Choice i) is.0 is.1 p ∙ ap (λ ws. then_bits n (in_turn ws) p) k.1 ∙ ap (λ bs. n ++ bs) (append-nil (per aligned M t w (p + length n)))

  -- SEQUENCE OF
  copies_fit : (p : ComponentPlace) (vs : List (Rose ValueLabel)) → AllFit M (types_of (replicate (length vs) p)) vs → AllOf (FitsSomewhere M p.type) vs
  copies_fit p [] h = tt
  copies_fit p (v ∷ vs) h = (h.0, copies_fit p vs h.1)

  copies_written : (p : ComponentPlace) (vs : List (Rose ValueLabel)) → writers aligned M (types_of (replicate (length vs) p)) vs ≡ map (per aligned M p.type) vs
  copies_written p [] = refl
  copies_written p (v ∷ vs) = ap (λ ws. per aligned M p.type v ∷ ws) (copies_written p vs)

  pub record ListFits (sized : Bool) (l : TypeLabel) (part : Component) (q : Option (Rose TypeLabel)) (vs : List (Rose ValueLabel)) : Type 0 where
    pub size : sized ≡ true
    pub type : Rose TypeLabel
    pub type_is : q ≡ Some type
    pub fit : AllOf (FitsSomewhere M type) vs
    pub written : writers_at aligned M (cond sized (repeated (length vs) (place_at l 0 (Some part) q)) None) vs ≡ map (per aligned M type) vs

  pub list_fits : (sized : Bool) (l : TypeLabel) (part : Component) (q : Option (Rose TypeLabel)) (vs : List (Rose ValueLabel))
      → FitAt M (cond sized (repeated (length vs) (place_at l 0 (Some part) q)) None) vs → ListFits sized l part q vs
  list_fits false l part q vs h = absurd h
  list_fits true l part None vs h = absurd h
  list_fits true l part (Some t) vs h =
      record { size = refl; type = t; type_is = refl; fit = copies_fit (place_of l 0 part t) vs h; written = copies_written (place_of l 0 part t) vs }

  abbrev ListHere : Rose TypeLabel → Rose ValueLabel → Component → ℕ → Option ℕ → Type 0
  ListHere u v part least most = ListFits (leb least (length (kids_of v)) && is_at_most (length (kids_of v)) most) (label_of u) part (slice_get (kids_of u) 0) (kids_of v)

  pub list_here : (u : Rose TypeLabel) (v : Rose ValueLabel) (part : Component) (least : ℕ) (most : Option ℕ) → Is u v (form.SequenceOf part least most) value.SequenceOf → KidsFit M u v → ListHere u v part least most
  list_here u v part least most is h =
      list_fits (leb least (length (kids_of v)) && is_at_most (length (kids_of v)) most) (label_of u) part (slice_get (kids_of u) 0) (kids_of v)
      (fit_found u v (form.SequenceOf part least most) value.SequenceOf is.0 is.1 h)

  pub list_item : (u : Rose TypeLabel) (v : Rose ValueLabel) (part : Component) (least : ℕ) (most : Option ℕ) (t : Rose TypeLabel) → ListHere u v part least most
      → slice_get (kids_of u) 0 ≡ Some t → AllOf (FitsSomewhere M t) (kids_of v)
  list_item u v part least most t h type_is = let a : h.type ≡ t = some_same (sym h.type_is ∙ type_is) in subst (λ x. AllOf (FitsSomewhere M x) (kids_of v)) a h.fit

  pub list-bits : (u : Rose TypeLabel) (v : Rose ValueLabel) (part : Component) (least : ℕ) (most : Option ℕ) (t : Rose TypeLabel) → Is u v (form.SequenceOf part least most) value.SequenceOf → KidsFit M u v
      → slice_get (kids_of u) 0 ≡ Some t → (p : ℕ) → resolved_bits aligned M u v p ≡ list_bits aligned least most (map (per aligned M t) (kids_of v)) p
  unfolding node_bits
  list-bits u v part least most t is h type_is p =
      let l = list_here u v part least most is h in
      let a : l.type ≡ t = some_same (sym l.type_is ∙ type_is) in
      bits_found u v (form.SequenceOf part least most) value.SequenceOf is.0 is.1 p ∙ ap (λ ws. list_bits aligned least most ws p) (l.written ∙ ap (λ x. map (per aligned M x) (kids_of v)) a)

-- items that fit, one by one
pub all_of-drop : {A : Type 0} (P : A → Type 0) (xs : List A) (i : ℕ) → AllOf P xs → AllOf P (drop i xs)
all_of-drop P xs zero h = h
all_of-drop P [] (suc i) h = h
all_of-drop P (x ∷ xs) (suc i) h = all_of-drop P xs i h.1

-- the first of what is left
pub left_first : {A : Type 0} (xs : List A) (i : ℕ) (x : A) → i < length xs → x ≡ get_or xs i x → drop i xs ≡ x ∷ drop (i + 1) xs
left_first xs i x less here = drop_more xs i x less ∙ ap (λ y. y ∷ drop (i + 1) xs) (sym here)

pub first_fits : {A : Type 0} (P : A → Type 0) (xs ys : List A) (x : A) → xs ≡ x ∷ ys → AllOf P xs → P x × AllOf P ys
first_fits P xs ys x is h = subst (AllOf P) is h

left_some : {A : Type 0} (xs : List A) (i : ℕ) → i < length xs → (x : A) × (drop i xs ≡ x ∷ drop (suc i) xs)
left_some [] i less = absurd (omega (arith, less))
left_some (x ∷ xs) zero less = (x, refl)
left_some (x ∷ xs) (suc i) less = left_some xs i (omega (arith, less))

-- of components, those from a number on
module _ (ts : List (Rose TypeLabel)) (flags : List Bool) (i : ℕ) (less : i < length flags) where
  pub left_absent : length flags ≤ length ts → get_or flags i false ≡ false → chosen (drop i ts) (drop i flags) ≡ chosen (drop (i + 1) ts) (drop (i + 1) flags)
  left_absent types off =
      let t = left_some ts i (omega (arith, less, types)) in
      let e : suc i ≡ i + 1 = omega arith in
      ap (λ us. chosen us (drop i flags)) (t.1 ∙ ap (λ j. t.0 ∷ drop j ts) e)
      ∙ ap (λ fs. chosen (t.0 ∷ drop (i + 1) ts) fs) (drop_more flags i false less ∙ ap (λ f. f ∷ drop (i + 1) flags) off)

  pub left_due : length flags ≤ length ts → get_or flags i false ≡ true → (t : Rose TypeLabel) × (chosen (drop i ts) (drop i flags) ≡ t ∷ chosen (drop (i + 1) ts) (drop (i + 1) flags))
  left_due types on =
      let t = left_some ts i (omega (arith, less, types)) in
      let e : suc i ≡ i + 1 = omega arith in (
        t.0,
        ap (λ us. chosen us (drop i flags)) (t.1 ∙ ap (λ j. t.0 ∷ drop j ts) e)
            ∙ ap (λ fs. chosen (t.0 ∷ drop (i + 1) ts) fs) (drop_more flags i false less ∙ ap (λ f. f ∷ drop (i + 1) flags) on),
      )

  pub left_present : (t : Rose TypeLabel) → i < length ts → t ≡ get_or ts i t → get_or flags i false ≡ true → chosen (drop i ts) (drop i flags) ≡ t ∷ chosen (drop (i + 1) ts) (drop (i + 1) flags)
  left_present t inside here on =
      ap (λ us. chosen us (drop i flags)) (left_first ts i t inside here)
      ∙ ap (λ fs. chosen (t ∷ drop (i + 1) ts) fs) (drop_more flags i false less ∙ ap (λ f. f ∷ drop (i + 1) flags) on)

module _ (aligned : Bool) (M : List Assignment) where
  pub kid_first : (t : Rose TypeLabel) (ts : List (Rose TypeLabel)) (vs ws : List (Rose ValueLabel)) (v : Rose ValueLabel) → vs ≡ v ∷ ws → AllFit M (t ∷ ts) vs → FitsSomewhere M t v × AllFit M ts ws
  kid_first t ts vs ws v is h = subst (AllFit M (t ∷ ts)) is h

  -- nothing is left
  pub none_left : (ts : List (Rose TypeLabel)) (flags : List Bool) (i : ℕ) (vs : List (Rose ValueLabel)) → length flags ≤ i → writers aligned M (chosen (drop i ts) (drop i flags)) vs ≡ []
  none_left ts flags i vs past = ap (λ fs. writers aligned M (chosen (drop i ts) fs) vs) (drop-past i flags past) ∙ ap (λ us. writers aligned M us vs) (sym (no_types (drop i ts)))

-- THE ROOT
module _ (aligned : Bool) (M : List Assignment) (v : Rose ValueLabel) where
  abbrev IfBody : Option Assignment → Type 0
  IfBody None = ⊥
  IfBody (Some a) = FitsAt M 1 a.body v

  within : (t : ℕ) (o : Option Assignment) → slice_get M t ≡ o → IfBody o → t < length M
  within t None is h = absurd h
  within t (Some a) is h = slice_get_within M t a is

  pub is_assigned : (t : ℕ) → In M t v → t < length M
  is_assigned t h = within t (slice_get M t) refl h.0

  body_fits : (o : Option Assignment) (a : Assignment) → o ≡ Some a → IfBody o → FitsAt M 1 a.body v
  body_fits None a is h = absurd h
  body_fits (Some b) a is h = let same : b ≡ a = cc in subst (λ x. FitsAt M 1 x.body v) same h

  pub root_fits : (t : ℕ) (a : Assignment) → slice_get M t ≡ Some a → In M t v → FitsSomewhere M a.body v
  root_fits t a is h = (1, body_fits (slice_get M t) a is h.0)

  pub complete-root : (t : ℕ) (a : Assignment) → slice_get M t ≡ Some a → completed (per aligned M a.body v 0) ≡ complete_by aligned M t v
  complete-root t a is = ap (λ (o : Option Assignment). elim o as (λ _. List Bool) [ None ↦ [] | Some b ↦ completed (per aligned M b.body v 0) ]) (sym is)
