-- Values that are read fit their types.
use Rattle.std.proofs.Common.{◌≡◌, ℕ, ◌+◌, ◌<◌, ◌≤◌, Bool, true, cond, List, [], ◌∷◌, ◌++◌, length, refl, sym, ap, ◌∙◌, subst, arith, Option, Some, None, Result, Ok, Err}
use Rattle.std.specs.Prelude.{slice_get, replicate, ℤ, ◌&&◌, IfOk}
use Rattle.std.proofs.lemmas.Bool.{lt-ltb, le-leb}
use Rattle.base_trees.specs.Rose.{Rose, node, none, list_of, roses_of, label_of, kids_of, node_count, count_all}
use Rattle.simple_types.specs.declared.labels.ValueLabel.{ValueLabel}
use Rattle.simple_types.specs.declared.labels.ValueLabel.TheVariants as value
use Rattle.simple_types.specs.declared.standards.Standard.TheVariants.{Free}
use Rattle.simple_types.specs.Lexical.{is_128_bits, is_from, is_to, is_at_most}
use Rattle.asn_types.specs.declared.modules.Assignment.{Assignment}
use Rattle.asn_types.specs.declared.types.Component.{Component}
use Rattle.asn_types.specs.declared.types.Form.TheVariants as form
use Rattle.asn_types.specs.declared.types.TypeLabel.{TypeLabel}
use Rattle.asn_types.specs.Refs.{resolve}
use Rattle.asn_values.specs.Values.{ComponentPlace, place_of, present_from, place_at, alone, repeated, none_if, places_in, places, below, FitsAt, FitEach, Own, Kept}
use Rattle.asn_values.specs.Private.Placing.{FitPlaces, FitKids}
use Rattle.asn_values.proofs.Counting.{fit_none, fits-from_kids}
use Rattle.per_decode.specs.declared.faults.PerEnd.{PerEnd}
use Rattle.per_decode.specs.Private.Bodies.{text_leaf, FitAll, FitSome}
use Rattle.asn_values.proofs.Standards.{free-kept}

pub list-roses : (vs : List (Rose ValueLabel)) → list_of (roses_of vs) ≡ vs
list-roses [] = refl
list-roses (v ∷ vs) = ap (λ us. v ∷ us) (list-roses vs)

-- one more
pub count-push : (vs : List (Rose ValueLabel)) (v : Rose ValueLabel) → count_all (roses_of (vs ++ v ∷ [])) ≡ count_all (roses_of vs) + node_count v
count-push [] v = omega arith
count-push (w ∷ vs) v = omega (arith, count-push vs v)

-- there are no more trees than nodes
pub length-count : (vs : List (Rose ValueLabel)) → length vs ≤ count_all (roses_of vs)
length-count [] = omega arith
length-count (node l us ∷ vs) = omega (arith, length-count vs)

module _ (M : List Assignment) (depth : ℕ) where
  pub each-push : (ps : List ComponentPlace) (p : ComponentPlace) (vs : List (Rose ValueLabel)) (v : Rose ValueLabel) → FitEach M depth ps (roses_of vs) → FitsAt M (below p.role depth) p.type v × Kept M p.part p.type v
      → FitEach M depth (ps ++ p ∷ []) (roses_of (vs ++ v ∷ []))
  unfolding FitEach
  each-push [] p [] v h k = (k, tt)
  each-push [] p (w ∷ vs) v h k = absurd h
  each-push (q ∷ ps) p [] v h k = absurd h
  each-push (q ∷ ps) p (w ∷ vs) v h k = (h.0, each-push ps p vs v h.1 k)

  pub all-push : (t : Rose TypeLabel) (vs : List (Rose ValueLabel)) (v : Rose ValueLabel) → FitAll M depth t vs → FitsAt M depth t v → FitAll M depth t (vs ++ v ∷ [])
  all-push t [] v h k = (k, tt)
  all-push t (w ∷ vs) v h k = (h.0, all-push t vs v h.1 k)

  -- values of the type of a place
  pub all-each : (p : ComponentPlace) → p.part.standard ≡ Free → (vs : List (Rose ValueLabel)) → FitAll M (below p.role depth) p.type vs → FitEach M depth (replicate (length vs) p) (roses_of vs)
  unfolding FitEach
  all-each p free [] h = tt
  all-each p free (v ∷ vs) h = ((h.0, free-kept M p.part p.type v free), all-each p free vs h.1)

  -- LEAVES
  module _ (t : Rose TypeLabel) where
    by_places : (l : ValueLabel) → places t l 0 ≡ Some [] → FitKids M depth t (node l none)
    by_places l e = subst (λ o. FitPlaces M depth o none) (sym e) (fit_none M depth)

    pub fit-bool : (b : Bool) → (label_of t).form ≡ form.Bool → FitKids M depth t (node (value.Bool b) none)
    fit-bool b e = by_places (value.Bool b) (ap (λ f. places_in (label_of t) (kids_of t) f (value.Bool b) 0) e)

    pub fit-int : (lo hi : Option ℤ) (z : ℤ) → (label_of t).form ≡ form.Int lo hi → is_128_bits z ≡ true → is_from lo z ≡ true → is_to hi z ≡ true → FitKids M depth t (node (value.Int z) none)
    fit-int lo hi z e wide from to =
        by_places (value.Int z) (ap (λ f. places_in (label_of t) (kids_of t) f (value.Int z) 0) e ∙ ap (λ b. none_if (b && is_from lo z && is_to hi z)) wide ∙ ap (λ b. none_if (b && is_to hi z)) from ∙ ap none_if to)

    pub fit-numbers : (numbers : List ℤ) (i : ℕ) → (label_of t).form ≡ form.Numbers numbers → i < length numbers → FitKids M depth t (node (value.Enum i) none)
    fit-numbers numbers i e lt = by_places (value.Enum i) (ap (λ f. places_in (label_of t) (kids_of t) f (value.Enum i) 0) e ∙ ap none_if (lt-ltb i (length numbers) lt))

    pub fit-words : (identifiers words : List (List ℕ)) (i : ℕ) → (label_of t).form ≡ form.Words identifiers words → i < length words → FitKids M depth t (node (value.Enum i) none)
    fit-words identifiers words i e lt = by_places (value.Enum i) (ap (λ f. places_in (label_of t) (kids_of t) f (value.Enum i) 0) e ∙ ap none_if (lt-ltb i (length words) lt))

    pub fit-order : (identifiers : List (List ℕ)) (i : ℕ) → (label_of t).form ≡ form.Order identifiers → i < length identifiers → FitKids M depth t (node (value.Enum i) none)
    fit-order identifiers i e lt = by_places (value.Enum i) (ap (λ f. places_in (label_of t) (kids_of t) f (value.Enum i) 0) e ∙ ap none_if (lt-ltb i (length identifiers) lt))

    fit-text : (least : ℕ) (most : Option ℕ) (class : _) (text : List ℕ) → (label_of t).form ≡ form.Utf8 least most class → FitKids M depth t (node (value.Utf8 text) none)
    fit-text least most class text e = by_places (value.Utf8 text) (ap (λ f. places_in (label_of t) (kids_of t) f (value.Utf8 text) 0) e)

    -- NODES WITH KIDS
    with_kids : (l : ValueLabel) (ps : List ComponentPlace) (vs : List (Rose ValueLabel)) → places t l (length vs) ≡ Some ps → FitEach M depth ps (roses_of vs) → FitKids M depth t (node l (roses_of vs))
    with_kids l ps vs e h =
        subst (λ us. FitPlaces M depth (places t l (length us)) (roses_of us)) (sym (list-roses vs)) (subst (λ o. FitPlaces M depth o (roses_of vs)) (sym e) h)

    pub fit-sequence : (parts : List Component) (present : List Bool) (vs : List (Rose ValueLabel)) → (label_of t).form ≡ form.Sequence parts → FitSome M depth (present_from (label_of t) 0 parts (kids_of t) present) (roses_of vs)
        → FitKids M depth t (node (value.Sequence present) (roses_of vs))
    fit-sequence parts present vs e h = by (present_from (label_of t) 0 parts (kids_of t) present) refl h
      where
        by : (o : Option (List ComponentPlace)) → present_from (label_of t) 0 parts (kids_of t) present ≡ o → FitSome M depth o (roses_of vs) → FitKids M depth t (node (value.Sequence present) (roses_of vs))
        by None is h = absurd h
        by (Some ps) is h = with_kids (value.Sequence present) ps vs (ap (λ f. places_in (label_of t) (kids_of t) f (value.Sequence present) (length vs)) e ∙ is) h

    pub fit-choice : (parts : List Component) (i : ℕ) (part : Component) (kid : Rose TypeLabel) (v : Rose ValueLabel) → (label_of t).form ≡ form.Choice parts
        → slice_get parts i ≡ Some part → slice_get (kids_of t) i ≡ Some kid → part.standard ≡ Free → FitsAt M (below (place_of (label_of t) i part kid).role depth) kid v → FitKids M depth t (node (value.Choice i) (roses_of (v ∷ [])))
    fit-choice parts i part kid v e is_part is_kid free h =
        let p = place_of (label_of t) i part kid in
        with_kids (value.Choice i) (p ∷ []) (v ∷ [])
        (ap (λ f. places_in (label_of t) (kids_of t) f (value.Choice i) 1) e ∙ ap (λ o. alone (place_at (label_of t) i o (slice_get (kids_of t) i))) is_part ∙ ap (λ o. alone (place_at (label_of t) i (Some part) o)) is_kid)
        (each-push [] p [] v (fit_none M depth) (h, free-kept M part kid v free))

    pub fit-list : (part : Component) (least : ℕ) (most : Option ℕ) (kid : Rose TypeLabel) (vs : List (Rose ValueLabel)) → (label_of t).form ≡ form.SequenceOf part least most → slice_get (kids_of t) 0 ≡ Some kid → part.standard ≡ Free
        → least ≤ length vs → is_at_most (length vs) most ≡ true → FitAll M (below (place_of (label_of t) 0 part kid).role depth) kid vs → FitKids M depth t (node value.SequenceOf (roses_of vs))
    fit-list part least most kid vs e is_kid free low high h =
        let p = place_of (label_of t) 0 part kid in
        with_kids value.SequenceOf (replicate (length vs) p) vs
        (ap (λ f. places_in (label_of t) (kids_of t) f value.SequenceOf (length vs)) e
        ∙ ap (λ b. cond (b && is_at_most (length vs) most) (repeated (length vs) (place_at (label_of t) 0 (Some part) (slice_get (kids_of t) 0))) None) (le-leb least (length vs) low)
        ∙ ap (λ b. cond b (repeated (length vs) (place_at (label_of t) 0 (Some part) (slice_get (kids_of t) 0))) None) high
        ∙ ap (λ o. repeated (length vs) (place_at (label_of t) 0 (Some part) o)) is_kid)
        (all-each p free vs h)

  -- A VALUE THAT KEEPS THE RULES OF ITS NODE, with the kids that it had
  pub own_fits : {A : Type 0} (t : Rose TypeLabel) (v w : Rose ValueLabel) (answer : Result A PerEnd) → depth ≤ 64 → FitKids M depth (resolve M t) v → IfOk answer (λ _. w ≡ v) → IfOk answer (λ _. Own M t v) → IfOk answer (λ _. FitsAt M depth t w)
  own_fits t v w (Ok x) deep kids is own = subst (FitsAt M depth t) (sym is) (fits-from_kids M depth t v deep kids own)
  own_fits t v w (Err e) deep kids is own = tt

  -- a text
  pub text_fits : {A : Type 0} (t : Rose TypeLabel) (w : Rose ValueLabel) (answer : Result A PerEnd) → depth ≤ 64 → (least : ℕ) (most : Option ℕ) (class : _) → (label_of (resolve M t)).form ≡ form.Utf8 least most class
      → IfOk answer (λ _. (text : List ℕ) × (w ≡ text_leaf text)) → IfOk answer (λ _. Own M t w) → IfOk answer (λ _. FitsAt M depth t w)
  text_fits t w (Ok x) deep least most class is leaf own = fits-from_kids M depth t w deep (subst (FitKids M depth (resolve M t)) (sym leaf.1) (fit-text (resolve M t) least most class leaf.0 is)) own
  text_fits t w (Err e) deep least most class is leaf own = tt

pub own_counts : {A : Type 0} (a b : ℕ) (v w : Rose ValueLabel) (answer : Result A PerEnd) → a + 1 ≡ b + node_count v → IfOk answer (λ _. w ≡ v) → IfOk answer (λ _. a + 1 ≡ b + node_count w)
own_counts a b v w (Ok x) e is = subst (λ u. a + 1 ≡ b + node_count u) (sym is) e
own_counts a b v w (Err f) e is = tt
