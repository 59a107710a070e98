-- Child elements counted, and values that fit, child by child.
use Rattle.std.proofs.Common.{◌≡◌, ℕ, zero, suc, ◌+◌, ◌-◌, ◌^◌, ◌<◌, ◌≤◌, min, Option, Some, None, Result, Ok, Err, List, [], ◌∷◌, length, get_or, drop, refl, sym, ◌∙◌, ap, subst, arith}
use Rattle.std.specs.Prelude.{map, replicate, IfOk}
use Rattle.std.proofs.lemmas.List.{drop_more}
use Rattle.base_trees.specs.Rose.{Rose, node, Roses, none, more, roses_of, list_of, label_of, kids_of, length_all}
use Rattle.base_trees.proofs.Roses.{roses_of-list_of, length-list_of}
use Rattle.simple_types.specs.declared.labels.ValueLabel.{ValueLabel}
use Rattle.asn_types.specs.declared.modules.Assignment.{Assignment}
use Rattle.asn_values.specs.declared.places.ComponentPlace as code
use Rattle.asn_types.specs.declared.types.TypeLabel.{TypeLabel}
use Rattle.asn_values.specs.Private.Placing.{place_seen, FitPlaces, FitKids}
use Rattle.asn_types.specs.Refs.{resolve}
use Rattle.asn_values.specs.Values.{ComponentPlace, places, counted, child_count, count_in, FitsAt, FitEach, Own}

pub if_ok : {A E : Type 0} (P Q : A → Type 0) (r : Result A E) → ((a : A) → P a → Q a) → IfOk r P → IfOk r Q
if_ok P Q (Ok a) f h = f a h
if_ok P Q (Err e) f h = tt

-- the first of what is left
pub places-drop : (ps : List code.ComponentPlace) (i : ℕ) (p : code.ComponentPlace) → i < length ps → p ≡ get_or ps i p → map place_seen (drop i ps) ≡ place_seen p ∷ map place_seen (drop (i + 1) ps)
places-drop ps i p below here = ap (map place_seen) (drop_more ps i p below) ∙ ap (λ q. place_seen q ∷ map place_seen (drop (i + 1) ps)) (sym here)

pub replicate-drop : {A : Type 0} (n i : ℕ) (a : A) → i < n → replicate (n - i) a ≡ a ∷ replicate (n - (i + 1)) a
replicate-drop n i a less = let e : n - i ≡ suc (n - (i + 1)) = omega arith in ap (λ k. replicate k a) e

pub drop-past : {A : Type 0} (i : ℕ) (xs : List A) → length xs ≤ i → drop i xs ≡ []
drop-past zero [] h = refl
drop-past (suc i) [] h = refl
drop-past zero (x ∷ xs) h = absurd (omega arith)
drop-past (suc i) (x ∷ xs) h = drop-past i xs (omega arith)

-- shown counts are added
pub add_shown : (count x rest most : ℕ) → min (count + (x + rest)) most ≡ min (min (count + min x most) most + rest) most
add_shown count x rest most = omega arith

module _ (M : List Assignment) where
  abbrev pub counted_by : Option (List ComponentPlace) → Roses ValueLabel → ℕ
  counted_by o vs = elim o [ None ↦ 0 | Some ps ↦ count_in M ps vs ]

  pub child_count-kids : (t : Rose TypeLabel) (v : Rose ValueLabel)
      → child_count M t v ≡ counted_by (places (resolve M t) (label_of v) (length (kids_of v))) (roses_of (kids_of v))
  unfolding child_count
  child_count-kids t (node l vs) =
      ap (λ n. counted_by (places (resolve M t) l n) vs) (sym (length-list_of vs))
      ∙ ap (λ ws. counted_by (places (resolve M t) l (length (list_of vs))) ws) (sym (roses_of-list_of vs))

  -- where the places were found
  pub found_count : (t : Rose TypeLabel) (v : Rose ValueLabel) (r : Rose TypeLabel) (l : ValueLabel) (ks : List (Rose ValueLabel)) (o : Option (List ComponentPlace))
      → r ≡ resolve M t → l ≡ label_of v → ks ≡ kids_of v → places r l (length ks) ≡ o → child_count M t v ≡ counted_by o (roses_of ks)
  found_count t v r l ks o er el ek is =
      child_count-kids t v
      ∙ sym (ap (λ x. counted_by (places x l (length ks)) (roses_of ks)) er
      ∙ ap (λ x. counted_by (places (resolve M t) x (length ks)) (roses_of ks)) el
      ∙ ap (λ x. counted_by (places (resolve M t) (label_of v) (length x)) (roses_of x)) ek)
      ∙ ap (λ x. counted_by x (roses_of ks)) is

  pub count_in-more : (p : ComponentPlace) (ps : List ComponentPlace) (v : Rose ValueLabel) (vs : Roses ValueLabel) → count_in M (p ∷ ps) (more v vs) ≡ counted p.role (child_count M p.type v) + count_in M ps vs
  unfolding count_in
  count_in-more p ps v vs = refl

  pub count_in-none : (ps : List ComponentPlace) → count_in M ps none ≡ 0
  unfolding count_in
  count_in-none ps = refl

  pub count_in-[] : (vs : Roses ValueLabel) → count_in M [] vs ≡ 0
  unfolding count_in
  count_in-[] none = refl
  count_in-[] (more v vs) = refl

  -- one more of what is left is counted
  pub count_step : (p : ComponentPlace) (ps qs : List ComponentPlace) (v : Rose ValueLabel) (vs ws : List (Rose ValueLabel)) (count whole : ℕ) → vs ≡ v ∷ ws → ps ≡ p ∷ qs
      → whole ≡ min (count + count_in M ps (roses_of vs)) (2 ^ 64 - 1)
      → whole ≡ min (min (count + min (counted p.role (child_count M p.type v)) (2 ^ 64 - 1)) (2 ^ 64 - 1) + count_in M qs (roses_of ws)) (2 ^ 64 - 1)
  count_step p ps qs v vs ws count whole next is so_far =
      let first = ap (λ ks. count_in M ks (roses_of vs)) is ∙ ap (λ us. count_in M (p ∷ qs) (roses_of us)) next ∙ count_in-more p qs v (roses_of ws) in
      so_far ∙ ap (λ k. min (count + k) (2 ^ 64 - 1)) first
      ∙ add_shown count (counted p.role (child_count M p.type v)) (count_in M qs (roses_of ws)) (2 ^ 64 - 1)

  -- values that fit, by their kids
  pub fits-kids : (depth : ℕ) (t : Rose TypeLabel) (v : Rose ValueLabel) → FitsAt M depth t v → (depth ≤ 64) × FitKids M depth (resolve M t) v × Own M t v
  unfolding FitsAt
  fits-kids depth t (node l vs) h =
      let kids : FitPlaces M depth (places (resolve M t) l (length_all vs)) vs = h.1 in
      let long = subst (λ n. FitPlaces M depth (places (resolve M t) l n) vs) (sym (length-list_of vs)) kids in
      (h.0, subst (λ ws. FitPlaces M depth (places (resolve M t) l (length (list_of vs))) ws) (sym (roses_of-list_of vs)) long, h.2)

  pub fits-from_kids : (depth : ℕ) (t : Rose TypeLabel) (v : Rose ValueLabel) → depth ≤ 64 → FitKids M depth (resolve M t) v → Own M t v → FitsAt M depth t v
  unfolding FitsAt
  fits-from_kids depth t (node l vs) deep kids own =
      let back = subst (λ ws. FitPlaces M depth (places (resolve M t) l (length (list_of vs))) ws) (roses_of-list_of vs) kids in
      let long = subst (λ n. FitPlaces M depth (places (resolve M t) l n) vs) (length-list_of vs) back in
      (deep, long, own)

  pub fit_none : (depth : ℕ) → FitEach M depth [] none
  unfolding FitEach
  fit_none depth = tt
