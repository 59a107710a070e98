-- The place behind so many of what documents count.
use Rattle.std.proofs.Common.{◌≡◌, ℕ, zero, suc, ◌+◌, ◌-◌, ◌<◌, ◌≤◌, arith, List, [], ◌∷◌, ◌++◌, length, map, drop, get_or, Some, slice_get, refl, sym, ap, ◌∙◌, add-one}
use Rattle.std.specs.Option.{option_map}
use Rattle.std.proofs.Math.Seq.{drop-cons}
use Rattle.std.proofs.lemmas.Option.{slice_get-map, slice_get-get_or}
use Rattle.std.proofs.lemmas.List.{length-map}
use Rattle.schema_components.specs.Documents.{doc_of}
use Rattle.schema_components.specs.declared.documents.RawDoc.{RawDoc}
use Rattle.link_names.specs.Order.{place}
use Rattle.link_names.specs.Limits.{counted_places}

within_front : {A : Type 0} (xs ys : List A) (n : ℕ) → n < length xs → slice_get (xs ++ ys) n ≡ slice_get xs n
within_front [] ys n lt = absurd (omega (arith, lt))
within_front (x ∷ xs) ys zero lt = refl
within_front (x ∷ xs) ys (suc n) lt = within_front xs ys n (omega (arith, lt))

past_front : {A : Type 0} (xs ys : List A) (n : ℕ) → length xs ≤ n → slice_get (xs ++ ys) n ≡ slice_get ys (n - length xs)
past_front [] ys n le = let e : n - 0 ≡ n = omega arith in rw e refl
past_front (x ∷ xs) ys zero le = absurd (omega (arith, le))
past_front (x ∷ xs) ys (suc n) le =
    let e : suc n - suc (length xs) ≡ n - length xs = omega arith in
    past_front xs ys n (omega (arith, le)) ∙ ap (slice_get ys) (sym e)

module _ (docs : List RawDoc) (i : ℕ) (d : RawDoc) (n : ℕ) (below : i < length docs) (here : d ≡ get_or docs i d) where
  cut : map doc_of (drop i docs) ≡ doc_of d ∷ map doc_of (drop (i + 1) docs)
  cut = rw add-one (ap (map doc_of) (drop-cons docs i d below) ∙ ap (λ x. doc_of x ∷ map doc_of (drop (suc i) docs)) (sym here))

  pub found_here : (at : ℕ) → n < length (doc_of d).counted → at ≡ get_or (doc_of d).counted n 0
      → slice_get (counted_places (map doc_of (drop i docs))) n ≡ Some (place (doc_of d).file at)
  found_here at lt is =
      let counted = (doc_of d).counted in
      let spots = map (place (doc_of d).file) counted in
      let small : n < length spots = rw (length-map counted (place (doc_of d).file)) lt in
      ap (λ ds. slice_get (counted_places ds) n) cut
      ∙ within_front spots (counted_places (map doc_of (drop (i + 1) docs))) n small
      ∙ slice_get-map (place (doc_of d).file) counted n
      ∙ ap (λ o. option_map (place (doc_of d).file) o) (slice_get-get_or counted n 0 lt ∙ ap Some (sym is))

  pub passes : length (doc_of d).counted ≤ n
      → slice_get (counted_places (map doc_of (drop i docs))) n
      ≡ slice_get (counted_places (map doc_of (drop (i + 1) docs))) (n - length (doc_of d).counted)
  passes le =
      let counted = (doc_of d).counted in
      let spots = map (place (doc_of d).file) counted in
      let same : length spots ≡ length counted = length-map counted (place (doc_of d).file) in
      ap (λ ds. slice_get (counted_places ds) n) cut
      ∙ past_front spots (counted_places (map doc_of (drop (i + 1) docs))) n (rw same le)
      ∙ ap (λ k. slice_get (counted_places (map doc_of (drop (i + 1) docs))) (n - k)) same
