-- Facets one after another.
use Rattle.std.proofs.Common.{◌≡◌, ℕ, suc, ◌+◌, ◌<◌, ◌≤◌, List, [], ◌∷◌, refl, sym, ap, ◌∙◌, arith, Result, Ok, Err, length, get_or, drop}
use Rattle.std.proofs.Math.Seq.{drop-cons}
use Rattle.std.proofs.Math.ListN.{drop_of_length-le}
use Rattle.simple_types.specs.declared.facets.Facet.{Facet}
use Rattle.simple_types.specs.Space.{Space}
use Rattle.simple_facets.specs.declared.refusals.FacetWhy.{FacetWhy}
use Rattle.simple_facets.specs.declared.constraints.Constraints.{Constraints}
use Rattle.simple_facets.specs.Restricting.{with_facet, with_facets}

-- what stands from a facet on
pub facets_from : {A : Type 0} (f : List Facet → A) (facets : List Facet) (i : ℕ) (d : Facet) → i < length facets → f (drop i facets) ≡ f (get_or facets i d ∷ drop (i + 1) facets)
facets_from f facets i d below =
    let cut : drop i facets ≡ get_or facets i d ∷ drop (suc i) facets = drop-cons facets i d below in
    let same : suc i ≡ i + 1 = omega arith in
    ap f cut ∙ ap (λ n. f (get_or facets i d ∷ drop n facets)) same

module _ (base : Space) (c : Constraints) (facets : List Facet) (i : ℕ) (d : Facet) (below : i < length facets) where
  pub with_more : (next : Constraints) → with_facet base c (get_or facets i d) ≡ Ok next → with_facets base c (drop i facets) ≡ with_facets base next (drop (i + 1) facets)
  with_more next is = facets_from (with_facets base c) facets i d below ∙ more
    where
      more : with_facets base c (get_or facets i d ∷ drop (i + 1) facets) ≡ with_facets base next (drop (i + 1) facets)
      more = rw (with_facets, is) refl

  pub with_refused : (w : FacetWhy) → with_facet base c (get_or facets i d) ≡ Err w → with_facets base c (drop i facets) ≡ Err w
  with_refused w is = facets_from (with_facets base c) facets i d below ∙ refused
    where
      refused : with_facets base c (get_or facets i d ∷ drop (i + 1) facets) ≡ Err w
      refused = rw (with_facets, is) refl

pub with_all : (base : Space) (c : Constraints) (facets : List Facet) (i : ℕ) → length facets ≤ i → with_facets base c (drop i facets) ≡ Ok c
with_all base c facets i past = ap (with_facets base c) (drop_of_length-le facets past)
