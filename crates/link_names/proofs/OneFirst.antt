-- At most one fault is the first.
use Rattle.std.proofs.Common.{◌≡◌, ℕ, false, inl, inr, Option, Some, None, sym, ap, ◌∙◌, refl}
use Rattle.std.specs.Prelude.{nat_eq, if◌then◌else◌}
use Rattle.std.proofs.lemmas.Bool.{cases_order, true≢false}
use Rattle.simple_facets.specs.declared.refusals.FacetWhy.TheVariants as facet
use Rattle.link_names.specs.declared.faults.LinkingFault.{LinkingFault}
use Rattle.link_names.specs.declared.faults.LinkWhy.{LinkWhy}
use Rattle.link_names.specs.declared.faults.LinkWhy.TheVariants as why
use Rattle.link_names.specs.Order.{rank_of, precedes, IsFirstSuch}
use Rattle.link_names.proofs.Firsts.{Earlier, true_earlier}

-- the reason with a rank
abbrev reason_at : ℕ → LinkWhy
reason_at n =
    if nat_eq n 0 then why.Limit else if nat_eq n 1 then why.Duplicate else if nat_eq n 2 then why.Unresolved else if nat_eq n 3 then why.ComplexBase
    else if nat_eq n 4 then why.CircularType else if nat_eq n 5 then why.Facet facet.Misplaced else if nat_eq n 6 then why.Facet facet.Widens
    else if nat_eq n 7 then why.Facet facet.NotInBase else if nat_eq n 8 then why.Facet facet.EmptySpace else if nat_eq n 9 then why.Facet facet.BadNumber
    else if nat_eq n 10 then why.Facet facet.TooWide else if nat_eq n 11 then why.BadItem else if nat_eq n 12 then why.BadDefault
    else if nat_eq n 13 then why.FixedDiffers else if nat_eq n 14 then why.DuplicateUse else if nat_eq n 15 then why.TypesDiffer else why.NotClear

reason_of : (w : LinkWhy) → reason_at (rank_of w) ≡ w
reason_of why.Limit = refl
reason_of why.Duplicate = refl
reason_of why.Unresolved = refl
reason_of why.ComplexBase = refl
reason_of why.CircularType = refl
reason_of (why.Facet facet.Misplaced) = refl
reason_of (why.Facet facet.Widens) = refl
reason_of (why.Facet facet.NotInBase) = refl
reason_of (why.Facet facet.EmptySpace) = refl
reason_of (why.Facet facet.BadNumber) = refl
reason_of (why.Facet facet.TooWide) = refl
reason_of why.BadItem = refl
reason_of why.BadDefault = refl
reason_of why.FixedDiffers = refl
reason_of why.DuplicateUse = refl
reason_of why.TypesDiffer = refl
reason_of why.NotClear = refl

not_earlier : (f g : LinkingFault) → precedes f g ≡ false → Earlier f g → ⊥
not_earlier f g e l = true≢false (sym (true_earlier f g l) ∙ e)

-- of two faults one precedes the other, or they are one
neither : (f g : LinkingFault) → (Earlier f g → ⊥) → (Earlier g f → ⊥) → f ≡ g
neither f g a b =
    elim (cases_order f.place.file g.place.file) [
      | inr apart ↦ elim apart [ inl lt ↦ absurd (a (inl lt)) | inr gt ↦ absurd (b (inl gt)) ]
      | inl same ↦ elim (cases_order f.place.at g.place.at) [
        | inr apart ↦ elim apart [ inl lt ↦ absurd (a (inr (inl (same, lt)))) | inr gt ↦ absurd (b (inr (inl (sym same, gt)))) ]
        | inl there ↦ elim (cases_order (rank_of f.why) (rank_of g.why)) [
          | inr apart ↦ elim apart [ inl lt ↦ absurd (a (inr (inr (same, there, lt)))) | inr gt ↦ absurd (b (inr (inr (sym same, sym there, gt)))) ]
          | inl rank ↦
              let reason : f.why ≡ g.why = sym (reason_of f.why) ∙ ap reason_at rank ∙ reason_of g.why in
              λ i. record { place = record { file = same i; at = there i }; why = reason i }
        ]
      ]
    ]

pub one_first : (P : LinkingFault → Type 0) (found other : Option LinkingFault) → IsFirstSuch P found → IsFirstSuch P other → found ≡ other
one_first P None None a b = refl
one_first P None (Some g) a b = absurd (a g b.0)
one_first P (Some f) None a b = absurd (b f a.0)
one_first P (Some f) (Some g) a b = ap Some (neither f g (not_earlier f g (b.1 f a.0)) (not_earlier g f (a.1 g b.0)))
