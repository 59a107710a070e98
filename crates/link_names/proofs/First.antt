-- The first of the simple types that are made of themselves, with one more.
use Rattle.std.proofs.Common.{◌≡◌, ℕ, ◌+◌, ◌<◌, ◌≤◌, arith, false, ◌⊎◌, inl, inr, List, length, get_or, Option, Some, None, refl, sym, ap, ◌∙◌, subst}
use Rattle.std.specs.Prelude.{slice_get}
use Rattle.std.specs.Option.{option_map}
use Rattle.std.proofs.lemmas.Bool.{cases_order}
use Rattle.std.proofs.lemmas.Option.{slice_get-map, slice_get_read, slice_get_within}
use Rattle.link_names.specs.declared.faults.LinkingFault.{LinkingFault}
use Rattle.link_names.specs.declared.faults.LinkWhy.TheVariants.{CircularType}
use Rattle.link_names.specs.Order.{fault, precedes, IsFirstSuch}
use Rattle.link_names.proofs.Firsts.{precedes_itself, such_joined}
use Rattle.link_names.specs.Cycles.{edges, IsCircularAt, IsCircularBelow, IsCircularOf}
use Rattle.link_names.specs.Private.Keeping.{Keeps, IsNext}
use Rattle.link_names.specs.Graphs.{IsOnCycle}
use Rattle.link_names.specs.SimpleTypes.{SimpleDefinition}
use Rattle.link_names.specs.CyclesSeen.{definition_of, definitions_of}
use Rattle.link_names.specs.declared.definitions.SimpleType.{SimpleType}

pub definition_at : (ds : List SimpleType) (n : ℕ) (d : SimpleType) → n < length ds → d ≡ get_or ds n d → slice_get (definitions_of ds) n ≡ Some (definition_of d)
definition_at ds n d lt is = slice_get-map definition_of ds n ∙ ap (option_map definition_of) (slice_get_read ds (length ds) n d refl lt is)

the_same : (d e : SimpleDefinition) → Some d ≡ Some e → d ≡ e
the_same d e p = cc

module _ (ds : List SimpleDefinition) (n : ℕ) (d : SimpleDefinition) (is : slice_get ds n ≡ Some d) where
  parts : (f : LinkingFault) → IsCircularBelow ds (n + 1) f → IsCircularBelow ds n f ⊎ IsCircularAt ds n f
  parts f r =
      let lt = r.1 in
      elim (cases_order r.0 n) [
        | inl same ↦ inr (subst (λ m. IsCircularAt ds m f) same r.2)
        | inr apart ↦ elim apart [ inl below ↦ inl (r.0, below, r.2) | inr above ↦ absurd (omega (arith, lt, above)) ]
      ]

  below_too : (f : LinkingFault) → IsCircularBelow ds n f → IsCircularBelow ds (n + 1) f
  below_too f p = let lt = p.1 in (p.0, omega (arith, lt), p.2)

  here_too : (f : LinkingFault) → IsCircularAt ds n f → IsCircularBelow ds (n + 1) f
  here_too f q = (n, omega arith, q)

  only : (f : LinkingFault) → IsCircularAt ds n f → f ≡ fault CircularType d.place
  only f q = q.2 ∙ ap (λ (e : SimpleDefinition). fault CircularType e.place) (the_same q.0 d (sym q.1 ∙ is))

  stays : (found : Option LinkingFault) → IsFirstSuch (IsCircularBelow ds n) found → (IsOnCycle (edges ds) n → Keeps found (fault CircularType d.place))
      → IsFirstSuch (IsCircularBelow ds (n + 1)) found
  stays None h keeps = λ f r. elim (parts f r) [ inl p ↦ h f p | inr q ↦ absurd (keeps q.3) ]
  stays (Some f) h keeps = (
    below_too f h.0,
    λ g r. elim (parts g r) [
      | inl p ↦ h.1 g p
      | inr q ↦ subst (λ x. precedes x f ≡ false) (sym (only g q)) (keeps q.3)
    ],
  )

  pub next_step : (found first : Option LinkingFault) → IsFirstSuch (IsCircularBelow ds n) found
      → IsNext (IsOnCycle (edges ds) n) found (fault CircularType d.place) first → IsFirstSuch (IsCircularBelow ds (n + 1)) first
  next_step found first h (inl hit) =
      let g = fault CircularType d.place in
      subst (IsFirstSuch (IsCircularBelow ds (n + 1))) (sym hit.1)
      (such_joined (IsCircularBelow ds n) (IsCircularAt ds n) (IsCircularBelow ds (n + 1)) parts below_too here_too found (Some g) h
      ((d, is, refl, hit.0), λ f q. subst (λ x. precedes x g ≡ false) (sym (only f q)) (precedes_itself g)))
  next_step found first h (inr miss) = subst (IsFirstSuch (IsCircularBelow ds (n + 1))) (sym miss.0) (stays found h miss.1)

-- at the end all were seen
module _ (ds : List SimpleDefinition) (n : ℕ) (le : length ds ≤ n) where
  all_of : (f : LinkingFault) → IsCircularOf ds f → IsCircularBelow ds n f
  all_of f q = let lt = slice_get_within ds q.0 q.1.0 q.1.1 in (q.0, omega (arith, lt, le), q.1)

  of_all : (f : LinkingFault) → IsCircularBelow ds n f → IsCircularOf ds f
  of_all f p = (p.0, p.2)

  pub at_end : (found : Option LinkingFault) → IsFirstSuch (IsCircularBelow ds n) found → IsFirstSuch (IsCircularOf ds) found
  at_end None h = λ f q. h f (all_of f q)
  at_end (Some f) h = (of_all f h.0, λ g q. h.1 g (all_of g q))

pub none_below : (ds : List SimpleDefinition) → IsFirstSuch (IsCircularBelow ds 0) None
none_below ds = λ f p. let lt = p.1 in omega (arith, lt)
