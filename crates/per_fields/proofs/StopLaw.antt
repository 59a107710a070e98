-- The law: of the body of an assignment.
use Rattle.std.proofs.Common.{◌≡◌, ℕ, zero, suc, ◌<◌, Bool, List, [], ◌∷◌, length, refl, sym, ap, ◌∙◌, subst, arith, Option, Some, None, Result, Err, inl, inr}
use Rattle.std.specs.Prelude.{slice_get}
use Rattle.base_codecs.specs.Bits.{octet_bits}
use Rattle.base_trees.specs.Rose.{Rose}
use Rattle.simple_types.specs.declared.labels.ValueLabel.{ValueLabel}
use Rattle.asn_types.specs.declared.modules.Assignment.{Assignment}
use Rattle.asn_types.specs.Bounds.{IsBounded}
use Rattle.asn_types.specs.Modules.{IsModule}
use Rattle.asn_types.proofs.Inside.{body-of}
use Rattle.base_codecs.specs.declared.spots.Spot.{Spot}
use Rattle.base_codecs.proofs.Steps.{Iff}
use Rattle.per_fields.specs.declared.stops.Stop.{Stop}
use Rattle.per_fields.specs.Laws.{reading_by, StopsBy}
use Rattle.per_fields.specs.Nodes.{whole_of}
use Rattle.per_fields.proofs.Law as law
use Rattle.per_fields.specs.StopLaws.{StopsAsReadBy, OneOfTwoBy}
use Rattle.per_fields.specs.Stopping.{RootStops, StopsFirstBy}
use Rattle.per_fields.proofs.StopNodes.{root_told}

some_assigned : (M : List Assignment) (t : ℕ) → t < length M → (a : Assignment) × (slice_get M t ≡ Some a)
some_assigned [] t h = absurd (omega arith)
some_assigned (a ∷ others) zero h = (a, refl)
some_assigned (a ∷ others) (suc t) h = some_assigned others t (omega arith)

some_is : {A : Type 0} (x y : A) → Some x ≡ Some y → x ≡ y
some_is x y e = cc

module _ (aligned : Bool) (M : List Assignment) (is : IsModule M) (bounded : IsBounded M) (t : ℕ) (a : Assignment) (at : slice_get M t ≡ Some a) (X : List Bool) (stop : Stop) where
  read_is : reading_by aligned M t X ≡ Some (whole_of aligned M a.body X)
  read_is = ap (λ (o : Option Assignment). elim o as (λ _. Option (Result (Rose ValueLabel × Spot) Stop)) [ None ↦ None | Some b ↦ Some (whole_of aligned M b.body X) ]) at

  abbrev first_of_ : Option Assignment → Type 0
  first_of_ o = elim o [ None ↦ ⊥ | Some b ↦ RootStops aligned M X b.body stop ]

  as_read : Iff (StopsBy aligned M t X stop) (StopsFirstBy aligned M t X stop)
  as_read =
      let root = root_told aligned M is bounded X a.body (body-of M t a at) stop in (
        λ h. subst first_of_ (sym at) (root.0 (some_is (whole_of aligned M a.body X) (Err stop) (sym read_is ∙ h))),
        λ h. read_is ∙ ap Some (root.1 (subst first_of_ at h)),
      )

pub stops_as_read : (aligned : Bool) → StopsAsReadBy aligned
stops_as_read aligned M t octets is bounded h stop = let s = some_assigned M t h in as_read aligned M is bounded t s.0 s.1 (octet_bits octets) stop

pub one_of_two : (aligned : Bool) → OneOfTwoBy aligned
one_of_two aligned M t octets is bounded h =
    let X = octet_bits octets in
    record {
      either = (elim (law.either aligned M t octets is bounded h) [ inl b ↦ inl b | inr s ↦ inr (s.0, (stops_as_read aligned M t octets is bounded h s.0).0 s.1) ]);
      not_both = λ v stop b s. law.not_both aligned M t octets is bounded h v stop b ((stops_as_read aligned M t octets is bounded h stop).1 s);
      one_value = law.one_value aligned M t octets is bounded h;
      one_stop = λ r s f g. law.one_stop aligned M t octets is bounded h r s ((stops_as_read aligned M t octets is bounded h r).1 f) ((stops_as_read aligned M t octets is bounded h s).1 g);
    }
