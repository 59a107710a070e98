-- The law: of the body of an assignment.
use Rattle.std.proofs.Common.{◌≡◌, ℕ, zero, suc, ◌<◌, List, [], ◌∷◌, length, refl, sym, ap, ◌∙◌, subst, arith, Option, Some, None, Result, Err, inl, inr}
use Rattle.std.specs.Prelude.{slice_get}
use Rattle.base_trees.specs.Rose.{Rose}
use Rattle.simple_types.specs.declared.labels.ValueLabel.{ValueLabel}
use Rattle.asn_types.specs.declared.modules.Assignment.{Assignment}
use Rattle.asn_types.specs.Bounds.{IsBounded}
use Rattle.asn_types.specs.Modules.{IsModule}
use Rattle.asn_types.proofs.Inside.{body-of}
use Rattle.base_codecs.specs.declared.spots.Spot.{Spot}
use Rattle.base_codecs.proofs.Steps.{Iff}
use Rattle.der_fields.specs.declared.stops.Stop.{Stop}
use Rattle.der_fields.specs.FieldsReading.{AreOctets}
use Rattle.der_fields.specs.Laws.{reading_of, Stops}
use Rattle.der_fields.specs.Reading.{start, root_at}
use Rattle.der_fields.proofs.Law as law
use Rattle.der_fields.specs.StopLaws.{StopsAsRead, OneOfTwo}
use Rattle.der_fields.specs.Stopping.{RootStops, DerStop}
use Rattle.der_fields.proofs.StopNodes.{root_told}

some_assigned : (M : List Assignment) (t : ℕ) → t < length M → (a : Assignment) × (slice_get M t ≡ Some a)
some_assigned [] t h = absurd (omega arith)
some_assigned (a ∷ others) zero h = (a, refl)
some_assigned (a ∷ others) (suc t) h = some_assigned others t (omega arith)

some_is : {A : Type 0} (x y : A) → Some x ≡ Some y → x ≡ y
some_is x y e = cc

module _ (M : List Assignment) (is : IsModule M) (bounded : IsBounded M) (t : ℕ) (a : Assignment) (at : slice_get M t ≡ Some a) (X : List ℕ) (fine : AreOctets X) (stop : Stop) where
  read_is : reading_of M t X ≡ Some (root_at M a.body X start)
  read_is = ap (λ (o : Option Assignment). elim o as (λ _. Option (Result (Rose ValueLabel × Spot) Stop)) [ None ↦ None | Some b ↦ Some (root_at M b.body X start) ]) at

  abbrev first_of_ : Option Assignment → Type 0
  first_of_ o = elim o [ None ↦ ⊥ | Some b ↦ RootStops M b.body X stop ]

  as_read : Iff (Stops M t X stop) (DerStop M t X stop)
  as_read =
      let root = root_told M is bounded a.body (body-of M t a at) X fine stop in (
        λ h. subst first_of_ (sym at) (root.0 (some_is (root_at M a.body X start) (Err stop) (sym read_is ∙ h))),
        λ h. read_is ∙ ap Some (root.1 (subst first_of_ at h)),
      )

pub stops_as_read : StopsAsRead
stops_as_read M t octets is bounded h fine stop = let s = some_assigned M t h in as_read M is bounded t s.0 s.1 octets fine stop

pub one_of_two : OneOfTwo
one_of_two M t octets is bounded h fine = record {
  either = (elim (law.either M t octets is bounded h fine) [ inl b ↦ inl b | inr s ↦ inr (s.0, (stops_as_read M t octets is bounded h fine s.0).0 s.1) ]);
  not_both = λ v stop b s. law.not_both M t octets is bounded h fine v stop b ((stops_as_read M t octets is bounded h fine stop).1 s);
  one_value = law.one_value M t octets is bounded h fine;
  one_stop = λ r s f g. law.one_stop M t octets is bounded h fine r s ((stops_as_read M t octets is bounded h fine r).1 f) ((stops_as_read M t octets is bounded h fine s).1 g);
}
