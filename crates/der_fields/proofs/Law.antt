-- The law of the first stop.
use Rattle.std.proofs.Common.{◌≡◌, ℕ, zero, suc, ◌<◌, List, [], ◌∷◌, ◌++◌, length, refl, sym, ap, ◌∙◌, subst, arith, drop, Option, Some, None, Result, Ok, Err, inl, inr, ◌⊎◌}
use Rattle.std.specs.Prelude.{slice_get}
use Rattle.std.proofs.lemmas.List.{drop_at}
use Rattle.base_trees.specs.Rose.{Rose, node_count}
use Rattle.simple_types.specs.declared.labels.ValueLabel.{ValueLabel}
use Rattle.asn_types.specs.declared.modules.Assignment.{Assignment}
use Rattle.asn_types.specs.Bounds.{IsBounded}
use Rattle.asn_types.specs.Modules.{IsModule}
use Rattle.asn_types.proofs.Inside.{body-of}
use Rattle.asn_values.specs.Values.{FitsAt, Fits}
use Rattle.base_codecs.specs.declared.spots.Spot.{Spot}
use Rattle.base_codecs.specs.Reading.{moved}
use Rattle.base_codecs.specs.Codec.{Codec}
use Rattle.base_codecs.proofs.Codecs.{ok_is, exactly_one}
use Rattle.der_fields.specs.declared.stops.Stop.{Stop}
use Rattle.der_fields.specs.FieldsReading.{AreOctets}
use Rattle.der_fields.specs.Encoding.{der, distinguished}
use Rattle.der_fields.specs.Reading.{node_read, start, root_at}
use Rattle.der_fields.specs.Laws.{NodeLaw, Begins, reading_of, Stops, Either, NotBoth, OneValue, OneStop}
use Rattle.der_fields.proofs.NodeLaws.{read_codec, root_codec}

some_assigned : (M : List Assignment) (t : ℕ) → t < length M → (a : Assignment) × (slice_get M t ≡ Some a)
some_assigned [] t h = absurd (omega arith)
some_assigned (a ∷ others) zero h = (a, refl)
some_assigned (a ∷ others) (suc t) h = some_assigned others t (omega arith)

module _ (M : List Assignment) (is : IsModule M) (bounded : IsBounded M) (t : ℕ) (a : Assignment) (at : slice_get M t ≡ Some a) where
  codec : Codec AreOctets (FitsAt M 1 a.body) node_count (λ v n. der M None a.body v) (root_at M a.body)
  codec = root_codec M is bounded a.body (body-of M t a at)

  octets_are : (v : Rose ValueLabel) → distinguished M t v ≡ der M None a.body v
  octets_are v = ap (λ (o : Option Assignment). elim o as (λ _. List ℕ) [ None ↦ [] | Some b ↦ der M None b.body v ]) at

  reading_is : (X : List ℕ) → reading_of M t X ≡ Some (root_at M a.body X start)
  reading_is X = ap (λ (o : Option Assignment). elim o as (λ _. Option (Result (Rose ValueLabel × Spot) Stop)) [ None ↦ None | Some b ↦ Some (root_at M b.body X start) ]) at

  abbrev fits_in : Rose ValueLabel → Option Assignment → Type 0
  fits_in v o = elim o [ None ↦ ⊥ | Some b ↦ FitsAt M 1 b.body v ]

  fits_body : (v : Rose ValueLabel) → Fits M t v → FitsAt M 1 a.body v
  fits_body v h = subst (fits_in v) at h

  body_fits : (v : Rose ValueLabel) → FitsAt M 1 a.body v → Fits M t v
  body_fits v h = subst (fits_in v) (sym at) h

  some_is : {A : Type 0} (x y : A) → Some x ≡ Some y → x ≡ y
  some_is x y e = cc

  stops_body : (X : List ℕ) (stop : Stop) → Stops M t X stop → root_at M a.body X start ≡ Err stop
  stops_body X stop h = some_is (root_at M a.body X start) (Err stop) (sym (reading_is X) ∙ h)

  body_stops : (X : List ℕ) (stop : Stop) → root_at M a.body X start ≡ Err stop → Stops M t X stop
  body_stops X stop h = reading_is X ∙ ap Some h

  begins_read : (X : List ℕ) (v : Rose ValueLabel) → Begins M t X v → root_at M a.body X start ≡ Ok (v, moved start (length (der M None a.body v)) (node_count v))
  begins_read X v b =
      codec.again X b.rest start v tt (fits_body v b.value.0) (omega (arith, b.value.1)) (record { inside = omega arith; is = b.is ∙ ap (λ m. m ++ b.rest) (octets_are v) })

  either_of : (X : List ℕ) → AreOctets X → (r : Result (Rose ValueLabel × Spot) Stop) → root_at M a.body X start ≡ r → ((v : Rose ValueLabel) × Begins M t X v) ⊎ ((stop : Stop) × Stops M t X stop)
  either_of X fine (Ok x) e =
      let k = codec.takes X start x fine (omega arith) e in
      inl (x.0, record { rest = drop x.1.at X; is = k.0.taken.parts ∙ ap (λ m. m ++ drop x.1.at X) (sym (octets_are x.0)); value = (body_fits x.0 k.1, omega (arith, k.0.nodes, k.0.few (omega arith))) })
  either_of X fine (Err stop) e = inr (stop, body_stops X stop e)

  not_both_of : (X : List ℕ) (v : Rose ValueLabel) (stop : Stop) → Begins M t X v → Stops M t X stop → ⊥
  not_both_of X v stop b h = let d = begins_read X v b in let e = stops_body X stop h in cc (d, e)

  rest_is : (X : List ℕ) (v : Rose ValueLabel) (b : Begins M t X v) → b.rest ≡ drop (length (distinguished M t v)) X
  rest_is X v b = sym (ap (drop (length (distinguished M t v))) b.is ∙ drop_at (distinguished M t v) b.rest (length (distinguished M t v)) refl)

  one_value_of : (X : List ℕ) (v w : Rose ValueLabel) (b : Begins M t X v) (c : Begins M t X w) → (v ≡ w) × (b.rest ≡ c.rest)
  one_value_of X v w b c =
      let d = begins_read X v b in
      let e = begins_read X w c in
      let same : v ≡ w =
      ap (λ (y : Rose ValueLabel × Spot). y.0) (ok_is {S = Stop} (v, moved start (length (der M None a.body v)) (node_count v)) (w, moved start (length (der M None a.body w)) (node_count w)) (sym d ∙ e)) in
      (same, rest_is X v b ∙ ap (λ u. drop (length (distinguished M t u)) X) same ∙ sym (rest_is X w c))

pub either : Either
either M t octets is bounded h fine = let s = some_assigned M t h in either_of M is bounded t s.0 s.1 octets fine (root_at M s.0.body octets start) refl

pub not_both : NotBoth
not_both M t octets is bounded h fine = let s = some_assigned M t h in not_both_of M is bounded t s.0 s.1 octets

pub one_value : OneValue
one_value M t octets is bounded h fine = let s = some_assigned M t h in one_value_of M is bounded t s.0 s.1 octets

pub one_stop : OneStop
one_stop M t octets is bounded h fine r s b c = cc

pub node_law : NodeLaw
node_law M is bounded depth tag t of = exactly_one AreOctets (FitsAt M depth t) node_count (λ v n. der M tag t v) (node_read M depth tag t) (read_codec M is bounded depth tag t of)
