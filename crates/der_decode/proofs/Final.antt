-- What was read of octets, as the definitions of encodings and first stops have it.
use Rattle.std.proofs.Common.{◌≡◌, ℕ, zero, suc, ◌<◌, ◌≤◌, List, [], ◌++◌, length, drop, eqb, ltb, false, sym, ap, ◌∙◌, subst, arith, Option, Some, None, Result, Ok, Err}
use Rattle.std.specs.Prelude.{slice_get}
use Rattle.std.proofs.lemmas.Bool.{lt-ltb, le-ltb}
use Rattle.base_trees.specs.Rose.{Rose, node_count}
use Rattle.simple_types.specs.declared.labels.ValueLabel.{ValueLabel}
use Rattle.asn_types.specs.declared.modules.Assignment.{Assignment}
use Rattle.asn_types.specs.declared.types.TypeLabel.{TypeLabel}
use Rattle.asn_types.specs.Bounds.{IsBounded}
use Rattle.asn_types.specs.Modules.{IsModule}
use Rattle.asn_types.proofs.Inside.{body-of}
use Rattle.asn_values.specs.Values.{FitsAt, In}
use Rattle.base_codecs.specs.declared.spots.Spot.{Spot}
use Rattle.base_codecs.specs.Codec.{Codec}
use Rattle.base_codecs.proofs.Sequences.{cond_true, cond_false}
use Rattle.der_fields.specs.declared.stops.Stop.{Stop}
use Rattle.der_fields.specs.declared.stops.Why.TheVariants.{Short}
use Rattle.der_fields.specs.FieldsReading.{AreOctets, stop_at}
use Rattle.der_fields.specs.Encoding.{der, distinguished}
use Rattle.der_fields.specs.Reading.{start, node_read, root_at}
use Rattle.der_fields.specs.Laws.{Begins, reading_of}
use Rattle.der_fields.proofs.NodeLaws.{root_codec}
use Rattle.der_decode.specs.Answers.{Says}
use Rattle.der_decode.specs.declared.faults.DerEnd.{DerEnd}
use Rattle.der_decode.specs.declared.faults.DerEnd.TheVariants as fault
use Rattle.der_decode.specs.Private.Showing.{Fails, error_of}
use Rattle.der_fields.specs.Stopping.{DerStop}
use Rattle.der_fields.proofs.StopLaw.{stops_as_read}

pub positive : (n : ℕ) → eqb n 0 ≡ false → 0 < n
positive zero e = absurd cc
positive (suc n) e = omega arith

-- THE ROOT, where there are octets, or none
module _ (M : List Assignment) (t : Rose TypeLabel) (X : List ℕ) where
  pub root_there : 0 < length X → root_at M t X start ≡ node_read M 1 None t X start
  unfolding root_at
  root_there some = cond_true (ltb 0 (length X)) (node_read M 1 None t X start) (Err (stop_at 0 Short)) (lt-ltb 0 (length X) some)

  pub root_none : length X ≤ 0 → root_at M t X start ≡ Err (stop_at 0 Short)
  unfolding root_at
  root_none none = cond_false (ltb 0 (length X)) (node_read M 1 None t X start) (Err (stop_at 0 Short)) (le-ltb 0 (length X) none)

module _ (M : List Assignment) (is : IsModule M) (bounded : IsBounded M) (t : ℕ) (a : Assignment) (at : slice_get M t ≡ Some a) (assigned : t < length M) (X : List ℕ) (fine : AreOctets X) where
  codec : Codec AreOctets (FitsAt M 1 a.body) node_count (λ v n. der M None a.body v) (root_at M a.body)
  codec = root_codec M is bounded a.body (body-of M t a at)

  octets_are : (v : Rose ValueLabel) → distinguished M t v ≡ der M None a.body v
  octets_are v = ap (λ (o : Option Assignment). elim o as (λ _. List ℕ) [ None ↦ [] | Some b ↦ der M None b.body v ]) at

  reading_is : reading_of M t X ≡ Some (root_at M a.body X start)
  reading_is = ap (λ (o : Option Assignment). elim o as (λ _. Option (Result (Rose ValueLabel × Spot) Stop)) [ None ↦ None | Some b ↦ Some (root_at M b.body X start) ]) at

  abbrev fits_in : Rose ValueLabel → Option Assignment → Type 0
  fits_in v o = elim o [ None ↦ ⊥ | Some b ↦ FitsAt M 1 b.body v ]

  -- the value that was read
  module _ (v : Rose ValueLabel) (r : Spot) (read : root_at M a.body X start ≡ Ok (v, r)) where
    pub fits_body : FitsAt M 1 a.body v
    fits_body = let k = codec.takes X start (v, r) fine (omega arith) read in k.1

    pub in_module : In M t v
    in_module = let k = codec.takes X start (v, r) fine (omega arith) read in (subst (fits_in v) (sym at) k.1, omega (arith, k.0.nodes, k.0.few (omega arith)))

    pub begins_with : Begins M t X v
    begins_with =
        let k = codec.takes X start (v, r) fine (omega arith) read in
        record { rest = drop r.at X; is = k.0.taken.parts ∙ ap (λ m. m ++ drop r.at X) (sym (octets_are v)); value = in_module }

    pub as_long : r.at ≡ length (distinguished M t v)
    as_long = let k = codec.takes X start (v, r) fine (omega arith) read in omega (arith, k.0.taken.end, ap length (octets_are v))

  -- the first stop
  pub stops_there : (stop : Stop) → root_at M a.body X start ≡ Err stop → DerStop M t X stop
  stops_there stop e = (stops_as_read M t X is bounded assigned fine stop).0 (reading_is ∙ ap Some e)

  -- what the caller is told of a fault
  pub fault_told : (e : DerEnd) → Fails e (root_at M a.body X start) → Says M t X (Err (error_of e))
  fault_told (fault.Stopped stop) h = stops_there stop h
  fault_told fault.Memory h = tt
