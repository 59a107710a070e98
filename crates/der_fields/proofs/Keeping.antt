-- A part stops where its node stops, and where the node doesn't, but its default or fixed value isn't kept.
use Rattle.std.proofs.Common.{◌≡◌, ℕ, Bool, true, false, cond, not, List, refl, Err, inl, inr, ◌⊎◌}
use Rattle.base_trees.specs.Rose.{Rose, node_count}
use Rattle.simple_types.specs.declared.labels.ValueLabel.{ValueLabel}
use Rattle.asn_types.specs.declared.modules.Assignment.{Assignment}
use Rattle.asn_values.specs.Values.{ComponentPlace, below, FitsAt, Kept}
use Rattle.base_codecs.specs.declared.spots.Spot.{Spot}
use Rattle.base_codecs.specs.Reading.{◌>>=◌, stop_if, with_spot}
use Rattle.base_codecs.specs.Codec.{Came, Anything, Codec}
use Rattle.base_codecs.proofs.Steps.{Iff, Told, Inside, stop_err, err_stop, none_stops, then_told, lacking}
use Rattle.der_fields.specs.declared.stops.Stop.{Stop}
use Rattle.der_fields.specs.declared.stops.Why.TheVariants.{DefaultWritten, NotAValue}
use Rattle.der_fields.specs.FieldsReading.{stop_at, AreOctets, Octets}
use Rattle.per_fields.specs.Owning.{keeps}
use Rattle.per_fields.proofs.Standards.{is_default, default_told, unkept}
use Rattle.der_fields.specs.Encoding.{TaggedPlace, der}
use Rattle.der_fields.specs.Reading.{unkept_why, kept_at, part_at}
use Rattle.der_fields.specs.Stopping.{IsDefault, StandardStops}

module _ (M : List Assignment) (p : ComponentPlace) where
  -- the part begins at an octet
  abbrev Unkept : ℕ → Rose ValueLabel → Stop → Type 0
  Unkept begin v stop =
      (Kept M p.part p.type v → ⊥)
      × ((IsDefault M p v × (stop ≡ stop_at begin DefaultWritten)) ⊎ ((IsDefault M p v → ⊥) × (stop ≡ stop_at begin NotAValue)))

  kept_told : (begin : ℕ) (v : Rose ValueLabel) (r : Spot) (stop : Stop) → Iff (kept_at M p.part p.type begin (v, r) ≡ Err stop) (Unkept begin v stop)
  unfolding kept_at
  kept_told begin v r stop = (forth, back)
    where
      ToldBy : Type 0
      ToldBy = (IsDefault M p v × (stop ≡ stop_at begin DefaultWritten)) ⊎ ((IsDefault M p v → ⊥) × (stop ≡ stop_at begin NotAValue))

      reason : (b : Bool) → Iff (b ≡ true) (IsDefault M p v) → stop ≡ stop_at begin (cond b DefaultWritten NotAValue) → ToldBy
      reason true means e = inl (means.0 refl, e)
      reason false means e = inr ((lacking false (IsDefault M p v) means).0 refl, e)

      again : (b : Bool) → Iff (b ≡ true) (IsDefault M p v) → ToldBy → stop ≡ stop_at begin (cond b DefaultWritten NotAValue)
      again true means (inl h) = h.1
      again true means (inr h) = absurd (h.0 (means.0 refl))
      again false means (inl h) = absurd (let f = means.1 h.0 in cc)
      again false means (inr h) = h.1

      forth : stop_if (not (keeps M p.part p.type v)) (stop_at begin (unkept_why M p.part p.type v)) (with_spot v r) ≡ Err stop → Unkept begin v stop
      forth e = elim (stop_err (not (keeps M p.part p.type v)) (stop_at begin (unkept_why M p.part p.type v)) (with_spot v r) stop e) [
        | inl h ↦ ((unkept M p v).0 h.0, reason (is_default M p v) (default_told M p v) h.1)
        | inr h ↦ none_stops {S = Stop} v r stop h.1
      ]

      back : Unkept begin v stop → stop_if (not (keeps M p.part p.type v)) (stop_at begin (unkept_why M p.part p.type v)) (with_spot v r) ≡ Err stop
      back h = err_stop (not (keeps M p.part p.type v)) (stop_at begin (unkept_why M p.part p.type v)) stop (with_spot v r) ((unkept M p v).1 h.0) (again (is_default M p v) (default_told M p v) h.1)

module _ (M : List Assignment) (p : TaggedPlace) (X : List ℕ) (fine : AreOctets X) where
  pub part_told : (depth : ℕ) (read : Octets (Rose ValueLabel)) → Codec AreOctets (FitsAt M (below p.place.role depth) p.place.type) node_count (λ v n. der M p.tag p.place.type v) read → (Kid Kid' : Type 0) (s : Spot) (stop : Stop)
      → Inside X s → Told (read X s ≡ Err stop) Kid Kid' → Told (part_at M p.place read X s ≡ Err stop) (Kid ⊎ StandardStops M depth p X s stop) (Kid' ⊎ StandardStops M depth p X s stop)
  part_told depth read codec Kid Kid' s stop inside known = (λ e. forth (told.0 e), λ h. told.1 (back h))
    where
      Behind : Type 0
      Behind =
          (v : Rose ValueLabel) × (r : Spot) × FitsAt M (below p.place.role depth) p.place.type v × Came X s r (der M p.tag p.place.type v) (node_count v) × Unit {0} × Unkept M p.place s.at v stop

      told : Told ((read X s >>= kept_at M p.place.part p.place.type s.at) ≡ Err stop) (Kid ⊎ Behind) (Kid' ⊎ Behind)
      told =
          then_told AreOctets Anything X fine (FitsAt M (below p.place.role depth) p.place.type) node_count (λ v n. der M p.tag p.place.type v) read codec (kept_at M p.place.part p.place.type s.at) Kid Kid'
          (λ v r. Unkept M p.place s.at v stop) (λ v r. Unkept M p.place s.at v stop) s stop inside known
          (λ v r fits in_. kept_told M p.place s.at v r stop)

      forth : Kid ⊎ Behind → Kid ⊎ StandardStops M depth p X s stop
      forth (inl h) = inl h
      forth (inr k) = inr (k.0, k.1, (k.2, k.3), k.5.0, k.5.1)

      back : Kid' ⊎ StandardStops M depth p X s stop → Kid' ⊎ Behind
      back (inl h) = inl h
      back (inr k) = inr (k.0, k.1, k.2.0, k.2.1, tt, (k.3, k.4))
