-- A part stops where its node stops, and where the node doesn't, but its default or fixed value isn't kept.
use Rattle.std.proofs.Common.{◌≡◌, ℕ, Bool, true, false, cond, not, List, refl, Err, inl, inr, ◌⊎◌}
use Rattle.base_trees.specs.Rose.{Rose, node_count}
use Rattle.simple_types.specs.declared.labels.ValueLabel.{ValueLabel}
use Rattle.asn_types.specs.declared.modules.Assignment.{Assignment}
use Rattle.asn_values.specs.Values.{ComponentPlace, below, FitsAt, Kept}
use Rattle.base_codecs.specs.declared.spots.Spot.{Spot}
use Rattle.base_codecs.specs.Reading.{with_spot}
use Rattle.base_codecs.proofs.Steps.{Iff, Told, Inside, none_stops, stop_err, err_stop, lacking}
use Rattle.per_fields.specs.declared.stops.Stop.{Stop}
use Rattle.per_fields.specs.declared.stops.Why.TheVariants.{DefaultWritten, NotAValue}
use Rattle.per_fields.specs.Reading.{◌>>=◌, Reader, stop_at, stop_if}
use Rattle.per_fields.specs.Codec.{Came, Codec}
use Rattle.per_fields.specs.Encoding.{per}
use Rattle.per_fields.specs.Nodes.{unkept_why, kept_at, part_at}
use Rattle.per_fields.specs.Owning.{keeps}
use Rattle.per_fields.proofs.Standards.{is_default, default_told, unkept}
use Rattle.per_fields.specs.Stopping.{IsDefault, StandardStops}
use Rattle.per_fields.proofs.Steps.{then_both}

module _ (aligned : Bool) (M : List Assignment) (X : List Bool) (p : ComponentPlace) where
  -- the part begins at a bit, and its value ends at a spot
  abbrev Unkept : ℕ → Rose ValueLabel → Spot → Stop → Type 0
  Unkept begin v r stop =
      (Kept M p.part p.type v → ⊥)
      × ((IsDefault aligned M X p v × (stop ≡ stop_at begin DefaultWritten r.at)) ⊎ ((IsDefault aligned M X p v → ⊥) × (stop ≡ stop_at begin NotAValue r.at)))

  kept_told : (begin : ℕ) (v : Rose ValueLabel) (r : Spot) (stop : Stop) → Iff (kept_at M p.part p.type begin (v, r) ≡ Err stop) (Unkept begin v r stop)
  unfolding kept_at
  kept_told begin v r stop = (forth, back)
    where
      ToldBy : Type 0
      ToldBy = (IsDefault aligned M X p v × (stop ≡ stop_at begin DefaultWritten r.at)) ⊎ ((IsDefault aligned M X p v → ⊥) × (stop ≡ stop_at begin NotAValue r.at))

      reason : (b : Bool) → Iff (b ≡ true) (IsDefault aligned M X p v) → stop ≡ stop_at begin (cond b DefaultWritten NotAValue) r.at → ToldBy
      reason true means e = inl (means.0 refl, e)
      reason false means e = inr ((lacking false (IsDefault aligned M X p v) means).0 refl, e)

      again : (b : Bool) → Iff (b ≡ true) (IsDefault aligned M X p v) → ToldBy → stop ≡ stop_at begin (cond b DefaultWritten NotAValue) r.at
      again true means (inl h) = h.1
      again true means (inr h) = absurd (h.0 (means.0 refl))
      again false means (inl h) = absurd (let f = means.1 h.0 in cc)
      again false means (inr h) = h.1

      forth : stop_if (not (keeps M p.part p.type v)) (stop_at begin (unkept_why M p.part p.type v) r.at) (with_spot v r) ≡ Err stop → Unkept begin v r stop
      forth e = elim (stop_err (not (keeps M p.part p.type v)) (stop_at begin (unkept_why M p.part p.type v) r.at) (with_spot v r) stop e) [
        | inl h ↦ ((unkept M p v).0 h.0, reason (is_default M p v) (default_told M p v) h.1)
        | inr h ↦ none_stops v r stop h.1
      ]

      back : Unkept begin v r stop → stop_if (not (keeps M p.part p.type v)) (stop_at begin (unkept_why M p.part p.type v) r.at) (with_spot v r) ≡ Err stop
      back h =
          err_stop (not (keeps M p.part p.type v)) (stop_at begin (unkept_why M p.part p.type v) r.at) stop (with_spot v r) ((unkept M p v).1 h.0) (again (is_default M p v) (default_told M p v) h.1)

  pub part_told : (depth : ℕ) (read : Reader (Rose ValueLabel)) → Codec (FitsAt M (below p.role depth) p.type) node_count (per aligned M p.type) read → (Kid Kid' : Type 0) (s : Spot) (stop : Stop) → Inside X s
      → Told (read X s ≡ Err stop) Kid Kid' → Told (part_at M p read X s ≡ Err stop) (Kid ⊎ StandardStops aligned M X depth p s stop) (Kid' ⊎ StandardStops aligned M X depth p s stop)
  part_told depth read codec Kid Kid' s stop inside known = (λ e. forth (told.0 e), λ h. told.1 (back h))
    where
      told : Told ((read X s >>= kept_at M p.part p.type s.at) ≡ Err stop)
          (Kid ⊎ ((v : Rose ValueLabel) × (r : Spot) × FitsAt M (below p.role depth) p.type v × Came X s r (per aligned M p.type v s.at) (node_count v) × Unkept s.at v r stop))
          (Kid' ⊎ ((v : Rose ValueLabel) × (r : Spot) × FitsAt M (below p.role depth) p.type v × Came X s r (per aligned M p.type v s.at) (node_count v) × Unkept s.at v r stop))
      told =
          then_both X (FitsAt M (below p.role depth) p.type) node_count (per aligned M p.type) read codec (kept_at M p.part p.type s.at) Kid Kid' (λ v r. Unkept s.at v r stop) (λ v r. Unkept s.at v r stop) s stop inside known
          (λ v r fits in_. kept_told s.at v r stop)

      forth : Kid ⊎ ((v : Rose ValueLabel) × (r : Spot) × FitsAt M (below p.role depth) p.type v × Came X s r (per aligned M p.type v s.at) (node_count v) × Unkept s.at v r stop) → Kid ⊎ StandardStops aligned M X depth p s stop
      forth (inl h) = inl h
      forth (inr k) = inr (k.0, k.1, (k.2, k.3), k.4.0, k.4.1)

      back : Kid' ⊎ StandardStops aligned M X depth p s stop → Kid' ⊎ ((v : Rose ValueLabel) × (r : Spot) × FitsAt M (below p.role depth) p.type v × Came X s r (per aligned M p.type v s.at) (node_count v) × Unkept s.at v r stop)
      back (inl h) = inl h
      back (inr k) = inr (k.0, k.1, k.2.0, k.2.1, (k.3, k.4))
