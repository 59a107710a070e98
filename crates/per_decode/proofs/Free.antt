-- Parts without a default or fixed value: those of a CHOICE and of a SEQUENCE OF in a module.
use Rattle.std.proofs.Common.{◌≡◌, ℕ, List, refl, ap, Bool, not, Result, Ok, Err}
use Rattle.base_trees.specs.Rose.{Rose}
use Rattle.simple_types.specs.declared.labels.ValueLabel.{ValueLabel}
use Rattle.simple_types.specs.declared.standards.Standard.TheVariants.{Free}
use Rattle.asn_types.specs.declared.modules.Assignment.{Assignment}
use Rattle.asn_types.specs.declared.types.Component.{Component}
use Rattle.asn_types.specs.declared.types.TypeLabel.{TypeLabel}
use Rattle.asn_values.specs.Values.{Kept}
use Rattle.asn_values.proofs.Standards.{free-kept}
use Rattle.base_codecs.specs.declared.spots.Spot.{Spot}
use Rattle.per_fields.specs.declared.stops.Stop.{Stop}
use Rattle.per_fields.specs.Reading.{◌>>=◌, stop_at, stop_if}
use Rattle.per_fields.specs.Nodes.{unkept_why, kept_at, node_read}
use Rattle.per_fields.proofs.Owns.{kept_keeps}
use Rattle.per_decode.specs.Private.Bodies.{part_read}

module _ (M : List Assignment) (part : Component) (t : Rose TypeLabel) where
  -- a kept value is taken
  pub kept-goes : (begin : ℕ) (v : Rose ValueLabel) (r : Spot) → Kept M part t v → kept_at M part t begin (v, r) ≡ Ok (v, r)
  unfolding kept_at
  kept-goes begin v r kept = ap (λ b. stop_if (not b) (stop_at begin (unkept_why M part t v) r.at) (Ok (v, r))) (kept_keeps M part t v kept)

  free_goes : (begin : ℕ) → part.standard ≡ Free → (r : Result (Rose ValueLabel × Spot) Stop) → (r >>= kept_at M part t begin) ≡ r
  free_goes begin free (Ok v) = kept-goes begin v.0 v.1 (free-kept M part t v.0 free)
  free_goes begin free (Err e) = refl

-- such a part is its node
pub free-read : (aligned : Bool) (M : List Assignment) (depth : ℕ) (part : Component) (t : Rose TypeLabel) → part.standard ≡ Free → (X : List Bool) (s : Spot) → part_read aligned M depth part t X s ≡ node_read aligned M depth t X s
free-read aligned M depth part t free X s = free_goes M part t s.at free (node_read aligned M depth t X s)
