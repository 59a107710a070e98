-- The first stop is the one that reading gives. So exactly one holds of all octets: they begin with those of a value, or have a
-- first stop.
use Rattle.std.specs.Prelude.{◌≡◌, ℕ, ◌⊎◌, List}
use Rattle.base_trees.specs.Rose.{Rose}
use Rattle.simple_types.specs.declared.labels.ValueLabel.{ValueLabel}
use Rattle.asn_types.specs.declared.modules.Assignment.{Assignment}
use Rattle.der_fields.specs.declared.stops.Stop.{Stop}
use Rattle.der_fields.specs.Laws.{Begins, Stops, ForAll}
use Rattle.der_fields.specs.Stopping.{DerStop}

-- Reading stops exactly where octets stop first.
abbrev pub StopsAsRead : Type 0
StopsAsRead = ForAll (λ M t X. (stop : Stop) → (Stops M t X stop → DerStop M t X stop) × (DerStop M t X stop → Stops M t X stop))

-- Octets begin with those of one value, which are one prefix, or they stop at one place for one reason. They never do both.
pub record IsOneOfTwo (M : List Assignment) (t : ℕ) (X : List ℕ) : Type 0 where
  pub either : ((v : Rose ValueLabel) × Begins M t X v) ⊎ ((stop : Stop) × DerStop M t X stop)
  pub not_both : (v : Rose ValueLabel) (stop : Stop) → Begins M t X v → DerStop M t X stop → ⊥
  pub one_value : (v w : Rose ValueLabel) (b : Begins M t X v) (c : Begins M t X w) → (v ≡ w) × (b.rest ≡ c.rest)
  pub one_stop : (r s : Stop) → DerStop M t X r → DerStop M t X s → r ≡ s

abbrev pub OneOfTwo : Type 0
OneOfTwo = ForAll (λ M t X. IsOneOfTwo M t X)
