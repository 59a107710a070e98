-- The first stop is the one that reading gives. So exactly one holds of all octets: they begin with a complete encoding, or have a
-- first stop.
use Rattle.std.specs.Prelude.{◌≡◌, ℕ, ◌⊎◌, Bool, true, List}
use Rattle.base_trees.specs.Rose.{Rose}
use Rattle.simple_types.specs.declared.labels.ValueLabel.{ValueLabel}
use Rattle.asn_types.specs.declared.modules.Assignment.{Assignment}
use Rattle.per_fields.specs.declared.stops.Stop.{Stop}
use Rattle.per_fields.specs.Laws.{BeginsBy, StopsBy, ForAll}
use Rattle.per_fields.specs.Stopping.{StopsFirstBy}

module _ (aligned : Bool) where
  -- Reading stops exactly where octets stop first.
  abbrev pub StopsAsReadBy : Type 0
  StopsAsReadBy = ForAll (λ M t X. (stop : Stop) → (StopsBy aligned M t X stop → StopsFirstBy aligned M t X stop) × (StopsFirstBy aligned M t X stop → StopsBy aligned M t X stop))

  -- Octets begin with the encoding of one value, which is one prefix, or they stop at one place for one reason. They never do both.
  pub record IsOneOfTwoBy (M : List Assignment) (t : ℕ) (X : List Bool) : Type 0 where
    pub either : ((v : Rose ValueLabel) × BeginsBy aligned M t X v) ⊎ ((stop : Stop) × StopsFirstBy aligned M t X stop)
    pub not_both : (v : Rose ValueLabel) (stop : Stop) → BeginsBy aligned M t X v → StopsFirstBy aligned M t X stop → ⊥
    pub one_value : (v w : Rose ValueLabel) (b : BeginsBy aligned M t X v) (c : BeginsBy aligned M t X w) → (v ≡ w) × (b.rest ≡ c.rest)
    pub one_stop : (r s : Stop) → StopsFirstBy aligned M t X r → StopsFirstBy aligned M t X s → r ≡ s

  abbrev pub OneOfTwoBy : Type 0
  OneOfTwoBy = ForAll (λ M t X. IsOneOfTwoBy M t X)

-- THE LAWS OF THE FIRST STOP, in the aligned variant.
abbrev pub StopsAsRead : Type 0
StopsAsRead = StopsAsReadBy true

abbrev pub IsOneOfTwo : List Assignment → ℕ → List Bool → Type 0
IsOneOfTwo = IsOneOfTwoBy true

abbrev pub OneOfTwo : Type 0
OneOfTwo = OneOfTwoBy true
