-- Octets begin with those of one value, or reading stops at one place for one reason.
use Rattle.std.specs.Prelude.{◌≡◌, ℕ, ◌<◌, ◌⊎◌, Option, Some, None, List, ◌++◌, length, slice_get, Result, Err}
use Rattle.base_trees.specs.Rose.{Rose, node_count, label_of, kids_of}
use Rattle.simple_types.specs.declared.labels.ValueLabel.{ValueLabel}
use Rattle.asn_types.specs.declared.modules.Assignment.{Assignment}
use Rattle.asn_types.specs.declared.types.TypeLabel.{TypeLabel}
use Rattle.asn_types.specs.Bounds.{IsBounded}
use Rattle.asn_types.specs.Modules.{IsModule}
use Rattle.asn_types.specs.Refs.{resolve, IsOf}
use Rattle.asn_values.specs.Values.{In, FitsAt, below}
use Rattle.base_codecs.specs.declared.spots.Spot.{Spot}
use Rattle.base_codecs.specs.Codec.{ExactlyOne}
use Rattle.base_codecs.specs.Reading.{◌>>=◌}
use Rattle.der_fields.specs.declared.stops.Stop.{Stop}
use Rattle.der_fields.specs.FieldsReading.{AreOctets}
use Rattle.der_fields.specs.Encoding.{der, distinguished}
use Rattle.der_fields.specs.Reading.{headed_at, part_at, owned_at, node_read, start, root_at}

-- THE LAW OF NODES, for each type of a module, with a tag or without, and each nesting depth of elements.
abbrev pub NodeLaw : Type 0
NodeLaw = (M : List Assignment) → IsModule M → IsBounded M → (depth : ℕ) (tag : Option ℕ) (t : Rose TypeLabel) → IsOf M t
    → ExactlyOne AreOctets (FitsAt M depth t) node_count (λ v p. der M tag t v) (node_read M depth tag t)

-- Reading a node is a recursion: on its identifier, length and contents, its children, and its rule. The children are read
-- likewise.
abbrev pub NodeRecursion : Type 0
NodeRecursion = (M : List Assignment) → IsModule M → (depth : ℕ) (tag : Option ℕ) (t : Rose TypeLabel) → IsOf M t → (X : List ℕ) (s : Spot)
    → node_read M depth tag t X s
    ≡ (headed_at M (λ p. part_at M p.place (node_read M (below p.place.role depth) p.tag p.place.type)) depth tag (label_of (resolve M t)) (kids_of (resolve M t)) X s
    >>= owned_at M s.at (resolve M t))

-- THE LAW OF OCTETS. They begin with those of a value.
pub record Begins (M : List Assignment) (t : ℕ) (X : List ℕ) (v : Rose ValueLabel) : Type 0 where
  pub rest : List ℕ
  pub is : X ≡ distinguished M t v ++ rest
  pub value : In M t v

-- The result of reading octets as those of a value of the type of assignment t.
abbrev pub reading_of : List Assignment → ℕ → List ℕ → Option (Result (Rose ValueLabel × Spot) Stop)
reading_of M t X = elim (slice_get M t) [ None ↦ None | Some a ↦ Some (root_at M a.body X start) ]

abbrev pub Stops : List Assignment → ℕ → List ℕ → Stop → Type 0
Stops M t X stop = reading_of M t X ≡ Some (Err stop)

-- P holds for each module, type and octets.
abbrev pub ForAll : (List Assignment → ℕ → List ℕ → Type 0) → Type 0
ForAll P = (M : List Assignment) (t : ℕ) (octets : List ℕ) → IsModule M → IsBounded M → t < length M → AreOctets octets → P M t octets

-- Octets begin with those of a value, or they stop.
abbrev pub Either : Type 0
Either = ForAll (λ M t X. ((v : Rose ValueLabel) × Begins M t X v) ⊎ ((stop : Stop) × Stops M t X stop))

-- Octets never do both.
abbrev pub NotBoth : Type 0
NotBoth = ForAll (λ M t X. (v : Rose ValueLabel) (stop : Stop) → Begins M t X v → Stops M t X stop → ⊥)

-- Octets begin with those of one value, which are one prefix.
abbrev pub OneValue : Type 0
OneValue = ForAll (λ M t X. (v w : Rose ValueLabel) (b : Begins M t X v) (c : Begins M t X w) → (v ≡ w) × (b.rest ≡ c.rest))

-- Octets stop at one place, for one reason.
abbrev pub OneStop : Type 0
OneStop = ForAll (λ M t X. (r s : Stop) → Stops M t X r → Stops M t X s → r ≡ s)
