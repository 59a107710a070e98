-- The values of which octets are the complete encodings (X.691), one after another.
use Rattle.std.specs.Prelude.{◌≡◌, ℕ, ◌*◌, ◌<◌, ◌≤◌, Bool, List, [], ◌∷◌, ◌++◌, length, take}
use Rattle.base_trees.specs.Rose.{Rose}
use Rattle.base_codecs.specs.Bits.{octet_bits}
use Rattle.simple_types.specs.declared.labels.ValueLabel.{ValueLabel}
use Rattle.asn_types.specs.declared.modules.Assignment.{Assignment}
use Rattle.asn_types.specs.Bounds.{IsBounded}
use Rattle.asn_types.specs.Modules.{IsModule}
use Rattle.asn_values.specs.Values.{In}
use Rattle.per_fields.specs.Codec.{AllOf}
use Rattle.per_fields.specs.Encoding.{complete}

-- for the type of assignment t
module _ (M : List Assignment) (t : ℕ) where
  -- the complete encodings of values, one after another
  abbrev pub encodings : List (Rose ValueLabel) → List Bool
  encodings [] = []
  encodings (v ∷ vs) = complete M t v ++ encodings vs

  -- a value whose complete encoding has at most 16,777,216 octets
  abbrev pub IsRecord : Rose ValueLabel → Type 0
  IsRecord v = In M t v × (length (complete M t v) ≤ 8 * 16777216)

  -- the first `count` octets are the complete encodings of these values, one after another
  pub record BeginWith (octets : List ℕ) (values : List (Rose ValueLabel)) (count : ℕ) : Type 0 where
    pub inside : count ≤ length octets
    pub records : AllOf IsRecord values
    pub is : octet_bits (take count octets) ≡ encodings values

  -- THE CUT of octets: the longest list of values with whose encodings they begin, and how many octets these have
  pub record IsCut (octets : List ℕ) (values : List (Rose ValueLabel)) (count : ℕ) : Type 0 where
    pub begin : BeginWith octets values count
    pub longest : (others : List (Rose ValueLabel)) (n : ℕ) → BeginWith octets others n → length others ≤ length values

-- for each module and each of its types
abbrev pub ForTypes : (List Assignment → ℕ → Type 0) → Type 0
ForTypes P = (M : List Assignment) (t : ℕ) → IsModule M → IsBounded M → t < length M → P M t

-- THE LAW: two lists of values whose encodings, one after another, are the same octets are equal
abbrev pub OneList : Type 0
OneList = ForTypes (λ M t. (octets : List ℕ) (vs ws : List (Rose ValueLabel)) → AllOf (In M t) vs → AllOf (In M t) ws
    → octet_bits octets ≡ encodings M t vs → octet_bits octets ≡ encodings M t ws → vs ≡ ws)

-- of all octets there is a cut,
abbrev pub SomeCut : Type 0
SomeCut = ForTypes (λ M t. (octets : List ℕ) → (values : List (Rose ValueLabel)) × (count : ℕ) × IsCut M t octets values count)

-- and no second
abbrev pub OneCut : Type 0
OneCut = ForTypes (λ M t. (octets : List ℕ) (vs ws : List (Rose ValueLabel)) (m n : ℕ) → IsCut M t octets vs m → IsCut M t octets ws n → (vs ≡ ws) × (m ≡ n))
