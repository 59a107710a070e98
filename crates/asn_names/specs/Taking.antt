-- Names that are kept distinct: in one scope no two are equal, and no reference is a reserved word.
use Rattle.std.specs.Prelude.{◌≡◌, ℕ, ◌<◌, ◌⊎◌, List, ◌∷◌, ◌++◌, decimal}
use Rattle.std.specs.List.{Contains}
use Rattle.asn_names.specs.declared.conversion.NameKind.{NameKind}
use Rattle.asn_names.specs.declared.conversion.NameKind.TheVariants.{Reference, Identifier}
use Rattle.asn_names.specs.ReservedWords.{reserved_words}

-- Reserved words exclude references only.
abbrev pub IsAllowed : NameKind → List ℕ → Type 0
IsAllowed Reference name = ¬ Contains reserved_words name
IsAllowed Identifier name = Unit {0}

-- The name differs from all names in use, and is allowed for its kind.
abbrev pub IsFree : NameKind → List (List ℕ) → List ℕ → Type 0
IsFree kind before name = (¬ Contains before name) × IsAllowed kind name

-- The name, a hyphen and the number in decimal digits.
abbrev pub suffixed : List ℕ → ℕ → List ℕ
suffixed name n = name ++ 0x2D ∷ decimal n

-- The number is the least positive one whose suffix makes the name free.
pub record IsLeastSuffix (kind : NameKind) (before : List (List ℕ)) (name : List ℕ) (n : ℕ) : Type 0 where
  pub positive : 0 < n
  pub free : IsFree kind before (suffixed name n)
  pub least : (k : ℕ) → 0 < k → k < n → ¬ IsFree kind before (suffixed name k)

-- The name chosen is the name itself if it is free, or else the name with the least suffix.
abbrev pub IsTaken : NameKind → List (List ℕ) → List ℕ → List ℕ → Type 0
IsTaken kind before name given =
    (IsFree kind before name × (given ≡ name))
    ⊎ ((¬ IsFree kind before name) × (n : ℕ) × IsLeastSuffix kind before name n × (given ≡ suffixed name n))

-- Each name with a suffix below n is in use.
abbrev pub AreTakenBelow : List (List ℕ) → List ℕ → ℕ → Type 0
AreTakenBelow before name n = (k : ℕ) → 0 < k → k < n → Contains before (suffixed name k)
