-- Transfer syntaxes: of each the encoding of a value, the octets that begin with one, and the first fault of those that don't.
-- A further syntax is a row of each, and one of the law below.
use Rattle.std.specs.Prelude.{◌≡◌, ◌⊎◌, ℕ, ◌*◌, ◌<◌, ◌≤◌, Bool, true, false, All, List, length}
use Rattle.base_trees.specs.Rose.{Rose}
use Rattle.simple_types.specs.declared.labels.ValueLabel.{ValueLabel}
use Rattle.asn_types.specs.declared.modules.Assignment.{Assignment}
use Rattle.asn_types.specs.Modules.{IsModule}
use Rattle.asn_types.specs.Bounds.{IsBounded}
use Rattle.asn_values.specs.Values.{In}
use Rattle.base_codecs.specs.Bits.{octet_bits}
use Rattle.per_fields.specs.declared.stops.Stop.{Stop}
use Rattle.per_fields.specs.Encoding.{complete_by}
use Rattle.per_fields.specs.Laws.{BeginsBy}
use Rattle.per_fields.specs.Stopping.{StopsFirstBy}
use Rattle.per_fields.specs.Stops.{is_short}
use Rattle.der_fields.specs.declared.stops.Stop.{Stop as DerStopping}
use Rattle.der_fields.specs.FieldsReading.{AreOctets}
use Rattle.der_fields.specs.Encoding.{distinguished}
use Rattle.der_fields.specs.Laws.{Begins}
use Rattle.der_fields.specs.Stopping.{DerStop}
use Rattle.transcode_words.specs.declared.outcome.Outcome.{Outcome}
use Rattle.transcode_words.specs.declared.outcome.Outcome.TheVariants.{PerFault, DerFault}
use Rattle.transcode_words.specs.declared.tasks.Syntax.{Syntax}
use Rattle.transcode_words.specs.declared.tasks.Syntax.TheVariants.{Aligned, Unaligned, Der}

-- a first fault: how it is told, whether the octets end before it is decided, and the bit behind what shows it, or behind all octets
-- where they are all there before any is looked at
pub record Fault : Type 0 where
  pub refusal : Outcome
  pub is_open : Bool
  pub end : ℕ

-- that of a field or node (X.691)
abbrev pub fault_of : Stop → Fault
fault_of stop = record { refusal = PerFault stop.bit stop.why; is_open = is_short stop.why; end = stop.end }

-- that of a node (X.690)
abbrev pub der_fault_of : List ℕ → DerStopping → Fault
der_fault_of octets stop = record { refusal = DerFault stop.at stop.why; is_open = false; end = 8 * length octets }

-- PER (X.691), in one of its variants
abbrev pub per_syntax : Bool → Syntax
per_syntax true = Aligned
per_syntax false = Unaligned

module _ (aligned : Bool) (M : List Assignment) (t : ℕ) where
  abbrev pub IsPer : Rose ValueLabel → List ℕ → Type 0
  IsPer v octets = octet_bits octets ≡ complete_by aligned M t v

  abbrev pub BeginsWithPer : List ℕ → Rose ValueLabel → ℕ → Type 0
  BeginsWithPer octets v count = BeginsBy aligned M t (octet_bits octets) v × (8 * count ≡ length (complete_by aligned M t v))

  abbrev pub HasPerFault : List ℕ → Fault → Type 0
  HasPerFault octets fault = (stop : Stop) × StopsFirstBy aligned M t (octet_bits octets) stop × (fault ≡ fault_of stop)

-- DER (X.690)
module _ (M : List Assignment) (t : ℕ) where
  abbrev pub IsDer : Rose ValueLabel → List ℕ → Type 0
  IsDer v octets = octets ≡ distinguished M t v

  abbrev pub BeginsWithDer : List ℕ → Rose ValueLabel → ℕ → Type 0
  BeginsWithDer octets v count = Begins M t octets v × (count ≡ length (distinguished M t v))

  abbrev pub HasDerFault : List ℕ → Fault → Type 0
  HasDerFault octets fault = (stop : DerStopping) × DerStop M t octets stop × (fault ≡ der_fault_of octets stop)

-- these octets are the encoding of the value, which is of the type of assignment t
abbrev pub IsEncoding : Syntax → List Assignment → ℕ → Rose ValueLabel → List ℕ → Type 0
IsEncoding Aligned M t v octets = IsPer true M t v octets
IsEncoding Unaligned M t v octets = IsPer false M t v octets
IsEncoding Der M t v octets = IsDer M t v octets

-- the first so many octets are the encoding of a value of the type
abbrev pub BeginsWith : Syntax → List Assignment → ℕ → List ℕ → Rose ValueLabel → ℕ → Type 0
BeginsWith Aligned M t octets v count = BeginsWithPer true M t octets v count
BeginsWith Unaligned M t octets v count = BeginsWithPer false M t octets v count
BeginsWith Der M t octets v count = BeginsWithDer M t octets v count

-- the octets have this first fault
abbrev pub HasFault : Syntax → List Assignment → ℕ → List ℕ → Fault → Type 0
HasFault Aligned M t octets fault = HasPerFault true M t octets fault
HasFault Unaligned M t octets fault = HasPerFault false M t octets fault
HasFault Der M t octets fault = HasDerFault M t octets fault

-- of numbers that are told by their last 8 bits, that they have no others
abbrev pub HaveEightBits : Syntax → List ℕ → Type 0
HaveEightBits Aligned octets = All (λ x. x < 256) octets
HaveEightBits Unaligned octets = All (λ x. x < 256) octets
HaveEightBits Der octets = Unit {0}

-- the lists that a syntax takes for octets: any of numbers that are told by their last 8 bits, else those of octets alone
abbrev pub AreOctetsOf : Syntax → List ℕ → Type 0
AreOctetsOf Aligned octets = Unit {0}
AreOctetsOf Unaligned octets = Unit {0}
AreOctetsOf Der octets = AreOctets octets

-- Octets begin with the encoding of a value, or have a first fault; of one value, or one fault; and never both. They begin with
-- an encoding that they are, and are an encoding that they begin with and that ends where they do.
pub record IsOneOfTwo (syntax : Syntax) (M : List Assignment) (t : ℕ) (octets : List ℕ) : Type 0 where
  pub either : ((v : Rose ValueLabel) × (count : ℕ) × BeginsWith syntax M t octets v count) ⊎ ((fault : Fault) × HasFault syntax M t octets fault)
  pub not_both : (v : Rose ValueLabel) (count : ℕ) (fault : Fault) → BeginsWith syntax M t octets v count → HasFault syntax M t octets fault → ⊥
  pub one_value : (v w : Rose ValueLabel) (m n : ℕ) → BeginsWith syntax M t octets v m → BeginsWith syntax M t octets w n → (v ≡ w) × (m ≡ n)
  pub one_fault : (f g : Fault) → HasFault syntax M t octets f → HasFault syntax M t octets g → f ≡ g
  pub within : (v : Rose ValueLabel) (count : ℕ) → BeginsWith syntax M t octets v count → count ≤ length octets
  pub begins : (v : Rose ValueLabel) → In M t v → IsEncoding syntax M t v octets → BeginsWith syntax M t octets v (length octets)
  pub ends : (v : Rose ValueLabel) (count : ℕ) → BeginsWith syntax M t octets v count → length octets ≤ count → In M t v × IsEncoding syntax M t v octets

-- THE LAW OF A TRANSFER SYNTAX: exactly one of both, and each value has one encoding. No longer than an input may be, it is of octets.
pub record SyntaxLaw (syntax : Syntax) : Type 0 where
  pub one_of_two : (M : List Assignment) (t : ℕ) (octets : List ℕ) → IsModule M → IsBounded M → t < length M → AreOctetsOf syntax octets → IsOneOfTwo syntax M t octets
  pub encodes : (M : List Assignment) (t : ℕ) (v : Rose ValueLabel) → (octets : List ℕ) × IsEncoding syntax M t v octets × HaveEightBits syntax octets
  pub one_encoding : (M : List Assignment) (t : ℕ) (v : Rose ValueLabel) (xs ys : List ℕ) → HaveEightBits syntax xs → HaveEightBits syntax ys
      → IsEncoding syntax M t v xs → IsEncoding syntax M t v ys → xs ≡ ys
  pub octets : (M : List Assignment) (t : ℕ) (v : Rose ValueLabel) (octets : List ℕ) → In M t v → IsEncoding syntax M t v octets → length octets ≤ 16777216 → AreOctetsOf syntax octets

abbrev pub AllSyntaxes : Type 0
AllSyntaxes = (syntax : Syntax) → SyntaxLaw syntax
