-- Canonical unaligned PER (X.691): the definitions of both variants, in the unaligned one.
use Rattle.std.specs.Prelude.{ℕ, Bool, false, Option, List}
use Rattle.base_trees.specs.Rose.{Rose}
use Rattle.simple_types.specs.declared.labels.ValueLabel.{ValueLabel}
use Rattle.asn_types.specs.declared.modules.Assignment.{Assignment}
use Rattle.asn_types.specs.declared.types.TypeLabel.{TypeLabel}
use Rattle.per_fields.specs.declared.stops.Stop.{Stop}
use Rattle.per_fields.specs.Fields.{Writer}
use Rattle.per_fields.specs.Encoding.{per, complete_by}
use Rattle.per_fields.specs.Laws.{BeginsBy, WholeOctetsBy}
use Rattle.per_fields.specs.Stopping.{StopsFirstBy}
use Rattle.per_fields.specs.StopLaws.{StopsAsReadBy, OneOfTwoBy}
use Rattle.per_decode.specs.Answers.{Answer, AnswersBy}

-- The bits of a value of a type.
abbrev pub per_unaligned : List Assignment → Rose TypeLabel → Rose ValueLabel → Writer
per_unaligned = per false

-- The complete encoding of a value of the type of assignment t. It has the bits from 0 on, padded to complete octets, and one zero
-- octet if there are no bits.
abbrev pub complete_unaligned : List Assignment → ℕ → Rose ValueLabel → List Bool
complete_unaligned = complete_by false

-- The bits begin with the complete encoding of a value.
abbrev pub BeginsUnaligned : List Assignment → ℕ → List Bool → Rose ValueLabel → Type 0
BeginsUnaligned = BeginsBy false

-- The bits stop first, with the first fault in the order of the fields. Only the value is followed by padding.
abbrev pub StopsFirstUnaligned : List Assignment → ℕ → List Bool → Stop → Type 0
StopsFirstUnaligned = StopsFirstBy false

-- What decoding returns for the octets that a source has left, of which at most `limit` may be read.
abbrev pub AnswersUnaligned : List Assignment → ℕ → ℕ → List ℕ → Option (List ℕ) → Answer → Type 0
AnswersUnaligned = AnswersBy false

-- THE LAW: octets begin with the encoding of one value or have one first stop, and never both.
abbrev pub OneOfTwoUnaligned : Type 0
OneOfTwoUnaligned = OneOfTwoBy false

-- The first stop is where and why reading stops.
abbrev pub StopsAsReadUnaligned : Type 0
StopsAsReadUnaligned = StopsAsReadBy false

-- An encoding has complete octets.
abbrev pub WholeOctetsUnaligned : Type 0
WholeOctetsUnaligned = WholeOctetsBy false
