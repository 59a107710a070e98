-- The names of reasons.
use Rattle.std.specs.Prelude.{ℕ, List, codes}
use Rattle.validity_rules.specs.declared.why.InvalidWhy.{InvalidWhy}
use Rattle.validity_rules.specs.declared.why.InvalidWhy.TheVariants as invalid

-- The name of a reason for rejecting a document.
abbrev pub invalid_reason : InvalidWhy → List ℕ
invalid_reason invalid.WrongRoot = codes "WrongRoot"
invalid_reason invalid.XsiType = codes "XsiType"
invalid_reason invalid.BadNil = codes "BadNil"
invalid_reason invalid.UnknownAttribute = codes "UnknownAttribute"
invalid_reason invalid.BadAttribute = codes "BadAttribute"
invalid_reason invalid.TooWide = codes "TooWide"
invalid_reason invalid.MissingAttribute = codes "MissingAttribute"
invalid_reason invalid.NilWithContent = codes "NilWithContent"
invalid_reason invalid.TextNotAllowed = codes "TextNotAllowed"
invalid_reason invalid.ElementNotAllowed = codes "ElementNotAllowed"
invalid_reason invalid.BadText = codes "BadText"
invalid_reason invalid.UnexpectedElement = codes "UnexpectedElement"
invalid_reason invalid.MissingElement = codes "MissingElement"
