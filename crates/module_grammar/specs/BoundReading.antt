-- Reading bounds and constraints at the beginning of bytes.
use mathlib.Core.Logic.{inl, inr}
use Rattle.std.specs.Prelude.{ℕ, ◌⊎◌, Option, Some, None, List, codes}
use Rattle.simple_types.specs.declared.simples.Class.{Class}
use Rattle.simple_types.specs.declared.simples.Class.TheVariants.{Any, Language, NmToken, Name, NcName}
use Rattle.module_grammar.specs.Reading.{Reader, word_at, nothing_at, then_at, or_at, as_at, behind_at, before_at}
use Rattle.module_text.specs.declared.bounds.PlainNumber.{PlainNumber}
use Rattle.module_text.specs.declared.bounds.PlainEnds.{PlainEnds}
use Rattle.module_text.specs.declared.bounds.PlainEnds.TheVariants as ends
use Rattle.module_text.specs.declared.bounds.PlainRange.{PlainRange}
use Rattle.module_text.specs.declared.bounds.PlainRange.TheVariants as range
use Rattle.module_text.specs.declared.values.PlainOctets.{PlainOctets}
use Rattle.module_grammar.specs.NameReading.{number_at, octets_at}

-- ---- what is optional

abbrev pub some_of : {A : Type 0} → ℕ → A ⊎ Unit {0} → Option A
some_of place (inl a) = Some a
some_of place (inr x) = None

abbrev pub option_at : {A : Type 0} → Reader A → Reader (Option A)
option_at read = as_at some_of (or_at read nothing_at)

-- ---- the bounds of a number or a size

abbrev pub here : ℕ → Unit {0} → ℕ
here place x = place

abbrev pub max_at : Reader ℕ
max_at = as_at here (word_at (codes "MAX"))

abbrev pub greatest_at : Reader (Option (PlainNumber ⊎ ℕ))
greatest_at = option_at (behind_at (codes "..") (or_at number_at max_at))

abbrev pub ends_of : ℕ → PlainNumber × Option (PlainNumber ⊎ ℕ) → PlainEnds
ends_of place x = elim x.1 [ None ↦ ends.One x.0 | Some g ↦ elim g [ inl greatest ↦ ends.Both x.0 greatest | inr max ↦ ends.From x.0 max ] ]

abbrev pub ends_at : Reader PlainEnds
ends_at = as_at ends_of (then_at number_at (λ least. greatest_at))

abbrev pub range_of : ℕ → PlainEnds ⊎ PlainNumber → PlainRange
range_of place (inl e) = range.Ends e
range_of place (inr greatest) = range.To greatest

abbrev pub range_at : Reader PlainRange
range_at = as_at range_of (or_at ends_at (behind_at (codes "MIN..") number_at))

abbrev pub some_range_at : Reader PlainRange
some_range_at = behind_at (codes " (") (before_at range_at (codes ")"))

abbrev pub number_range_at : Reader (Option PlainRange)
number_range_at = option_at some_range_at

abbrev pub some_size_at : Reader PlainEnds
some_size_at = behind_at (codes " (SIZE (") (before_at ends_at (codes "))"))

abbrev pub size_at : Reader (Option PlainEnds)
size_at = option_at some_size_at

-- ---- the class of a text

abbrev pub class_of : ℕ → Unit {0} ⊎ (Unit {0} ⊎ (Unit {0} ⊎ Unit {0})) → Class
class_of place (inl x) = Language
class_of place (inr (inl x)) = NmToken
class_of place (inr (inr (inl x))) = Name
class_of place (inr (inr (inr x))) = NcName

abbrev pub named_class_at : Reader Class
named_class_at = as_at class_of
    (or_at (word_at (codes " (CONSTRAINED BY {/* language */})"))
    (or_at (word_at (codes " (CONSTRAINED BY {/* NMTOKEN */})"))
    (or_at (word_at (codes " (CONSTRAINED BY {/* Name */})")) (word_at (codes " (CONSTRAINED BY {/* NCName */})")))))

abbrev pub class_or_any : ℕ → Option Class → Class
class_or_any place None = Any
class_or_any place (Some class) = class

abbrev pub class_at : Reader Class
class_at = as_at class_or_any (option_at named_class_at)

-- ---- a fixed value

abbrev pub octets_here : ℕ → List ℕ → PlainOctets
octets_here place digits = record { at = place; digits = digits }

abbrev pub octets_here_at : Reader PlainOctets
octets_here_at = as_at octets_here octets_at

abbrev pub some_fixed_at : Reader PlainOctets
some_fixed_at = behind_at (codes " (CONSTRAINED BY {/* fixed ") (before_at octets_here_at (codes " */})"))

abbrev pub fixed_at : Reader (Option PlainOctets)
fixed_at = option_at some_fixed_at
