-- The first attribute that is wrong.
use Rattle.std.specs.Prelude.{ℕ, List, Option, MatchOption}
use Rattle.base_texts.specs.declared.texts.Name.{Name}
use Rattle.validity_rules.specs.Asked.{Attribute}
use Rattle.validity_rules.specs.Attributes.{left, AllRight, FirstWrong}
use Rattle.validity_rules.specs.declared.why.InvalidWhy.{InvalidWhy}

-- why the first that is wrong is so, or that all are right
abbrev pub IsFirst : List Attribute → List (Name × List ℕ) → Option InvalidWhy → Type 0
IsFirst wanted xs first = MatchOption first (AllRight wanted (left xs)) (λ why. FirstWrong wanted why (left xs))
