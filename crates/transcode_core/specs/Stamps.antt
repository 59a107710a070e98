-- The stamp of a set.
use Rattle.std.specs.Prelude.{ℕ, List, Result}
use Rattle.schema_components.specs.SetParts.{SetParts}
use Rattle.transcode_words.specs.declared.outcome.Outcome.{Outcome}
use Rattle.transcode_words.specs.Order.{Give, Then}
use Rattle.transcode_core.specs.Steps.{Typed}
use Rattle.transcode_core.specs.Requests.Due.{stamp_of}

-- the stamp of the map of the set
abbrev pub Stamped : SetParts × ℕ → Result (List ℕ) Outcome → Type 0
Stamped opened = Then (Typed opened) (λ type. Give (stamp_of type.assignments))
