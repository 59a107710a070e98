-- For private contracts only: the result of making one type.
use Rattle.std.specs.Prelude.{Result, Ok, Err}
use Rattle.simple_types.specs.Seen.{space_of}
use Rattle.simple_types.specs.Sound.{Sound}
use Rattle.simple_types.specs.Space.{Space}
use Rattle.link_names.specs.declared.faults.LinkWhy.{LinkWhy}
use Rattle.link_simple.specs.declared.leaving.Left.{Left}
use Rattle.link_simple.specs.declared.leaving.Left.TheVariants as left

-- The code's result is the space, or the reason against it, or no result exists because a part is missing.
abbrev pub LeftBy : (Result Space LinkWhy → Type 0) → Left → Type 0
LeftBy Leaves (left.Made simple) = Leaves (Ok (space_of simple)) × Sound (space_of simple)
LeftBy Leaves (left.Refused why) = Leaves (Err why)
LeftBy Leaves left.PartMissing = (r : Result Space LinkWhy) → Leaves r → ⊥
