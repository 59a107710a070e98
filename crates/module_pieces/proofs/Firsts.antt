-- The first fault of lists one behind another.
use Rattle.std.proofs.Common.{◌≡◌, Option, Some, None, List, [], ◌∷◌, ◌++◌}
use Rattle.module_text.specs.declared.reasons.TextFault.{TextFault}
use Rattle.module_text.specs.Listed.{first}

-- it is that of the first list, where this has one,
pub first-front : (xs ys : List TextFault) (f : TextFault) → Some f ≡ first xs → Some f ≡ first (xs ++ ys)
unfolding first
first-front [] ys f e = absurd (cc)
first-front (x ∷ xs) ys f e = e

-- and else that of the second
pub first-behind : (xs ys : List TextFault) (found : Option TextFault) → None ≡ first xs → found ≡ first ys → found ≡ first (xs ++ ys)
unfolding first
first-behind [] ys found none e = e
first-behind (x ∷ xs) ys found none e = absurd (cc)

pub ruleset firsts = (first-front, first-behind)
