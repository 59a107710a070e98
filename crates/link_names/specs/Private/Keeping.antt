-- For private contracts only: the first type on a cycle among those so far, and one type more.
use Rattle.std.specs.Prelude.{◌≡◌, ◌⊎◌, false, Option, Some, None}
use Rattle.link_names.specs.declared.faults.LinkingFault.{LinkingFault}
use Rattle.link_names.specs.Order.{precedes, earlier}

-- Something was found, and this fault does not precede it.
abbrev pub Keeps : Option LinkingFault → LinkingFault → Type 0
Keeps None g = ⊥
Keeps (Some f) g = precedes g f ≡ false

-- It is the first of the fault found and of one that exists if C holds.
abbrev pub IsNext : Type 0 → Option LinkingFault → LinkingFault → Option LinkingFault → Type 0
IsNext C found g first = (C × (first ≡ earlier found g)) ⊎ ((first ≡ found) × (C → Keeps found g))
