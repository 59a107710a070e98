-- Lists of faults, and the first of them.
use Rattle.std.specs.Prelude.{◌≡◌, ℕ, ◌<◌, ◌≤◌, ◌⊎◌, Bool, Option, Some, None, List, [], ◌∷◌, All, if◌then◌else◌}
use Rattle.module_text.specs.declared.reasons.ModuleWhy.{ModuleWhy}
use Rattle.module_text.specs.declared.reasons.ModuleWhy.TheVariants as why
use Rattle.module_text.specs.declared.reasons.TextFault.{TextFault}

abbrev pub fault : ℕ → ModuleWhy → TextFault
fault at reason = record { at = at; why = reason }

-- A fault at this place, for this reason, unless the condition holds.
abbrev pub unless : Bool → ℕ → ModuleWhy → List TextFault
unless b at reason = if b then [] else fault at reason ∷ []

unfoldable pub first : List TextFault → Option TextFault
first [] = None
first (f ∷ fs) = Some f

-- P holds of one of the faults.
abbrev pub SomeFault : (TextFault → Type 0) → List TextFault → Type 0
SomeFault P [] = ⊥
SomeFault P (f ∷ fs) = P f ⊎ SomeFault P fs

-- ---- the first fault: that of the least place, and at one place the first in the order of the reasons

abbrev pub order : ModuleWhy → ℕ
order why.NotUtf8 = 0
order why.Syntax = 1
order why.TooDeep = 2
order why.Duplicate = 3
order why.Unresolved = 4
order why.LongChain = 5
order why.Spelling = 6

abbrev pub Comes : TextFault → TextFault → Type 0
Comes f g = (f.at < g.at) ⊎ ((f.at ≡ g.at) × (order f.why ≤ order g.why))

pub record IsLeast (faults : List TextFault) (f : TextFault) : Type 0 where
  pub one : SomeFault (λ g. g ≡ f) faults
  pub least : All (Comes f) faults
