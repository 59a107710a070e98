-- The faults of linking, pass by pass (XML Schema Part 1, section 5). The first pass with a fault shows it: the fault at the
-- least file and place, and at one place that with the first reason.
use Rattle.std.specs.Prelude.{◌⊎◌, List, [], ◌∷◌, Some, None}
use Rattle.schema_components.specs.Raw.{Document}
use Rattle.link_names.specs.declared.faults.LinkingFault.{LinkingFault}
use Rattle.link_names.specs.Order.{IsFirstSuch}
use Rattle.base_texts.specs.Lists.{HasItem}
use Rattle.link_names.specs.Limits.{beyond_limit}
use Rattle.link_names.specs.Globals.{duplicates}
use Rattle.link_names.specs.Resolution.{unresolved}
use Rattle.link_names.specs.Cycles.{IsCircular}
use Rattle.link_simple.specs.Making.{IsNotMade}
use Rattle.link_simple.specs.Standards.{IsMisfit}
use Rattle.link_complex.specs.Uses.{double_uses}
use Rattle.link_complex.specs.ElementTypes.{Differs}
use Rattle.link_complex.specs.Content.{IsUnclear}

pub data Pass : Type 0 where
  Counting Naming Resolving Ordering Making Valuing Comparing Clearing : Pass

abbrev pub IsFault : List Document → Pass → LinkingFault → Type 0
IsFault docs Counting f = HasItem (beyond_limit docs) f
IsFault docs Naming f = HasItem (duplicates docs) f
IsFault docs Resolving f = HasItem (unresolved docs) f
IsFault docs Ordering f = IsCircular docs f
IsFault docs Making f = IsNotMade docs f
IsFault docs Valuing f = IsMisfit docs f
IsFault docs Comparing f = HasItem (double_uses docs) f ⊎ Differs docs f
IsFault docs Clearing f = IsUnclear docs f

-- It is the first fault of the first pass that has one.
abbrev pub IsShownBy : List Document → List Pass → LinkingFault → Type 0
IsShownBy docs [] f = ⊥
IsShownBy docs (p ∷ ps) f =
    IsFirstSuch (IsFault docs p) (Some f) ⊎ (IsFirstSuch (IsFault docs p) None × IsShownBy docs ps f)

-- None of the passes has a fault.
abbrev pub ArePassed : List Document → List Pass → Type 0
ArePassed docs [] = Unit {0}
ArePassed docs (p ∷ ps) = IsFirstSuch (IsFault docs p) None × ArePassed docs ps

-- The passes before any component is made, and those over complex types.
abbrev pub passes_of_names : List Pass
passes_of_names = Counting ∷ Naming ∷ Resolving ∷ Ordering ∷ []

abbrev pub passes_of_content : List Pass
passes_of_content = Comparing ∷ Clearing ∷ []

-- All passes, in their order.
abbrev pub passes : List Pass
passes = Counting ∷ Naming ∷ Resolving ∷ Ordering ∷ Making ∷ Valuing ∷ Comparing ∷ Clearing ∷ []
