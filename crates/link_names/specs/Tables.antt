-- The tables of numbers.
use Rattle.std.specs.Prelude.{ℕ, Bool, false, Option, Some, None}
use Rattle.std.specs.Borrow.{Bor}
use Rattle.std.specs.BTreeMap.{BTreeMap, get_by}
use Rattle.std.specs.Ordering.{nat_cmp, ordering_then}
use Rattle.base_texts.specs.declared.texts.Name.{Name}
use Rattle.base_texts.specs.Names.{name_eq, name_cmp}
use Rattle.link_names.specs.declared.places.Place.{Place}
use Rattle.link_names.specs.Cycles as cycles
use Rattle.link_names.specs.declared.numbers.SimpleNumbers.{SimpleNumbers}

-- The number that the table has for the name.
abbrev pub named_in : BTreeMap (Bor Name) ℕ → Name → Option ℕ
named_in table a = get_by (λ k. name_cmp a k.now) table

-- The number that the table has for the place.
abbrev pub placed_in : BTreeMap (ℕ × ℕ) ℕ → Place → Option ℕ
placed_in table p = get_by (λ k. ordering_then (nat_cmp p.file k.0) (nat_cmp p.at k.1)) table

abbrev pub told_by : SimpleNumbers → cycles.SimpleNumbers
told_by n = record { named = named_in n.named; placed = placed_in n.placed }

-- There is a name, and it is this one.
abbrev pub names : Option (Bor Name) → Name → Bool
names None a = false
names (Some b) a = name_eq b.now a
