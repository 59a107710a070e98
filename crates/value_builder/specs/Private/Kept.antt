-- What is kept of values that are read: their number of nodes, and their spelling.
use Rattle.std.specs.Prelude.{◌≡◌, ℕ, ◌-◌, ◌^◌, min, map, Ok, List, length}
use Rattle.std.specs.List.{join_with_byte}
use Rattle.base_trees.specs.Rose.{Rose, roses_of, count_all, shown_count}
use Rattle.simple_types.specs.declared.labels.ValueLabel.{ValueLabel}
use Rattle.simple_types.specs.Space.{Space, Spaces}
use Rattle.simple_types.specs.Reading.{Accepts, taken_by, spelled, spelled_by}
use Rattle.value_builder.specs.declared.items.Items.{Items}
use Rattle.value_builder.specs.declared.unions.MemberReading.{MemberReading}

-- The items of a list are counted. The greatest number of 64 bits means that number or a greater one.
abbrev pub AreCounted : List (Rose ValueLabel) → Items → Type 0
AreCounted values items = (items.count ≡ min (length values) (2 ^ 64 - 1)) × (items.nodes ≡ min (count_all (roses_of values)) (2 ^ 64 - 1))

-- The items of a list are spelled.
abbrev pub IsSpelledBy : Space → List (Rose ValueLabel) → List ℕ → Type 0
IsSpelledBy item values bytes = bytes ≡ join_with_byte 0x20 (map (spelled item) values)

-- The value of the text has this number of nodes.
abbrev pub IsCount : Space → List ℕ → ℕ → Type 0
IsCount s text nodes = (value : Rose ValueLabel) × Accepts s text value × (nodes ≡ shown_count value)

-- This is kept of the value of the text.
abbrev pub IsKept : Space → List ℕ → MemberReading → Type 0
IsKept s text kept = (value : Rose ValueLabel) × Accepts s text value × (kept.nodes ≡ shown_count value) × (kept.spelling ≡ spelled s value)

-- This is kept of the value that the member with this number gives to the text, which it accepts.
abbrev pub IsTaken : Spaces → List ℕ → ℕ → MemberReading → Type 0
IsTaken members text member kept =
    (value : Rose ValueLabel) × (taken_by members text ≡ Ok (member, value)) × (kept.nodes ≡ shown_count value) × (kept.spelling ≡ spelled_by members member value)
