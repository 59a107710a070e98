-- Which files are loaded, by the names that may still be loaded (`agenda` of `Library`); `None` where any name may be loaded.
use Rattle.std.specs.Prelude.{◌≡◌, ℕ, ◌≤◌, ⊤, List, ◌++◌, length, drop, Option, Some, None}
use Rattle.std.specs.Option.{option_map}

-- The files with these names may be loaded next, in this order and each as often as it is named.
abbrev pub Begins : Option (List (List ℕ)) → List (List ℕ) → Type 0
Begins None names = ⊤
Begins (Some agenda) names = (rest : List (List ℕ)) × (agenda ≡ names ++ rest)

-- The files that were loaded are the first of those with these names, in this order; they may be none or all of them.
abbrev pub LoadsFirst : List (List ℕ) → Option (List (List ℕ)) → Option (List (List ℕ)) → Type 0
LoadsFirst names old new = (n : ℕ) × (n ≤ length names) × (new ≡ option_map (drop n) old)
