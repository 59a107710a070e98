-- For private contracts only: how the namespaces that one element binds are found by their prefix.
use Rattle.std.specs.Prelude.{◌≡◌, ℕ, List, Option}
use Rattle.std.specs.Borrow.{Bor}
use Rattle.std.specs.Option.{option_map}
use Rattle.std.specs.Ordering.{nat_cmp}
use Rattle.std.specs.Cmp.Lexicographic.{slice_cmp}
use Rattle.std.specs.BTreeMap.{BTreeMap, get_by}
use Rattle.base_texts.specs.Entries.{beside}

-- The namespace that the table has for the prefix.
abbrev pub found_in : BTreeMap (Bor (List ℕ)) (Bor (List ℕ)) → List ℕ → Option (List ℕ)
found_in spaces prefix = option_map (λ space. space.now) (get_by (λ key. slice_cmp nat_cmp prefix key.now) spaces)

-- The table has the namespace of each prefix that is bound.
abbrev pub Finds : List (List ℕ × List ℕ) → BTreeMap (Bor (List ℕ)) (Bor (List ℕ)) → Type 0
Finds bindings spaces = (prefix : List ℕ) → found_in spaces prefix ≡ beside prefix bindings
