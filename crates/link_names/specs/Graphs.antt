-- Graphs: for each node, the nodes that its edges lead to.
use Rattle.std.specs.Prelude.{◌≡◌, ℕ, zero, suc, ◌⊎◌, List, [], ◌∷◌, map, Vec}
use Rattle.std.specs.Global.{Global}
use Rattle.base_texts.specs.Lists.{HasItem}

abbrev pub rows_of : List (Vec ℕ Global) → List (List ℕ)
rows_of g = map (λ (v : Vec ℕ Global). v.items) g

-- The nodes that the edges of a node lead to; a number that is no node has none.
abbrev pub row : List (List ℕ) → ℕ → List ℕ
row [] n = []
row (r ∷ rs) zero = r
row (r ∷ rs) (suc n) = row rs n

abbrev pub IsEdge : List (List ℕ) → ℕ → ℕ → Type 0
IsEdge g a b = HasItem (row g a) b

-- A path leads from the first node through these to the last.
abbrev pub Leads : List (List ℕ) → ℕ → List ℕ → ℕ → Type 0
Leads g a [] b = IsEdge g a b
Leads g a (r ∷ rs) b = IsEdge g a r × Leads g r rs b

-- A path leads from the node to itself.
abbrev pub IsOnCycle : List (List ℕ) → ℕ → Type 0
IsOnCycle g a = (rs : List ℕ) × Leads g a rs a
