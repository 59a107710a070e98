-- For private contracts only: an order of the nodes of a graph, and the traversal that finds it.
use Rattle.std.specs.Prelude.{◌≡◌, ◌<◌, ◌+◌, ℕ, Bool, true, false, ◌⊎◌, List, [], ◌∷◌, length, replicate, set, take, Option, slice_index, MatchOption}
use Rattle.base_texts.specs.Lists.{HasItem}
use Rattle.link_names.specs.Graphs.{row, IsEdge, Leads, IsOnCycle}
use Rattle.link_names.specs.Private.Searching.{mark, unseen}
use Rattle.link_simple.specs.declared.orders.Step.{Step}

abbrev pub IsAcyclic : List (List ℕ) → Type 0
IsAcyclic g = (n : ℕ) → IsOnCycle g n → ⊥

-- No edge leads out of the graph.
abbrev pub IsInside : List (List ℕ) → Type 0
IsInside g = (a b : ℕ) → IsEdge g a b → b < length g

-- The node isn't done, but those that its edges lead to are.
pub record IsReady (g : List (List ℕ)) (done : List Bool) (n : ℕ) : Type 0 where
  pub within : n < length done
  pub free : mark done n ≡ false
  pub parts : (m : ℕ) → IsEdge g n m → mark done m ≡ true

-- Each node is ready when those before it are done too.
abbrev pub Follow : List (List ℕ) → List Bool → List ℕ → Type 0
Follow g done [] = Unit {0}
Follow g done (n ∷ ns) = IsReady g done n × Follow g (set done n true) ns

-- The order has all nodes, each after those that its edges lead to.
pub record IsOrder (g : List (List ℕ)) (order : List ℕ) : Type 0 where
  pub follow : Follow g (replicate (length g) false) order
  pub long : length order ≡ length g

-- ---- the traversal

abbrev pub step : ℕ → ℕ → Step
step n k = record { node = n; followed = k }

-- A path leads from the first node to the second.
abbrev pub Reaches : List (List ℕ) → ℕ → ℕ → Type 0
Reaches g a b = (rs : List ℕ) × Leads g a rs b

-- The node isn't done, but those that its followed edges lead to are.
pub record IsOpen (g : List (List ℕ)) (done : List Bool) (s : Step) : Type 0 where
  pub within : s.node < length g
  pub free : mark done s.node ≡ false
  pub followed : (m : ℕ) → HasItem (take s.followed (row g s.node)) m → mark done m ≡ true

-- Each node of the path is open, and leads to those after it.
abbrev pub IsWay : List (List ℕ) → List Bool → List Step → Type 0
IsWay g done [] = Unit {0}
IsWay g done (s ∷ ss) = IsOpen g done s × ((t : Step) → HasItem ss t → Reaches g s.node t.node) × IsWay g done ss

-- The nodes of the order are marked as done, in addition to those marked before.
abbrev pub all_done : List Bool → List ℕ → List Bool
all_done done [] = done
all_done done (n ∷ ns) = all_done (set done n true) ns

pub record Walked (g : List (List ℕ)) (way : List Step) (done : List Bool) (order : List ℕ) : Type 0 where
  pub follow : Follow g (replicate (length g) false) order
  pub marks : done ≡ all_done (replicate (length g) false) order
  pub long : length done ≡ length g
  pub count : unseen done + length order ≡ length g
  pub ahead : IsWay g done way

-- The node is done, or on the path.
abbrev pub IsHeld : List Step → List Bool → ℕ → Type 0
IsHeld way done n = (mark done n ≡ true) ⊎ ((s : Step) × HasItem way s × (s.node ≡ n))

-- All of these nodes are done, or the one with this number is the first that isn't.
abbrev pub IsFirstOpen : List ℕ → List Bool → Option ℕ → Type 0
IsFirstOpen nodes done found =
    MatchOption found ((m : ℕ) → HasItem nodes m → mark done m ≡ true)
    (λ k. (k < length nodes) × (mark done (slice_index nodes k) ≡ false) × ((m : ℕ) → HasItem (take k nodes) m → mark done m ≡ true))
