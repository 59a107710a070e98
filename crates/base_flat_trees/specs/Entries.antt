-- Trees as entries: for each tree the entry of its root, then those of its children.
use Rattle.std.specs.Prelude.{◌≡◌, ℕ, ◌-◌, nat_le, if◌then◌else◌, List, [], ◌∷◌, ◌++◌, length, take}
use Rattle.base_trees.specs.Rose.{Rose, node, Roses, none, more, roses_of, node_count, count_all}
use Rattle.base_flat_trees.specs.declared.entries.Entry.{Entry}

abbrev mutual
  pub entries_of : {L : Type 0} → Rose L → List (Entry L)
  entries_of (node l ts) = record { label = l; below = count_all ts } ∷ entries_all ts

  pub entries_all : {L : Type 0} → Roses L → List (Entry L)
  entries_all none = []
  entries_all (more t ts) = entries_of t ++ entries_all ts

-- The longest prefix of the trees that has at most n nodes together, and the trees after it.
unfoldable pub front : {L : Type 0} → ℕ → List (Rose L) → List (Rose L)
front n [] = []
front n (t ∷ ts) = if nat_le (node_count t) n then t ∷ front (n - node_count t) ts else []

unfoldable pub behind : {L : Type 0} → ℕ → List (Rose L) → List (Rose L)
behind n [] = []
behind n (t ∷ ts) = if nat_le (node_count t) n then behind (n - node_count t) ts else t ∷ ts

-- The trees that entries represent.
unfoldable pub forest : {L : Type 0} → List (Entry L) → List (Rose L)
forest [] = []
forest (e ∷ es) = node e.label (roses_of (front e.below (forest es))) ∷ behind e.below (forest es)

-- The number of nodes below each entry is right.
abbrev pub AreWhole : {L : Type 0} → List (Entry L) → Type 0
AreWhole es = es ≡ entries_all (roses_of (forest es))

-- The entry at this place gets the number `below`, and its previous number was `before`.
abbrev pub GetsBelow : {L : Type 0} → List (Entry L) → ℕ → ℕ → ℕ → List (Entry L) → Type 0
GetsBelow {L} old at below before new = (front : List (Entry L)) (e : Entry L) (later : List (Entry L)) → old ≡ front ++ e ∷ later → at ≡ length front
    → (before ≡ e.below) × (new ≡ front ++ record { label = e.label; below = below } ∷ later)

-- The entry at this place gets the label `label`, and its previous label was `before`.
abbrev pub GetsLabel : {L : Type 0} → List (Entry L) → ℕ → L → L → List (Entry L) → Type 0
GetsLabel {L} old at label before new = (front : List (Entry L)) (e : Entry L) (later : List (Entry L)) → old ≡ front ++ e ∷ later → at ≡ length front
    → (before ≡ e.label) × (new ≡ front ++ record { label = label; below = e.below } ∷ later)
