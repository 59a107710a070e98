-- Trees under construction, as entries.
use Rattle.std.specs.Prelude.{◌≡◌, ℕ, zero, suc, ◌<◌, ◌^◌, List, [], ◌∷◌, ◌++◌, length, take, drop}
use Rattle.base_trees.specs.Rose.{Rose, roses_of}
use Rattle.base_flat_trees.specs.declared.entries.Entry.{Entry}
use Rattle.base_flat_trees.specs.Entries.{entries_all, forest}
use Rattle.base_flat_trees.specs.Zips.{Above, Zip}

-- The entries up to the innermost open node. An open node has the place after the open node around it, or 0, where a closed one
-- has the number of nodes below.
unfoldable pub outer_entries : {L : Type 0} → List (Above L) → List (Entry L)
outer_entries [] = []
outer_entries (a ∷ up) = (outer_entries up ++ entries_all (roses_of a.before)) ++ record { label = a.label; below = length (outer_entries up) } ∷ []

abbrev pub zip_entries : {L : Type 0} → List (Above L) → List (Rose L) → List (Entry L)
zip_entries up ts = outer_entries up ++ entries_all (roses_of ts)

-- The trees after this place.
unfoldable pub kids_in : {L : Type 0} → List (Entry L) → ℕ → List (Rose L)
kids_in es n = forest (drop n es)

unfoldable pub above_step : {L : Type 0} → (List (Entry L) → ℕ → List (Above L)) → List (Entry L) → List (Entry L) → List (Above L)
above_step f front [] = []
above_step f front (e ∷ later) = record { label = e.label; before = kids_in front e.below } ∷ f front e.below

-- The open nodes, the innermost of which precedes this place. There are at most as many as the first argument says.
unfoldable pub above_in : {L : Type 0} → ℕ → List (Entry L) → ℕ → List (Above L)
above_in zero es n = []
above_in (suc fuel) es zero = []
above_in (suc fuel) es (suc i) = above_step (above_in fuel) (take i es) (drop i es)

abbrev pub zip_of : {L : Type 0} → List (Entry L) → ℕ → Zip L
zip_of es n = record { above = above_in n es n; kids = kids_in es n }

-- The entries are those of trees under construction.
pub record IsZip {L : Type 0} (es : List (Entry L)) (n v : ℕ) : Type 0 where
  pub entries : es ≡ zip_entries (above_in n es n) (kids_in es n)
  pub inner : n ≡ length (outer_entries (above_in n es n))
  pub level : v ≡ length (above_in n es n)
  pub few : length es < 2 ^ 32
