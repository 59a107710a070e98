-- Trees under construction, as one value.
use Rattle.std.specs.Prelude.{ℕ, suc, ◌+◌, List, [], ◌∷◌, ◌++◌, Option, Some, None, refl}
use Rattle.std.specs.Coded.{Coded, code_by, coded×, coded_list}
use Rattle.base_trees.specs.Rose.{Rose, node, roses_of, count_all, coded_rose}

-- An open node, with the trees that precede it at its level.
pub record Above (L : Type 0) : Type 0 where
  pub label : L
  pub before : List (Rose L)

-- The open nodes, the innermost first, and the trees so far in the innermost one, or at the top if none is open.
pub record Zip (L : Type 0) : Type 0 where
  pub above : List (Above L)
  pub kids : List (Rose L)

abbrev pub nothing : {L : Type 0} → Zip L
nothing = record { above = []; kids = [] }

-- One more node is open.
abbrev pub opened : {L : Type 0} → L → Zip L → Zip L
opened l z = record { above = record { label = l; before = z.kids } ∷ z.above; kids = [] }

-- One more tree is there.
abbrev pub added : {L : Type 0} → Rose L → Zip L → Zip L
added t z = record { above = z.above; kids = z.kids ++ t ∷ [] }

-- More trees are there.
abbrev pub added_all : {L : Type 0} → List (Rose L) → Zip L → Zip L
added_all ts z = record { above = z.above; kids = z.kids ++ ts }

abbrev pub closed_in : {L : Type 0} → List (Above L) → List (Rose L) → Zip L
closed_in [] ts = record { above = []; kids = ts }
closed_in (a ∷ up) ts = record { above = up; kids = a.before ++ node a.label (roses_of ts) ∷ [] }

-- the innermost open node is closed
abbrev pub closed : {L : Type 0} → Zip L → Zip L
closed z = closed_in z.above z.kids

abbrev pub canceled_in : {L : Type 0} → List (Above L) → List (Rose L) → Zip L
canceled_in [] ts = record { above = []; kids = ts }
canceled_in (a ∷ up) ts = record { above = up; kids = a.before }

-- The innermost open node is removed, with everything in it.
abbrev pub canceled : {L : Type 0} → Zip L → Zip L
canceled z = canceled_in z.above z.kids

abbrev pub relabeled_in : {L : Type 0} → L → List (Above L) → List (Above L)
relabeled_in l [] = []
relabeled_in l (a ∷ up) = record { label = l; before = a.before } ∷ up

-- the innermost open node has another label
abbrev pub relabeled : {L : Type 0} → L → Zip L → Zip L
relabeled l z = record { above = relabeled_in l z.above; kids = z.kids }

-- The number of nodes, open and closed.
abbrev pub above_count : {L : Type 0} → List (Above L) → ℕ
above_count [] = 0
above_count (a ∷ up) = suc (above_count up + count_all (roses_of a.before))

abbrev pub zip_count : {L : Type 0} → Zip L → ℕ
zip_count z = above_count z.above + count_all (roses_of z.kids)

-- The label of the innermost open node.
abbrev pub first_label : {L : Type 0} → List (Above L) → Option L
first_label [] = None
first_label (a ∷ up) = Some a.label

module _ {L : Type 0} (c : Coded L) where
  abbrev pub coded_above : Coded (Above L)
  coded_above = code_by (L × List (Rose L)) (coded× c (coded_list (coded_rose c))) (λ a. (a.label, a.before)) (λ p. record { label = p.0; before = p.1 }) (λ _. refl)

  abbrev pub coded_zip : Coded (Zip L)
  coded_zip = code_by (List (Above L) × List (Rose L)) (coded× (coded_list coded_above) (coded_list (coded_rose c))) (λ z. (z.above, z.kids)) (λ p. record { above = p.0; kids = p.1 }) (λ _. refl)
