-- How many nodes there are after each step.
use Rattle.std.proofs.Common.{◌≡◌, ◌+◌, List, [], ◌∷◌, refl, arith, Bool}
use Rattle.base_trees.specs.Rose.{Rose, node, roses_of, node_count, count_all}
use Rattle.base_trees.proofs.Roses.{count_all-append, count_all-push}
use Rattle.base_flat_trees.specs.Zips.{Above, Zip, above_count, zip_count, opened, added, added_all, closed, closed_in}
use Rattle.simple_types.specs.declared.labels.ValueLabel.{ValueLabel}
use Rattle.value_builder.specs.Built.{flagged, flagged_above, with_parts, with_flags_above}

pub count-opened : {L : Type 0} (l : L) (z : Zip L) → zip_count (opened l z) ≡ zip_count z + 1
count-opened l z = omega arith

pub count-added : {L : Type 0} (t : Rose L) (z : Zip L) → zip_count (added t z) ≡ zip_count z + node_count t
count-added t z = omega (arith, count_all-push z.kids t)

pub count-added_all : {L : Type 0} (ts : List (Rose L)) (z : Zip L) → zip_count (added_all ts z) ≡ zip_count z + count_all (roses_of ts)
count-added_all ts z = omega (arith, count_all-append z.kids ts)

count-closed_in : {L : Type 0} (up : List (Above L)) (ts : List (Rose L)) → zip_count (closed_in up ts) ≡ above_count up + count_all (roses_of ts)
count-closed_in [] ts = refl
count-closed_in (a ∷ up) ts = omega (arith, count_all-push a.before (node a.label (roses_of ts)))

pub count-closed : {L : Type 0} (z : Zip L) → zip_count (closed z) ≡ zip_count z
count-closed z = count-closed_in z.above z.kids

count-flagged_above : (present : Bool) (up : List (Above ValueLabel)) → above_count (flagged_above present up) ≡ above_count up
count-flagged_above present [] = refl
count-flagged_above present (a ∷ up) = refl

pub count-flagged : (present : Bool) (z : Zip ValueLabel) → zip_count (flagged present z) ≡ zip_count z
count-flagged present z = omega (arith, count-flagged_above present z.above)

count-with_flags_above : (flags : List Bool) (up : List (Above ValueLabel)) → above_count (with_flags_above flags up) ≡ above_count up
count-with_flags_above flags [] = refl
count-with_flags_above flags (a ∷ up) = refl

pub count-with_parts : (flags : List Bool) (vs : List (Rose ValueLabel)) (z : Zip ValueLabel) → zip_count (with_parts flags vs z) ≡ zip_count z + count_all (roses_of vs)
count-with_parts flags vs z = omega (arith, count_all-append z.kids vs, count-with_flags_above flags z.above)

closed_in-outside : {L : Type 0} (up : List (Above L)) (ts : List (Rose L)) → up ≡ [] → ◌≡◌ {A = Zip L} (record { above = up; kids = ts }) (closed_in up ts)
closed_in-outside [] ts e = refl
closed_in-outside (a ∷ up) ts e = absurd (cc)

-- where no node is open, nothing is closed
pub closed-outside : {L : Type 0} (z : Zip L) → z.above ≡ [] → z ≡ closed z
closed-outside z e = closed_in-outside z.above z.kids e
