-- Trees while they are built, and their entries.
use Rattle.std.proofs.Common.{take, ◌≡◌, get_or, Some, ℕ, zero, suc, ◌+◌, ◌-◌, ◌^◌, ◌≤◌, ◌<◌, List, [], ◌∷◌, ◌++◌, length, drop, refl, sym, ◌∙◌, ap, subst, arith, append_assoc, length-append}
use Rattle.std.proofs.lemmas.List.{append-nil}
use Rattle.std.proofs.Math.Seq.{take-append_seam, drop-append_seam, get_or-append_seam}
use Rattle.base_trees.specs.Rose.{Rose, node, roses_of, count_all}
use Rattle.base_flat_trees.specs.declared.entries.Entry.{Entry}
use Rattle.base_flat_trees.specs.Entries.{entries_of, entries_all, forest, AreWhole, GetsBelow, GetsLabel}
use Rattle.base_flat_trees.specs.Zips.{Above, Zip, above_count, zip_count, nothing, opened, added, added_all, closed, closed_in, first_label, relabeled_in, canceled, canceled_in}
use Rattle.base_flat_trees.specs.ZipEntries.{outer_entries, zip_entries, kids_in, above_step, above_in, zip_of, IsZip}
use Rattle.base_flat_trees.proofs.Forests.{length-entries_all, forest-of, count_below}

-- ---- the definitions' cases
abbrev entry_at : {L : Type 0} → Above L → List (Above L) → Entry L
entry_at a up = record { label = a.label; below = length (outer_entries up) }

outer-none : {L : Type 0} → outer_entries {L = L} [] ≡ []
unfolding outer_entries
outer-none = refl

outer-more : {L : Type 0} (a : Above L) (up : List (Above L)) → outer_entries (a ∷ up) ≡ zip_entries up a.before ++ entry_at a up ∷ []
unfolding outer_entries
outer-more a up = refl

zip-more : {L : Type 0} (a : Above L) (up : List (Above L)) (ts : List (Rose L)) → zip_entries (a ∷ up) ts ≡ zip_entries up a.before ++ entry_at a up ∷ entries_all (roses_of ts)
zip-more a up ts = ap (λ es. es ++ entries_all (roses_of ts)) (outer-more a up) ∙ append_assoc (zip_entries up a.before) (entry_at a up ∷ []) (entries_all (roses_of ts))

length-outer : {L : Type 0} (a : Above L) (up : List (Above L)) → length (outer_entries (a ∷ up)) ≡ suc (length (zip_entries up a.before))
length-outer a up = omega (arith, ap length (outer-more a up), length-append (zip_entries up a.before) (entry_at a up ∷ []))

-- no more open nodes than their place says
depth_le : {L : Type 0} (up : List (Above L)) → length up ≤ length (outer_entries up)
depth_le [] = omega arith
depth_le (a ∷ up) = omega (arith, length-outer a up, length-append (outer_entries up) (entries_all (roses_of a.before)), depth_le up)

-- ---- what the entries say
pub kids_in-zip : {L : Type 0} (up : List (Above L)) (ts : List (Rose L)) → kids_in (zip_entries up ts) (length (outer_entries up)) ≡ ts
unfolding kids_in
kids_in-zip up ts = ap forest (drop-append_seam (outer_entries up) (entries_all (roses_of ts))) ∙ forest-of ts

above_in-zero : {L : Type 0} (fuel : ℕ) (es : List (Entry L)) → above_in fuel es 0 ≡ []
unfolding above_in
above_in-zero zero es = refl
above_in-zero (suc fuel) es = refl

above_in-suc : {L : Type 0} (fuel : ℕ) (front : List (Entry L)) (e : Entry L) (later : List (Entry L)) → above_in (suc fuel) (front ++ e ∷ later) (suc (length front)) ≡ record { label = e.label; before = kids_in front e.below } ∷ above_in fuel front e.below
unfolding above_in above_step
above_in-suc fuel front e later =
    ap (λ es. above_step (above_in fuel) es (drop (length front) (front ++ e ∷ later))) (take-append_seam front (e ∷ later))
    ∙ ap (λ es. above_step (above_in fuel) front es) (drop-append_seam front (e ∷ later))

pub above_in-zip : {L : Type 0} (fuel : ℕ) (up : List (Above L)) (ts : List (Rose L)) → length up ≤ fuel → above_in fuel (zip_entries up ts) (length (outer_entries up)) ≡ up
above_in-zip fuel [] ts h = ap (λ (es : List (Entry _)). above_in fuel (zip_entries [] ts) (length es)) outer-none ∙ above_in-zero fuel (zip_entries [] ts)
above_in-zip zero (a ∷ up) ts h = absurd (omega (arith, h))
above_in-zip (suc fuel) (a ∷ up) ts h =
    let less : length up ≤ fuel = omega (arith, h) in
    ap (above_in (suc fuel) (zip_entries (a ∷ up) ts)) (length-outer a up)
    ∙ ap (λ es. above_in (suc fuel) es (suc (length (zip_entries up a.before)))) (zip-more a up ts)
    ∙ above_in-suc fuel (zip_entries up a.before) (entry_at a up) (entries_all (roses_of ts))
    ∙ ap (λ bs. record { label = a.label; before = bs } ∷ above_in fuel (zip_entries up a.before) (length (outer_entries up))) (kids_in-zip up a.before)
    ∙ ap (λ bs. a ∷ bs) (above_in-zip fuel up a.before less)

-- entries of trees while they are built stand for these
pub record Stands {L : Type 0} (es : List (Entry L)) (n v : ℕ) (z : Zip L) : Type 0 where
  pub entries : es ≡ zip_entries z.above z.kids
  pub inner : n ≡ length (outer_entries z.above)
  pub level : v ≡ length z.above
  pub few : length es < 2 ^ 32

pub stands_for : {L : Type 0} (es : List (Entry L)) (n v : ℕ) (z : Zip L) → Stands es n v z → zip_of es n ≡ z
stands_for es n v z s =
    let kids : kids_in es n ≡ z.kids = ap (λ xs. kids_in xs n) s.entries ∙ ap (kids_in (zip_entries z.above z.kids)) s.inner ∙ kids_in-zip z.above z.kids in
    let fits : length z.above ≤ n = omega (arith, s.inner, depth_le z.above) in
    let above : above_in n es n ≡ z.above = ap (λ xs. above_in n xs n) s.entries ∙ ap (above_in n (zip_entries z.above z.kids)) s.inner ∙ above_in-zip n z.above z.kids fits in
    ap (λ up. record { above = up; kids = kids_in es n }) above ∙ ap (λ ks. record { above = z.above; kids = ks }) kids

pub is_zip : {L : Type 0} (es : List (Entry L)) (n v : ℕ) (z : Zip L) → Stands es n v z → IsZip es n v
is_zip es n v z s =
    let view : z ≡ zip_of es n = sym (stands_for es n v z s) in
    record {
      entries = s.entries ∙ ap (λ (y : Zip _). zip_entries y.above y.kids) view;
      inner = s.inner ∙ ap (λ (y : Zip _). length (outer_entries y.above)) view;
      level = s.level ∙ ap (λ (y : Zip _). length y.above) view;
      few = s.few;
    }

pub stands : {L : Type 0} (es : List (Entry L)) (n v : ℕ) (z : Zip L) → IsZip es n v → zip_of es n ≡ z → Stands es n v z
stands es n v z is view = subst (Stands es n v) view (record { entries = is.entries; inner = is.inner; level = is.level; few = is.few })

-- ---- steps
pub stands_nothing : {L : Type 0} (es : List (Entry L)) → es ≡ [] → Stands es 0 0 nothing
stands_nothing es e = record {
  entries = e ∙ ap (λ xs. xs ++ []) (sym outer-none);
  inner = ap length (sym outer-none);
  level = refl;
  few = omega (arith, ap length e);
}

pub stands_opened : {L : Type 0} (es new : List (Entry L)) (n m v w : ℕ) (z : Zip L) (l : L) → Stands es n v z → new ≡ es ++ record { label = l; below = n } ∷ [] → m ≡ length new → w ≡ v + 1 → length new < 2 ^ 32 → Stands new m w (opened l z)
stands_opened es new n m v w z l s e p deeper few =
    let a : Above _ = record { label = l; before = z.kids } in
    let all : new ≡ outer_entries (a ∷ z.above) = e ∙ ap (λ xs. xs ++ record { label = l; below = n } ∷ []) s.entries ∙ ap (λ (k : ℕ). zip_entries z.above z.kids ++ record { label = l; below = k } ∷ []) s.inner ∙ sym (outer-more a z.above) in
    record {
      entries = all ∙ sym (append-nil (outer_entries (a ∷ z.above)));
      inner = p ∙ ap length all;
      level = omega (arith, deeper, s.level);
      few = few;
    }

pub entries_all-append : {L : Type 0} (ts us : List (Rose L)) → entries_all (roses_of (ts ++ us)) ≡ entries_all (roses_of ts) ++ entries_all (roses_of us)
entries_all-append [] us = refl
entries_all-append (t ∷ ts) us = ap (λ es. entries_of t ++ es) (entries_all-append ts us) ∙ sym (append_assoc (entries_of t) (entries_all (roses_of ts)) (entries_all (roses_of us)))

zip-append : {L : Type 0} (up : List (Above L)) (ts us : List (Rose L)) → zip_entries up (ts ++ us) ≡ zip_entries up ts ++ entries_all (roses_of us)
zip-append up ts us = ap (λ es. outer_entries up ++ es) (entries_all-append ts us) ∙ sym (append_assoc (outer_entries up) (entries_all (roses_of ts)) (entries_all (roses_of us)))

pub stands_added_all : {L : Type 0} (es new behind : List (Entry L)) (n v : ℕ) (z : Zip L) (us : List (Rose L)) → Stands es n v z → behind ≡ entries_all (roses_of us) → new ≡ es ++ behind → length new < 2 ^ 32 → Stands new n v (added_all us z)
stands_added_all es new behind n v z us s m e few = record {
  entries = e ∙ ap (λ xs. xs ++ behind) s.entries ∙ ap (λ xs. zip_entries z.above z.kids ++ xs) m ∙ sym (zip-append z.above z.kids us);
  inner = s.inner;
  level = s.level;
  few = few;
}

pub stands_added : {L : Type 0} (es new behind : List (Entry L)) (n v : ℕ) (z : Zip L) (t : Rose L) → Stands es n v z → behind ≡ entries_of t → new ≡ es ++ behind → length new < 2 ^ 32 → Stands new n v (added t z)
stands_added es new behind n v z t s m e few = stands_added_all es new behind n v z (t ∷ []) s (m ∙ sym (append-nil (entries_of t))) e few

-- the innermost open node, in the entries
pub record Innermost {L : Type 0} (es : List (Entry L)) (n : ℕ) (a : Above L) (up : List (Above L)) (ts : List (Rose L)) : Type 0 where
  pub split : es ≡ zip_entries up a.before ++ record { label = a.label; below = length (outer_entries up) } ∷ entries_all (roses_of ts)
  pub place : n ≡ suc (length (zip_entries up a.before))
  pub behind : length es ≡ n + count_all (roses_of ts)

pub innermost : {L : Type 0} (es : List (Entry L)) (n v : ℕ) (a : Above L) (up : List (Above L)) (ts : List (Rose L)) → Stands es n v (record { above = a ∷ up; kids = ts }) → Innermost es n a up ts
innermost es n v a up ts s =
    let split : es ≡ zip_entries up a.before ++ entry_at a up ∷ entries_all (roses_of ts) = s.entries ∙ zip-more a up ts in
    let place : n ≡ suc (length (zip_entries up a.before)) = s.inner ∙ length-outer a up in
    record {
      split = split;
      place = place;
      behind = omega (arith, place, ap length split, length-append (zip_entries up a.before) (entry_at a up ∷ entries_all (roses_of ts)), length-entries_all (roses_of ts));
    }

stands_closed_in : {L : Type 0} (es new : List (Entry L)) (n at below m v w : ℕ) (a : Above L) (up : List (Above L)) (ts : List (Rose L)) → Stands es n v (record { above = a ∷ up; kids = ts }) → at ≡ n - 1 → below ≡ length es - n → w ≡ v - 1 → GetsBelow es at below m new → Stands new m w (closed_in (a ∷ up) ts)
stands_closed_in es new n at below m v w a up ts s is_at is_below higher gets =
    let i = innermost es n v a up ts s in
    let here : at ≡ length (zip_entries up a.before) = omega (arith, i.place, is_at) in
    let count : below ≡ count_all (roses_of ts) = omega (arith, i.behind, is_below) in
    let t : Rose _ = node a.label (roses_of ts) in
    let got = gets (zip_entries up a.before) (entry_at a up) (entries_all (roses_of ts)) i.split here in
    let all : new ≡ zip_entries up (a.before ++ t ∷ []) = got.1 ∙ ap (λ (k : ℕ). zip_entries up a.before ++ record { label = a.label; below = k } ∷ entries_all (roses_of ts)) count
    ∙ sym (zip-append up a.before (t ∷ []) ∙ ap (λ xs. zip_entries up a.before ++ xs) (append-nil (entries_of t))) in
    record {
      entries = all;
      inner = got.0;
      level = omega (arith, higher, s.level);
      few = omega (arith, s.few, ap length got.1, ap length i.split, length-append (zip_entries up a.before) (record { label = a.label; below = below } ∷ entries_all (roses_of ts)), length-append (zip_entries up a.before) (entry_at a up ∷ entries_all (roses_of ts)));
    }

-- the place of the innermost open node, where there is one
pub record Place {L : Type 0} (es : List (Entry L)) (n : ℕ) : Type 0 where
  pub some : 1 ≤ n
  pub within : n ≤ length es

place_in : {L : Type 0} (es : List (Entry L)) (n v : ℕ) (up : List (Above L)) (ts : List (Rose L)) → Stands es n v (record { above = up; kids = ts }) → 0 < length up → Place es n
place_in es n v [] ts s h = absurd (omega (arith, h))
place_in es n v (a ∷ up) ts s h = let i = innermost es n v a up ts s in record { some = omega (arith, i.place); within = omega (arith, i.behind) }

pub place : {L : Type 0} (es : List (Entry L)) (n v : ℕ) (z : Zip L) → Stands es n v z → 0 < length z.above → Place es n
place es n v z s h = place_in es n v z.above z.kids s h

closes : {L : Type 0} (es new : List (Entry L)) (n at below m v w : ℕ) (up : List (Above L)) (ts : List (Rose L)) → Stands es n v (record { above = up; kids = ts }) → 0 < length up → at ≡ n - 1 → below ≡ length es - n → w ≡ v - 1 → GetsBelow es at below m new → Stands new m w (closed_in up ts)
closes es new n at below m v w [] ts s h is_at is_below higher gets = absurd (omega (arith, h))
closes es new n at below m v w (a ∷ up) ts s h is_at is_below higher gets = stands_closed_in es new n at below m v w a up ts s is_at is_below higher gets

pub stands_closed : {L : Type 0} (es new : List (Entry L)) (n at below m v w : ℕ) (z : Zip L) → Stands es n v z → 0 < length z.above → at ≡ n - 1 → below ≡ length es - n → w ≡ v - 1 → GetsBelow es at below m new → Stands new m w (closed z)
stands_closed es new n at below m v w z s h is_at is_below higher gets = closes es new n at below m v w z.above z.kids s h is_at is_below higher gets

-- the entries of what is finished
pub finished : {L : Type 0} (es : List (Entry L)) (n v : ℕ) (z : Zip L) → Stands es n v z → z.above ≡ [] → es ≡ entries_all (roses_of z.kids)
finished es n v z s h = s.entries ∙ ap (λ up. zip_entries up z.kids) h ∙ ap (λ xs. xs ++ entries_all (roses_of z.kids)) outer-none

-- a node and the entries below it are those of its tree
pub entries_node : {L : Type 0} (l : L) (es : List (Entry L)) (t : Rose L) → AreWhole es → node l (roses_of (forest es)) ≡ t → record { label = l; below = length es } ∷ es ≡ entries_of t
entries_node l es t whole view =
    ap (λ (n : ℕ). record { label = l; below = n } ∷ es) (sym (count_below es whole)) ∙ ap (λ xs. record { label = l; below = count_all (roses_of (forest es)) } ∷ xs) whole ∙ ap entries_of view

pub entries_forest : {L : Type 0} (es : List (Entry L)) (ts : List (Rose L)) → AreWhole es → forest es ≡ ts → es ≡ entries_all (roses_of ts)
entries_forest es ts whole view = whole ∙ ap (λ us. entries_all (roses_of us)) view

-- whether a node is open
pub outside : {L : Type 0} (es : List (Entry L)) (n v : ℕ) (z : Zip L) → Stands es n v z → v ≡ 0 → z.above ≡ []
outside es n v z s h = none_above z.above (omega (arith, s.level, h)) where
  none_above : {A : Type 0} (up : List A) → length up ≡ 0 → up ≡ []
  none_above [] h = refl
  none_above (a ∷ up) h = absurd (omega (arith, h))

-- the label of the innermost open node
first_in : {L : Type 0} (es : List (Entry L)) (n v : ℕ) (up : List (Above L)) (ts : List (Rose L)) (x : Entry L) → Stands es n v (record { above = up; kids = ts }) → 0 < length up → x ≡ get_or es (n - 1) x → Some x.label ≡ first_label up
first_in es n v [] ts x s h value = absurd (omega (arith, h))
first_in es n v (a ∷ up) ts x s h value =
    let i = innermost es n v a up ts s in
    let here : n - 1 ≡ length (zip_entries up a.before) = omega (arith, i.place) in
    let same : x ≡ entry_at a up = value ∙ ap (λ xs. get_or xs (n - 1) x) i.split ∙ ap (λ (k : ℕ). get_or (zip_entries up a.before ++ entry_at a up ∷ entries_all (roses_of ts)) k x) here ∙ get_or-append_seam (zip_entries up a.before) (entry_at a up) (entries_all (roses_of ts)) x in
    ap (λ (e : Entry _). Some e.label) same

pub first_is : {L : Type 0} (es : List (Entry L)) (n v : ℕ) (z : Zip L) (x : Entry L) → Stands es n v z → 0 < length z.above → x ≡ get_or es (n - 1) x → Some x.label ≡ first_label z.above
first_is es n v z x s h value = first_in es n v z.above z.kids x s h value

pub levels_le : {L : Type 0} (es : List (Entry L)) (n v : ℕ) (z : Zip L) → Stands es n v z → v ≤ length es
levels_le es n v z s = omega (arith, s.level, depth_le z.above, ap length s.entries, length-append (outer_entries z.above) (entries_all (roses_of z.kids)))

-- another label for the innermost open node
pub record Relabels {L : Type 0} (new : List (Entry L)) (n v : ℕ) (up : List (Above L)) (ts : List (Rose L)) (label before : L) : Type 0 where
  pub was : Some before ≡ first_label up
  pub stands : Stands new n v (record { above = relabeled_in label up; kids = ts })

relabels_in : {L : Type 0} (es new : List (Entry L)) (n at v : ℕ) (up : List (Above L)) (ts : List (Rose L)) (label before : L) → Stands es n v (record { above = up; kids = ts }) → 0 < length up → at ≡ n - 1 → GetsLabel es at label before new → Relabels new n v up ts label before
relabels_in es new n at v [] ts label before s h is_at gets = absurd (omega (arith, h))
relabels_in es new n at v (a ∷ up) ts label before s h is_at gets =
    let i = innermost es n v a up ts s in
    let here : at ≡ length (zip_entries up a.before) = omega (arith, i.place, is_at) in
    let got = gets (zip_entries up a.before) (entry_at a up) (entries_all (roses_of ts)) i.split here in
    let b : Above _ = record { label = label; before = a.before } in
    record {
      was = ap Some got.0;
      stands = record {
        entries = got.1 ∙ sym (zip-more b up ts);
        inner = i.place ∙ sym (length-outer b up);
        level = s.level;
        few = omega (arith, s.few, ap length got.1, ap length i.split, length-append (zip_entries up a.before) (record { label = label; below = length (outer_entries up) } ∷ entries_all (roses_of ts)), length-append (zip_entries up a.before) (entry_at a up ∷ entries_all (roses_of ts)));
      };
    }

pub relabels : {L : Type 0} (es new : List (Entry L)) (n at v : ℕ) (z : Zip L) (label before : L) → Stands es n v z → 0 < length z.above → at ≡ n - 1 → GetsLabel es at label before new → Relabels new n v z.above z.kids label before
relabels es new n at v z label before s h is_at gets = relabels_in es new n at v z.above z.kids label before s h is_at gets

-- the innermost open node is taken away
cancels_in : {L : Type 0} (es new : List (Entry L)) (n at v w : ℕ) (up : List (Above L)) (ts : List (Rose L)) (x : Entry L) → Stands es n v (record { above = up; kids = ts }) → 0 < length up → at ≡ n - 1 → w ≡ v - 1 → x ≡ get_or es at x → new ≡ take at es → Stands new x.below w (canceled_in up ts)
cancels_in es new n at v w [] ts x s h is_at higher value cut = absurd (omega (arith, h))
cancels_in es new n at v w (a ∷ up) ts x s h is_at higher value cut =
    let i = innermost es n v a up ts s in
    let here : at ≡ length (zip_entries up a.before) = omega (arith, i.place, is_at) in
    let same : x ≡ entry_at a up = value ∙ ap (λ xs. get_or xs at x) i.split ∙ ap (λ (k : ℕ). get_or (zip_entries up a.before ++ entry_at a up ∷ entries_all (roses_of ts)) k x) here ∙ get_or-append_seam (zip_entries up a.before) (entry_at a up) (entries_all (roses_of ts)) x in
    let all : new ≡ zip_entries up a.before = cut ∙ ap (take at) i.split ∙ ap (λ (k : ℕ). take k (zip_entries up a.before ++ entry_at a up ∷ entries_all (roses_of ts))) here ∙ take-append_seam (zip_entries up a.before) (entry_at a up ∷ entries_all (roses_of ts)) in
    record {
      entries = all;
      inner = ap (λ (y : Entry _). y.below) same;
      level = omega (arith, higher, s.level);
      few = omega (arith, s.few, ap length all, ap length i.split, length-append (zip_entries up a.before) (entry_at a up ∷ entries_all (roses_of ts)));
    }

pub cancels : {L : Type 0} (es new : List (Entry L)) (n at v w : ℕ) (z : Zip L) (x : Entry L) → Stands es n v z → 0 < length z.above → at ≡ n - 1 → w ≡ v - 1 → x ≡ get_or es at x → new ≡ take at es → Stands new x.below w (canceled z)
cancels es new n at v w z x s h is_at higher value cut = cancels_in es new n at v w z.above z.kids x s h is_at higher value cut

-- as many entries as nodes
length-outer_entries : {L : Type 0} (up : List (Above L)) → length (outer_entries up) ≡ above_count up
length-outer_entries [] = ap length outer-none
length-outer_entries (a ∷ up) =
    omega (arith, length-outer a up, length-append (outer_entries up) (entries_all (roses_of a.before)), length-entries_all (roses_of a.before), length-outer_entries up)

pub length-zip : {L : Type 0} (es : List (Entry L)) (n v : ℕ) (z : Zip L) → IsZip es n v → zip_of es n ≡ z → length es ≡ zip_count z
length-zip es n v z is view =
    let all : length es ≡ length (zip_entries (above_in n es n) (kids_in es n)) = ap length is.entries in
    omega (arith, all, length-append (outer_entries (above_in n es n)) (entries_all (roses_of (kids_in es n))), length-entries_all (roses_of (kids_in es n)), length-outer_entries (above_in n es n), ap zip_count view)
