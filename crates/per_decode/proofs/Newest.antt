-- The value that was read behind others.
use Rattle.std.proofs.Common.{◌≡◌, ℕ, ◌+◌, ◌*◌, ◌≤◌, arith, false, List, [], ◌∷◌, ◌++◌, refl, sym, ap, ◌∙◌, subst, Result, Ok, Err}
use Rattle.std.specs.Prelude.{IfOk, IfErr}
use Rattle.base_trees.specs.Rose.{Rose, node, none, roses_of}
use Rattle.base_flat_trees.specs.Zips.{Zip, opened, added, closed, closed_in, relabeled, relabeled_in}
use Rattle.simple_types.specs.declared.labels.ValueLabel.{ValueLabel}
use Rattle.simple_types.specs.declared.labels.ValueLabel.TheVariants as value
use Rattle.base_codecs.specs.declared.spots.Spot.{Spot}
use Rattle.per_fields.specs.declared.stops.Stop.{Stop}
use Rattle.per_decode.specs.declared.faults.PerEnd.{PerEnd}
use Rattle.per_decode.specs.declared.faults.PerEnd.TheVariants as fault
use Rattle.per_decode.specs.Private.Giving.{halt_of, end_of, FailsAt, Shows}
use Rattle.per_decode.specs.Private.Newest.{last_of, newest}

last-push : (u : Rose ValueLabel) (vs : List (Rose ValueLabel)) (v : Rose ValueLabel) → last_of u (vs ++ v ∷ []) ≡ v
last-push u [] v = refl
last-push u (w ∷ vs) v = last-push w vs v

-- what is pushed is the newest
pub newest-push : (vs : List (Rose ValueLabel)) (v : Rose ValueLabel) → newest (vs ++ v ∷ []) ≡ v
newest-push vs v = last-push (node (value.Bool false) none) vs v

-- where a tree was added, it is the newest
pub newest-pushed : (new old : Zip ValueLabel) (v : Rose ValueLabel) → new ≡ added v old → newest new.kids ≡ v
newest-pushed new old v e = ap (λ (z : Zip ValueLabel). newest z.kids) e ∙ newest-push old.kids v

pub pushed-newest : (new old : Zip ValueLabel) (v : Rose ValueLabel) → new ≡ added v old → new ≡ added (newest new.kids) old
pushed-newest new old v e = e ∙ ap (λ w. added w old) (sym (newest-pushed new old v e))

pub newest-told : {A : Type 0} (answer : Result A PerEnd) (new old : Zip ValueLabel) (v : Rose ValueLabel) → IfOk answer (λ _. new ≡ added v old) → IfOk answer (λ _. newest new.kids ≡ v)
newest-told (Ok x) new old v e = newest-pushed new old v e
newest-told (Err f) new old v e = tt

pub pushed-told : {A : Type 0} (answer : Result A PerEnd) (new old : Zip ValueLabel) (v : Rose ValueLabel) → IfOk answer (λ _. new ≡ added v old) → IfOk answer (λ _. new ≡ added (newest new.kids) old)
pushed-told (Ok x) new old v e = pushed-newest new old v e
pushed-told (Err f) new old v e = tt

-- a node is closed behind its kids, or its one kid
pub closed-list : (new mid old : Zip ValueLabel) (l : ValueLabel) → mid ≡ opened l old → new.above ≡ mid.above → closed new ≡ added (node l (roses_of new.kids)) old
closed-list new mid old l begun above = ap (λ up. closed_in up new.kids) (above ∙ ap (λ (z : Zip ValueLabel). z.above) begun)

pub closed-one : (new mid old : Zip ValueLabel) (l : ValueLabel) (v : Rose ValueLabel) → mid ≡ opened l old → new ≡ added v mid → closed new ≡ added (node l (roses_of (v ∷ []))) old
closed-one new mid old l v begun push = ap closed (push ∙ ap (added v) begun)

-- a node is closed where it gets its label last
pub closed-labeled : (new mid old : Zip ValueLabel) (l blank : ValueLabel) → mid ≡ opened blank old → new.above ≡ mid.above → closed (relabeled l new) ≡ added (node l (roses_of new.kids)) old
closed-labeled new mid old l blank begun above = ap (λ up. closed_in (relabeled_in l up) new.kids) (above ∙ ap (λ (z : Zip ValueLabel). z.above) begun)

-- what is known of the value is known of the newest
pub newest-has : {A : Type 0} (P : Rose ValueLabel → Type 0) (answer : Result A PerEnd) (v w : Rose ValueLabel) → IfOk answer (λ _. w ≡ v) → IfOk answer (λ _. P v) → IfOk answer (λ _. P w)
newest-has P (Ok x) v w e h = subst P (sym e) h
newest-has P (Err f) v w e h = tt

-- a value that was read is put behind others, where memory may be missing
pub newest_shows : {A : Type 0} (limit : ℕ) (whole : List ℕ) (v w : Rose ValueLabel) (answer : Result A PerEnd) (new : Spot) (stop : Stop) (taken : ℕ) (found : Result (Rose ValueLabel × Spot) Stop)
    → IfOk answer (λ _. w ≡ v) → IfErr answer (λ e. e ≡ fault.Memory) → found ≡ Ok (v, new) → 8 * taken ≤ new.at + 7 → Shows limit whole (λ _. w) answer new stop taken found
newest_shows limit whole v w (Ok x) new stop taken found same err is step = is ∙ ap (λ u. Ok (u, new)) (sym same)
newest_shows limit whole v w (Err e) new stop taken found same err is step = subst (λ f. FailsAt limit whole (halt_of f stop) taken found) (sym err) (omega (arith, step, ap (end_of {B = Rose ValueLabel}) is))
