-- Reading one after the other, as a loop does.
use Rattle.std.proofs.Common.{◌≡◌, ℕ, ◌+◌, ◌*◌, ◌<◌, ◌≤◌, Bool, true, false, cond, List, [], ◌∷◌, ◌++◌, length, get_or, drop, refl, sym, ap, ◌∙◌, subst, arith, append_assoc, Option, Some, None, Result, Ok, Err}
use Rattle.std.proofs.lemmas.List.{append-nil, drop_more}
use Rattle.base_trees.specs.Rose.{Rose, roses_of}
use Rattle.simple_types.specs.declared.labels.ValueLabel.{ValueLabel}
use Rattle.asn_types.specs.declared.modules.Assignment.{Assignment}
use Rattle.asn_types.specs.declared.types.Component.{Component}
use Rattle.asn_types.specs.declared.types.TypeLabel.{TypeLabel}
use Rattle.asn_values.specs.Values.{ComponentPlace, place_of, put_first, present_from, below, FitsAt, FitEach, Kept}
use Rattle.asn_values.proofs.Counting.{fit_none}
use Rattle.base_codecs.specs.declared.spots.Spot.{Spot}
use Rattle.per_fields.specs.declared.stops.Stop.{Stop}
use Rattle.per_fields.specs.Reading.{◌>>=◌, Reader, each_at}
use Rattle.per_decode.specs.Private.Giving.{Halt, memory, end_of, FailsAt}
use Rattle.per_decode.specs.Private.Bodies.{kid_at, kids_read, FitSome}
use Rattle.per_decode.proofs.Ends.{SteadyReader, sits_then, sits-each, fails_first}
use Rattle.per_decode.proofs.Fitting.{each-push}

-- what was read before, and what is still read
abbrev pub with_front : {B : Type 0} → List B → Result (List B × Spot) Stop → Result (List B × Spot) Stop
with_front front r = r >>= λ x. Ok (front ++ x.0, x.1)

regroup : {B : Type 0} (front : List B) (b : B) (r : Result (List B × Spot) Stop) → with_front front (r >>= λ x. Ok (b ∷ x.0, x.1)) ≡ with_front (front ++ b ∷ []) r
regroup front b (Ok x) = ap (λ bs. Ok (bs, x.1)) (sym (append_assoc front (b ∷ []) x.0))
regroup front b (Err f) = refl

-- an element of a list, and those behind it
pub here_split : {A : Type 0} (xs : List A) (i : ℕ) (a : A) → i < length xs → a ≡ get_or xs i a → drop i xs ≡ a ∷ drop (i + 1) xs
here_split xs i a at here = drop_more xs i a at ∙ ap (λ y. y ∷ drop (i + 1) xs) (sym here)

pub end-front : {B : Type 0} (front : List B) (r : Result (List B × Spot) Stop) → end_of (with_front front r) ≡ end_of r
end-front front (Ok x) = refl
end-front front (Err s) = refl

-- where nothing was read before
pub front-none : {B : Type 0} (front : List B) (r : Result (List B × Spot) Stop) → length front ≡ 0 → with_front front r ≡ r
front-none [] (Ok x) e = refl
front-none [] (Err s) e = refl
front-none (b ∷ bs) r e = absurd (omega arith)

module _ {A B : Type 0} (read : A → Reader B) (front : List B) (X : List Bool) (s : Spot) where
  pub each_done : (as' : List A) → as' ≡ [] → with_front front (each_at read as' X s) ≡ Ok (front, s)
  unfolding each_at
  each_done as' e = ap (λ bs. with_front front (each_at read bs X s)) e ∙ ap (λ bs. Ok (bs, s)) (append-nil front)

  module _ (a : A) (as' others : List A) (is : as' ≡ a ∷ others) where
    pub each_more : (b : B) (r : Spot) → read a X s ≡ Ok (b, r) → with_front front (each_at read as' X s) ≡ with_front (front ++ b ∷ []) (each_at read others X r)
    unfolding each_at
    each_more b r h = ap (λ bs. with_front front (each_at read bs X s)) is ∙ rw h (regroup front b (each_at read others X r))

    pub each_fails : ((a : A) → SteadyReader (read a)) → (limit : ℕ) (whole : List ℕ) (e : Halt) (taken : ℕ) → s.at ≤ length X → FailsAt limit whole e taken (read a X s) → FailsAt limit whole e taken (with_front front (each_at read as' X s))
    unfolding each_at
    each_fails one limit whole e taken inside h =
        let k = fails_first limit whole e taken X (read a X s) (λ b. each_at read others X b.1 >>= λ bs. Ok (b.0 ∷ bs.0, bs.1)) (one a X s inside).inside
        (λ b j. sits_then X b.1.at (each_at read others X b.1) (λ bs. Ok (b.0 ∷ bs.0, bs.1)) (sits-each read one others X b.1 j) (λ bs j. record { later = omega arith; inside = j })) h in
        let l = fails_first limit whole e taken X (each_at read (a ∷ others) X s) (λ x. Ok (front ++ x.0, x.1)) (sits-each read one (a ∷ others) X s inside).inside (λ x j. record { later = omega arith; inside = j }) k in
        subst (λ bs. FailsAt limit whole e taken (with_front front (each_at read bs X s))) (sym is) l

    -- want of memory behind what was read
    pub each_full : ((a : A) → SteadyReader (read a)) → (limit : ℕ) (whole : List ℕ) (b : B) (r : Spot) (taken : ℕ) → read a X s ≡ Ok (b, r) → r.at ≤ length X → 8 * taken ≤ r.at + 7
        → FailsAt limit whole memory taken (with_front front (each_at read as' X s))
    each_full one limit whole b r taken h inside step =
        let k = sits-each read one others X r inside in
        omega (arith, k.later, step, end-front (front ++ b ∷ []) (each_at read others X r), ap end_of (each_more b r h))

-- THE COMPONENTS OF A SEQUENCE
module _ (aligned : Bool) (M : List Assignment) (depth : ℕ) (l : TypeLabel) (parts : List Component) (ts : List (Rose TypeLabel)) (flags : List Bool) (told : Type 0) (X : List Bool) (began : Spot) where
  -- those before number i were read
  pub record Through (i : ℕ) (vs : List (Rose ValueLabel)) (s : Spot) : Type 0 where
    pub done : List ComponentPlace
    pub ps : List ComponentPlace
    pub rest : present_from l i (drop i parts) (drop i ts) (drop i flags) ≡ Some ps
    pub all : present_from l 0 parts ts flags ≡ Some (done ++ ps)
    pub fit : FitEach M depth done (roses_of vs)
    pub so_far : told → with_front vs (each_at (kid_at aligned M depth) ps X s) ≡ each_at (kid_at aligned M depth) (done ++ ps) X began

  same_front : {B : Type 0} (r : Result (List B × Spot) Stop) → with_front [] r ≡ r
  same_front (Ok x) = refl
  same_front (Err f) = refl

  pub through_none : (present_from l 0 parts ts flags ≡ None → ⊥) → Through 0 [] began
  through_none there = by (present_from l 0 parts ts flags) refl
    where
      by : (o : Option (List ComponentPlace)) → present_from l 0 parts ts flags ≡ o → Through 0 [] began
      by None is = absurd (there is)
      by (Some ps) is = record { done = []; ps = ps; rest = is; all = is; fit = fit_none M depth; so_far = λ t. same_front (each_at (kid_at aligned M depth) ps X began) }

  module _ (i : ℕ) (vs : List (Rose ValueLabel)) (s : Spot) (part : Component) (kid : Rose TypeLabel) (is_part : drop i parts ≡ part ∷ drop (i + 1) parts) (is_kid : drop i ts ≡ kid ∷ drop (i + 1) ts) where
    split : (flag : Bool) → drop i flags ≡ flag ∷ drop (i + 1) flags → (ps : List ComponentPlace) → present_from l i (drop i parts) (drop i ts) (drop i flags) ≡ Some ps
        → present_from l i (part ∷ drop (i + 1) parts) (kid ∷ drop (i + 1) ts) (flag ∷ drop (i + 1) flags) ≡ Some ps
    split flag is_flag ps e = sym (ap (λ cs. present_from l i cs (drop i ts) (drop i flags)) is_part ∙ ap (λ us. present_from l i (part ∷ drop (i + 1) parts) us (drop i flags)) is_kid ∙ ap (λ fs. present_from l i (part ∷ drop (i + 1) parts) (kid ∷ drop (i + 1) ts) fs) is_flag) ∙ e

    pub through_skip : drop i flags ≡ false ∷ drop (i + 1) flags → Through i vs s → Through (i + 1) vs s
    through_skip is_flag h = by part.optional (split false is_flag h.ps h.rest)
      where
        by : (b : Bool) → cond b (present_from l (i + 1) (drop (i + 1) parts) (drop (i + 1) ts) (drop (i + 1) flags)) None ≡ Some h.ps → Through (i + 1) vs s
        by true e = record { done = h.done; ps = h.ps; rest = e; all = h.all; fit = h.fit; so_far = h.so_far }
        by false e = absurd cc

    -- the place of the next one, and those behind it
    pub next_place : drop i flags ≡ true ∷ drop (i + 1) flags → (h : Through i vs s)
        → (qs : List ComponentPlace) × (h.ps ≡ place_of l i part kid ∷ qs) × (present_from l (i + 1) (drop (i + 1) parts) (drop (i + 1) ts) (drop (i + 1) flags) ≡ Some qs)
    next_place is_flag h = by (present_from l (i + 1) (drop (i + 1) parts) (drop (i + 1) ts) (drop (i + 1) flags)) refl (split true is_flag h.ps h.rest)
      where
        by : (o : Option (List ComponentPlace)) → present_from l (i + 1) (drop (i + 1) parts) (drop (i + 1) ts) (drop (i + 1) flags) ≡ o → put_first (place_of l i part kid) o ≡ Some h.ps
            → (qs : List ComponentPlace) × (h.ps ≡ place_of l i part kid ∷ qs) × (present_from l (i + 1) (drop (i + 1) parts) (drop (i + 1) ts) (drop (i + 1) flags) ≡ Some qs)
        by None is e = absurd cc
        by (Some qs) is e = let same : place_of l i part kid ∷ qs ≡ h.ps = cc in (qs, sym same, is)

    pub through_more : drop i flags ≡ true ∷ drop (i + 1) flags → (v : Rose ValueLabel) (r : Spot) → FitsAt M (below (place_of l i part kid).role depth) kid v × Kept M part kid v
        → (told → kid_at aligned M depth (place_of l i part kid) X s ≡ Ok (v, r)) → Through i vs s → Through (i + 1) (vs ++ v ∷ []) r
    through_more is_flag v r fits gives h =
        let n = next_place is_flag h in
        let p = place_of l i part kid in
        let e : h.done ++ h.ps ≡ (h.done ++ p ∷ []) ++ n.0 = ap (λ qs. h.done ++ qs) n.1 ∙ sym (append_assoc h.done (p ∷ []) n.0) in
        record {
          done = h.done ++ p ∷ [];
          ps = n.0;
          rest = n.2;
          all = h.all ∙ ap (λ qs. Some qs) e;
          fit = each-push M depth h.done p vs v h.fit fits;
          so_far = λ t. sym (each_more (kid_at aligned M depth) vs X s p h.ps n.0 n.1 v r (gives t)) ∙ h.so_far t ∙ ap (λ qs. each_at (kid_at aligned M depth) qs X began) e;
        }

    pub through_fails : drop i flags ≡ true ∷ drop (i + 1) flags → ((p : ComponentPlace) → SteadyReader (kid_at aligned M depth p)) → told → (limit : ℕ) (whole : List ℕ) (e : Halt) (taken : ℕ) → s.at ≤ length X
        → FailsAt limit whole e taken (kid_at aligned M depth (place_of l i part kid) X s) → Through i vs s → FailsAt limit whole e taken (kids_read aligned M depth (present_from l 0 parts ts flags) X began)
    through_fails is_flag one t limit whole e taken inside fails h =
        let n = next_place is_flag h in
        let k = each_fails (kid_at aligned M depth) vs X s (place_of l i part kid) h.ps n.0 n.1 one limit whole e taken inside fails in
        subst (λ o. FailsAt limit whole e taken (kids_read aligned M depth o X began)) (sym h.all) (subst (FailsAt limit whole e taken) (h.so_far t) k)

  -- no part is left
  module _ (i : ℕ) (vs : List (Rose ValueLabel)) (s : Spot) (end : drop i parts ≡ []) (h : Through i vs s) where
    no_place : h.ps ≡ []
    no_place = by (drop i ts) (drop i flags) (sym (ap (λ cs. present_from l i cs (drop i ts) (drop i flags)) end) ∙ h.rest)
      where
        by : (us : List (Rose TypeLabel)) (fs : List Bool) → present_from l i [] us fs ≡ Some h.ps → h.ps ≡ []
        by us [] e = let same : [] ≡ h.ps = cc in sym same
        by us (f ∷ fs) e = absurd cc

    whole_done : h.done ++ h.ps ≡ h.done
    whole_done = ap (λ qs. h.done ++ qs) no_place ∙ append-nil h.done

    pub through_end : told → kids_read aligned M depth (present_from l 0 parts ts flags) X began ≡ Ok (vs, s)
    through_end t = ap (λ o. kids_read aligned M depth o X began) h.all ∙ sym (h.so_far t) ∙ each_done (kid_at aligned M depth) vs X s h.ps no_place

    pub through_fit : FitSome M depth (present_from l 0 parts ts flags) (roses_of vs)
    through_fit = subst (λ o. FitSome M depth o (roses_of vs)) (sym (h.all ∙ ap (λ qs. Some qs) whole_done)) h.fit
