-- The types made so far: none, one more, and all.
use Rattle.std.proofs.Common.{◌≡◌, ℕ, zero, suc, ◌<◌, arith, Bool, true, false, ◌⊎◌, inl, inr, List, [], ◌∷◌, length, set, replicate, get_or, refl, sym, ap, ◌∙◌, subst, Option, Some, None, Result, Ok, Err}
use Rattle.std.specs.Prelude.{IsSome, IfSome, slice_get, if◌then◌else◌}
use Rattle.std.specs.Result.{is_ok, is_err}
use Rattle.std.proofs.Math.ListN.{length-set}
use Rattle.std.proofs.lemmas.List.{length-map, length-replicate}
use Rattle.std.proofs.lemmas.Option.{slice_get_within}
use Rattle.std.proofs.lemmas.Bool.{cases_eq, true≢false}
use Rattle.simple_types.specs.declared.simples.Simple.{Simple}
use Rattle.simple_types.specs.Seen.{space_of}
use Rattle.simple_types.specs.Sound.{Sound}
use Rattle.simple_types.specs.Space.{Space}
use Rattle.link_names.specs.declared.faults.LinkingFault.{LinkingFault}
use Rattle.link_names.specs.declared.faults.LinkWhy.{LinkWhy}
use Rattle.link_names.specs.Order.{fault, precedes, first_of, IsFirstSuch}
use Rattle.link_names.proofs.Firsts.{precedes_itself, such_joined}
use Rattle.link_names.specs.Cycles.{numbers_in, parts_in, edges}
use Rattle.link_names.specs.Graphs.{IsEdge}
use Rattle.base_texts.specs.Lists.{HasItem}
use Rattle.link_names.specs.Private.Searching.{mark}
use Rattle.link_names.specs.SimpleTypes.{SimpleDefinition}
use Rattle.link_names.proofs.Walks.{set_parts, set_here, set_kept, unmarked}
use Rattle.link_simple.specs.declared.leaving.Left.{Left}
use Rattle.link_simple.specs.declared.leaving.Left.TheVariants as left
use Rattle.link_simple.specs.Answering.{made_of, AreSound}
use Rattle.link_simple.specs.Private.Leaving.{LeftBy}
use Rattle.link_simple.specs.Making.{entry_at, IsLeft, IsEntry, IsMaking, IsNotMadeOf}
use Rattle.link_simple.specs.Private.Parts.{entry_of, entries_of}
use Rattle.link_simple.specs.Private.Working.{space_left, fault_left, IsFaultAmong, Stands}
use Rattle.link_simple.proofs.Once.{once, same_left, same_entry, entry_stays}
use Rattle.link_simple.proofs.Uniqueness.{row_of, same_list}

-- entries

pub entries_set : (es : List (Option Simple)) (n : ℕ) (o : Option Simple) → entries_of (set es n o) ≡ set (entries_of es) n (entry_of o)
entries_set [] n o = refl
entries_set (e ∷ es) zero o = refl
entries_set (e ∷ es) (suc n) o = ap (λ os. entry_of e ∷ os) (entries_set es n o)

set_entry_here : (made : List (Option Space)) (n : ℕ) (o : Option Space) → n < length made → entry_at (set made n o) n ≡ o
set_entry_here [] n o lt = absurd (omega (arith, lt))
set_entry_here (x ∷ made) zero o lt = refl
set_entry_here (x ∷ made) (suc n) o lt = set_entry_here made n o (omega (arith, lt))

set_entry_other : (made : List (Option Space)) (n m : ℕ) (o : Option Space) → (n ≡ m → ⊥) → entry_at (set made n o) m ≡ entry_at made m
set_entry_other [] n m o apart = refl
set_entry_other (x ∷ made) zero zero o apart = absurd (apart refl)
set_entry_other (x ∷ made) zero (suc m) o apart = refl
set_entry_other (x ∷ made) (suc n) zero o apart = refl
set_entry_other (x ∷ made) (suc n) (suc m) o apart = set_entry_other made n m o (λ e. apart (ap suc e))

no_entry : (k n : ℕ) → entry_at (entries_of (replicate k None)) n ≡ None
no_entry zero n = refl
no_entry (suc k) zero = refl
no_entry (suc k) (suc n) = no_entry k n

the_same : (d e : SimpleDefinition) → Some d ≡ Some e → d ≡ e
the_same d e p = cc

-- marks

pub mark_read : (bs : List Bool) (n : ℕ) (d b : Bool) → n < length bs → get_or bs n d ≡ b → mark bs n ≡ b
mark_read [] n d b lt is = absurd (omega (arith, lt))
mark_read (x ∷ bs) zero d b lt is = is
mark_read (x ∷ bs) (suc n) d b lt is = mark_read bs n d b (omega (arith, lt)) is

-- none

pub stands_first : (ds : List SimpleDefinition) → Stands ds (entries_of (replicate (length ds) None)) (replicate (length ds) false) None
stands_first ds =
    let count = length ds in
    let none : (n : ℕ) → mark (replicate count false) n ≡ true → ⊥ = λ n e. unmarked count n e in
    record {
      long = length-map (replicate count None) entry_of ∙ length-replicate count None;
      marks = length-replicate count false;
      fits = λ n d e is. absurd (none n e);
      closed = λ n m e edge. absurd (none n e);
      only = λ others making n e. absurd (none n e);
      first = λ f r. absurd (none r.0 r.2);
      sound = λ n. subst (λ o. IfSome o Sound) (sym (no_entry count n)) tt;
      filled = λ quiet n e. absurd (none n e);
    }

-- what is left of one

err_is : (w v : LinkWhy) → (let r : Result Space LinkWhy = Err w in r) ≡ Err v → w ≡ v
err_is w v e = cc

ok_err : (s : Space) (v : LinkWhy) → (let r : Result Space LinkWhy = Ok s in r) ≡ Err v → ⊥
ok_err s v e = true≢false (ap is_ok e)

module _ (ds : List SimpleDefinition) (made : List (Option Space)) (d : SimpleDefinition) where
  abbrev pub IsHere : LinkingFault → Type 0
  IsHere f = (f.place ≡ d.body) × IsLeft (numbers_in ds) made d.place.file d.how (Err f.why)

  pub left_fits : (l : Left) → LeftBy (IsLeft (numbers_in ds) made d.place.file d.how) l → IsEntry (numbers_in ds) made d (space_left l)
  left_fits (left.Made simple) h = h.0
  left_fits (left.Refused why) h = λ r k. ap is_err (once (numbers_in ds) made d.place.file d.how r (Err why) k h)
  left_fits left.PartMissing h = λ r k. absurd (h r k)

  pub left_sound : (l : Left) → LeftBy (IsLeft (numbers_in ds) made d.place.file d.how) l → IfSome (space_left l) Sound
  left_sound (left.Made simple) h = h.1
  left_sound (left.Refused why) h = tt
  left_sound left.PartMissing h = tt

  same_fault : (why : LinkWhy) (f : LinkingFault) → IsLeft (numbers_in ds) made d.place.file d.how (Err why) → IsHere f → fault why d.body ≡ f
  same_fault why f h k =
      let same = err_is why f.why (once (numbers_in ds) made d.place.file d.how (Err why) (Err f.why) h k.1) in
      λ i. record { place = sym k.0 i; why = same i }

  pub left_faults : (l : Left) → LeftBy (IsLeft (numbers_in ds) made d.place.file d.how) l → IsFirstSuch IsHere (fault_left d.body l)
  left_faults (left.Made simple) h = λ f k. ok_err (space_of simple) f.why (once (numbers_in ds) made d.place.file d.how (Ok (space_of simple)) (Err f.why) h.0 k.1)
  left_faults (left.Refused why) h = (
    (refl, h),
    λ g k. subst (λ x. precedes x (fault why d.body) ≡ false) (same_fault why g h k) (precedes_itself (fault why d.body)),
  )
  left_faults left.PartMissing h = λ f k. h (Err f.why) k.1

-- one more

some_first : (b : Bool) (f g : LinkingFault) → (if b then Some g else Some f) ≡ None → ⊥
some_first true f g e = cc
some_first false f g e = cc

both_none : (found w : Option LinkingFault) → first_of found w ≡ None → (found ≡ None) × (w ≡ None)
both_none found None e = (e, refl)
both_none None (Some g) e = absurd cc
both_none (Some f) (Some g) e = absurd (some_first (precedes g f) f g e)

module _
    (ds : List SimpleDefinition) (made : List (Option Space)) (done : List Bool) (found : Option LinkingFault) (h : Stands ds made done found) (n : ℕ) (d : SimpleDefinition)
    (is : slice_get ds n ≡ Some d) (free : mark done n ≡ false) (within : n < length done) (ready : (m : ℕ) → IsEdge (edges ds) n m → mark done m ≡ true)
    (o : Option Space) (w : Option LinkingFault) (fits : IsEntry (numbers_in ds) made d o) (sound : IfSome o Sound) (faults : IsFirstSuch (IsHere ds made d) w)
    (filled : ((m : ℕ) → HasItem (parts_in (numbers_in ds) d) m → IsSome (entry_at made m)) → w ≡ None → IsSome o) where
  here : entry_at (set made n o) n ≡ o
  here = let long = h.long in let marks = h.marks in set_entry_here made n o (omega (arith, long, marks, within))

  other : (m : ℕ) → mark done m ≡ true → entry_at made m ≡ entry_at (set made n o) m
  other m e = sym (set_entry_other made n m o (λ same. true≢false (sym e ∙ ap (mark done) (sym same) ∙ free)))

  edge_of : (k : ℕ) (e : SimpleDefinition) → slice_get ds k ≡ Some e → (m : ℕ) → HasItem (parts_in (numbers_in ds) e) m → IsEdge (edges ds) k m
  edge_of k e is_k m p = subst (λ xs. HasItem xs m) (sym (row_of (parts_in (numbers_in ds)) ds k e is_k)) p

  agree_old : (k : ℕ) (e : SimpleDefinition) → mark done k ≡ true → slice_get ds k ≡ Some e → (m : ℕ) → HasItem (parts_in (numbers_in ds) e) m
      → entry_at made m ≡ entry_at (set made n o) m
  agree_old k e marked is_k m p = other m (h.closed k m marked (edge_of k e is_k m p))

  agree_here : (m : ℕ) → HasItem (parts_in (numbers_in ds) d) m → entry_at made m ≡ entry_at (set made n o) m
  agree_here m p = other m (ready m (edge_of n d is m p))

  same_definition : (k : ℕ) (e : SimpleDefinition) → n ≡ k → slice_get ds k ≡ Some e → d ≡ e
  same_definition k e same is_k = the_same d e (sym is ∙ ap (slice_get ds) same ∙ is_k)

  fits_now : (k : ℕ) (e : SimpleDefinition) → mark (set done n true) k ≡ true → slice_get ds k ≡ Some e → IsEntry (numbers_in ds) (set made n o) e (entry_at (set made n o) k)
  fits_now k e marked is_k = elim (set_parts done n k marked) [
    | inl old ↦
        subst (IsEntry (numbers_in ds) (set made n o) e) (other k old)
        (entry_stays (numbers_in ds) made (set made n o) e (agree_old k e old is_k) (entry_at made k) (h.fits k e old is_k))
    | inr same ↦
        subst (λ x. IsEntry (numbers_in ds) (set made n o) x (entry_at (set made n o) k)) (same_definition k e same is_k)
        (subst (λ x. IsEntry (numbers_in ds) (set made n o) d (entry_at (set made n o) x)) same
        (subst (IsEntry (numbers_in ds) (set made n o) d) (sym here) (entry_stays (numbers_in ds) made (set made n o) d agree_here o fits)))
  ]

  closed_now : (k m : ℕ) → mark (set done n true) k ≡ true → IsEdge (edges ds) k m → mark (set done n true) m ≡ true
  closed_now k m marked edge = set_kept done n m (elim (set_parts done n k marked) [
    | inl old ↦ h.closed k m old edge
    | inr same ↦ ready m (subst (λ x. IsEdge (edges ds) x m) (sym same) edge)
  ])

  only_now : (others : List (Option Space)) → IsMaking ds others → (k : ℕ) → mark (set done n true) k ≡ true → entry_at others k ≡ entry_at (set made n o) k
  only_now others making k marked = elim (set_parts done n k marked) [
    | inl old ↦ h.only others making k old ∙ other k old
    | inr same ↦
        let agree : (m : ℕ) → HasItem (parts_in (numbers_in ds) d) m → entry_at made m ≡ entry_at others m = λ m p. sym (h.only others making m (ready m (edge_of n d is m p))) in
        subst (λ x. entry_at others x ≡ entry_at (set made n o) x) same
        (sym (same_entry (numbers_in ds) made others d agree o (entry_at others n) fits (making.1 n d is)) ∙ sym here)
  ]

  sound_now : (k : ℕ) → IfSome (entry_at (set made n o) k) Sound
  sound_now k = elim (cases_eq n k) [
    | inl same ↦ subst (λ x. IfSome (entry_at (set made n o) x) Sound) same (subst (λ p. IfSome p Sound) (sym here) sound)
    | inr apart ↦ subst (λ p. IfSome p Sound) (sym (set_entry_other made n k o apart)) (h.sound k)
  ]

  fault_parts : (f : LinkingFault) → IsFaultAmong ds (set made n o) (set done n true) f → IsFaultAmong ds made done f ⊎ IsHere ds made d f
  fault_parts f r = elim (set_parts done n r.0 r.2) [
    | inl old ↦ inl (
      r.0,
      r.1,
      old,
      r.3,
      r.4,
      same_left (numbers_in ds) (set made n o) made r.1.place.file r.1.how (λ m p. sym (agree_old r.0 r.1 old r.3 m p)) (Err f.why) r.5,
    )
    | inr same ↦
        let same_d = same_definition r.0 r.1 same r.3 in
        inr (
          r.4 ∙ ap (λ x. x.body) (sym same_d),
          same_left (numbers_in ds) (set made n o) made d.place.file d.how (λ m p. sym (agree_here m p)) (Err f.why)
              (subst (λ x. IsLeft (numbers_in ds) (set made n o) x.place.file x.how (Err f.why)) (sym same_d) r.5),
        )
  ]

  old_fault : (f : LinkingFault) → IsFaultAmong ds made done f → IsFaultAmong ds (set made n o) (set done n true) f
  old_fault f r = (
    r.0,
    r.1,
    set_kept done n r.0 r.2,
    r.3,
    r.4,
    same_left (numbers_in ds) made (set made n o) r.1.place.file r.1.how (agree_old r.0 r.1 r.2 r.3) (Err f.why) r.5,
  )

  new_fault : (f : LinkingFault) → IsHere ds made d f → IsFaultAmong ds (set made n o) (set done n true) f
  new_fault f k = (n, d, set_here done n within, is, k.0, same_left (numbers_in ds) made (set made n o) d.place.file d.how agree_here (Err f.why) k.1)

  filled_now : first_of found w ≡ None → (k : ℕ) → mark (set done n true) k ≡ true → IsSome (entry_at (set made n o) k)
  filled_now none k marked =
      let quiet = both_none found w none in
      elim (set_parts done n k marked) [
        | inl old ↦ subst IsSome (other k old) (h.filled quiet.0 k old)
        | inr same ↦
            let parts : (m : ℕ) → HasItem (parts_in (numbers_in ds) d) m → IsSome (entry_at made m) = λ m p. h.filled quiet.0 m (ready m (edge_of n d is m p)) in
            subst (λ x. IsSome (entry_at (set made n o) x)) same (subst IsSome (sym here) (filled parts quiet.1))
      ]

  pub stands_next : Stands ds (set made n o) (set done n true) (first_of found w)
  stands_next = record {
    long = length-set made n o ∙ h.long;
    marks = length-set done n true ∙ h.marks;
    fits = fits_now;
    closed = closed_now;
    only = only_now;
    first = such_joined (IsFaultAmong ds made done) (IsHere ds made d) (IsFaultAmong ds (set made n o) (set done n true)) fault_parts old_fault new_fault found w h.first faults;
    sound = sound_now;
    filled = filled_now;
  }

-- all

pub such_same : (P Q : LinkingFault → Type 0) → ((f : LinkingFault) → P f → Q f) → ((f : LinkingFault) → Q f → P f) → (found : Option LinkingFault) → IsFirstSuch P found → IsFirstSuch Q found
such_same P Q to from None h = λ f q. h f (from f q)
such_same P Q to from (Some f) h = (to f h.0, λ g q. h.1 g (from g q))

module _
    (ds : List SimpleDefinition) (made : List (Option Space)) (done : List Bool) (found : Option LinkingFault) (h : Stands ds made done found)
    (all : (n : ℕ) → n < length done → mark done n ≡ true) where
  marked : (n : ℕ) → n < length ds → mark done n ≡ true
  marked n lt = let marks = h.marks in all n (omega (arith, lt, marks))

  pub is_making : IsMaking ds made
  is_making = (h.long, λ n d is. h.fits n d (marked n (slice_get_within ds n d is)) is)

  one : (others : List (Option Space)) → IsMaking ds others → others ≡ made
  one others making =
      let long = making.0 in
      same_list others made (making.0 ∙ sym h.long) (λ n lt. h.only others making n (marked n (omega (arith, long, lt))))

  to : (f : LinkingFault) → IsFaultAmong ds made done f → IsNotMadeOf ds f
  to f r = (made, is_making, r.0, r.1, r.3, r.4, r.5)

  from : (f : LinkingFault) → IsNotMadeOf ds f → IsFaultAmong ds made done f
  from f q = (
    q.2,
    q.3,
    marked q.2 (slice_get_within ds q.2 q.3 q.4),
    q.4,
    q.5,
    subst (λ m. IsLeft (numbers_in ds) m q.3.place.file q.3.how (Err f.why)) (one q.0 q.1) q.6,
  )

  pub first_fault : IsFirstSuch (IsNotMadeOf ds) found
  first_fault = such_same (IsFaultAmong ds made done) (IsNotMadeOf ds) to from found h.first

made_at : (ss : List Simple) (k : ℕ) (d : Simple) → k < length ss → entry_at (made_of ss) k ≡ Some (space_of (get_or ss k d))
made_at [] k d lt = absurd (omega (arith, lt))
made_at (s ∷ ss) zero d lt = refl
made_at (s ∷ ss) (suc k) d lt = made_at ss k d (omega (arith, lt))

pub each_sound : (ss : List Simple) → ((n : ℕ) → IfSome (entry_at (made_of ss) n) Sound) → AreSound ss
each_sound ss h = λ k d lt. subst (λ o. IfSome o Sound) (made_at ss k d lt) (h k)
