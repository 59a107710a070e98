-- Tables of what is known of each assignment.
use Rattle.std.proofs.Common.{◌≡◌, ℕ, zero, suc, ◌<◌, ◌+◌, Bool, true, false, cond, Option, Some, None, List, [], ◌∷◌, ◌++◌, length, take, get_or, refl, sym, ap, ◌∙◌, arith}
use Rattle.std.specs.Prelude.{bytes_eq, position, is_some, MatchOption, nat_lt, if◌then◌else◌}
use Rattle.std.specs.List.{position_from, position_or_len}
use Rattle.std.specs.Option.{option_map}
use Rattle.std.proofs.lemmas.Bool.{ltb-true}
use Rattle.std.proofs.lemmas.List.{take_more, length-take-le}
use Rattle.std.proofs.lemmas.Option.{cond_some, none-some, same_Some, slice_get_read}
use Rattle.std.proofs.lemmas.Iterator.Adapters.{position_from-zero}
use Rattle.std.proofs.lemmas.Slice.Eq.{bytes_eq-Decides}
use Rattle.base_trees.specs.Rose.{Rose}
use Rattle.module_text.specs.declared.types.PlainLabel.{PlainLabel}
use Rattle.module_text.specs.declared.modules.PlainAssignment.{PlainAssignment}
use Rattle.module_check.specs.Known.{NotesReference}
use Rattle.module_text.specs.Resolving.{number_of, body_at, next, follow, resolve}

-- ---- the first place in a list with one element more

abbrev pub or_last : Option ℕ → Bool → ℕ → Option ℕ
or_last (Some k) b n = Some k
or_last None b n = cond b (Some n) None

module _ {X : Type 0} (p : X → Bool) where
  here_or_behind : (b c : Bool) (i n : ℕ) (shorter longer : Option ℕ) → longer ≡ or_last shorter c (i + 1 + n)
      → cond b (Some i) longer ≡ or_last (cond b (Some i) shorter) c (i + suc n)
  here_or_behind true c i n shorter longer e = refl
  here_or_behind false c i n shorter longer e = let same : i + 1 + n ≡ i + suc n = omega arith in e ∙ ap (or_last shorter c) same

  from-push : (i : ℕ) (xs : List X) (x : X) → position_from p i (xs ++ x ∷ []) ≡ or_last (position_from p i xs) (p x) (i + length xs)
  from-push i [] x = let same : i ≡ i + 0 = omega arith in ap (λ n. cond (p x) (Some n) None) same
  from-push i (y ∷ ys) x = here_or_behind (p y) (p x) i (length ys) _ _ (from-push (i + 1) ys x)

  pub position-push : (xs : List X) (x : X) → position p (xs ++ x ∷ []) ≡ or_last (position p xs) (p x) (length xs)
  position-push xs x =
      let none_before : 0 + length xs ≡ length xs = omega arith in
      position_from-zero p (xs ++ x ∷ []) ∙ from-push 0 xs x
      ∙ ap (λ n. or_last (position_from p 0 xs) (p x) n) none_before
      ∙ ap (λ o. or_last o (p x) (length xs)) (sym (position_from-zero p xs))

  pub position-within : (xs : List X) (k : ℕ) → position p xs ≡ Some k → k < length xs
  position-within xs k e =
      let h = cond_some (nat_lt (position_or_len p xs) (length xs)) (position_or_len p xs) k e in
      let below : position_or_len p xs < length xs = ltb-true (position_or_len p xs) (length xs) h.0 in
      let same : position_or_len p xs ≡ k = h.1 in
      omega arith

-- ---- numbers of assignments

last-none : (o : Option ℕ) (n : ℕ) → or_last o false n ≡ o
last-none None n = refl
last-none (Some k) n = refl

last-some : (o : Option ℕ) (b : Bool) (n : ℕ) → is_some o ≡ true → or_last o b n ≡ o
last-some None b n e = absurd (cc)
last-some (Some k) b n e = refl

last-new : (o : Option ℕ) (n : ℕ) → is_some o ≡ false → or_last o true n ≡ Some n
last-new None n e = refl
last-new (Some k) n e = absurd (cc)

same_bytes : (xs ys : List ℕ) → bytes_eq xs ys ≡ true → xs ≡ ys
same_bytes xs ys e = (bytes_eq-Decides xs ys).0 e

-- one assignment more whose reference stood before
again_by : (Q : List PlainAssignment) (a : PlainAssignment) (r : List ℕ) (b : Bool) → bytes_eq a.reference r ≡ b
    → is_some (number_of Q a.reference) ≡ true → or_last (number_of Q r) b (length Q) ≡ number_of Q r
again_by Q a r true e h = last-some (number_of Q r) true (length Q) (ap (λ t. is_some (number_of Q t)) (sym (same_bytes a.reference r e)) ∙ h)
again_by Q a r false e h = last-none (number_of Q r) (length Q)

pub number-again : (Q : List PlainAssignment) (a : PlainAssignment) (r : List ℕ) → is_some (number_of Q a.reference) ≡ true
    → number_of Q r ≡ number_of (Q ++ a ∷ []) r
number-again Q a r h =
    sym (position-push (λ (x : PlainAssignment). bytes_eq x.reference r) Q a ∙ again_by Q a r (bytes_eq a.reference r) refl h)

-- and one whose reference is new
new_by : (Q : List PlainAssignment) (a : PlainAssignment) (r : List ℕ) (b : Bool) → bytes_eq a.reference r ≡ b
    → is_some (number_of Q a.reference) ≡ false → or_last (number_of Q r) b (length Q) ≡ cond b (Some (length Q)) (number_of Q r)
new_by Q a r true e h = last-new (number_of Q r) (length Q) (ap (λ t. is_some (number_of Q t)) (sym (same_bytes a.reference r e)) ∙ h)
new_by Q a r false e h = last-none (number_of Q r) (length Q)

pub number-new : (Q : List PlainAssignment) (a : PlainAssignment) (r : List ℕ) → is_some (number_of Q a.reference) ≡ false
    → cond (bytes_eq a.reference r) (Some (length Q)) (number_of Q r) ≡ number_of (Q ++ a ∷ []) r
number-new Q a r h =
    sym (position-push (λ (x : PlainAssignment). bytes_eq x.reference r) Q a ∙ new_by Q a r (bytes_eq a.reference r) refl h)

module _ (P : List PlainAssignment) (i : ℕ) (a : PlainAssignment) (at : i < length P) (here : a ≡ get_or P i a) (old new : List ℕ → Option ℕ)
    (known : (r : List ℕ) → old r ≡ number_of (take i P) r) (notes : NotesReference old a.reference i new) where
  with_one : take (i + 1) P ≡ take i P ++ a ∷ []
  with_one = take_more P i a at ∙ ap (λ x. take i P ++ x ∷ []) (sym here)

  long : length (take i P) ≡ i
  long = length-take-le i P (omega arith)

  noted_by : (b : Bool) → is_some (old a.reference) ≡ b → (r : List ℕ)
      → (if b then old r else (if bytes_eq a.reference r then Some i else old r)) ≡ number_of (take i P ++ a ∷ []) r
  noted_by true e r = known r ∙ number-again (take i P) a r (ap is_some (sym (known a.reference)) ∙ e)
  noted_by false e r =
      ap (λ o. if bytes_eq a.reference r then Some i else o) (known r)
      ∙ ap (λ n. if bytes_eq a.reference r then Some n else number_of (take i P) r) (sym long)
      ∙ number-new (take i P) a r (ap is_some (sym (known a.reference)) ∙ e)

  pub table-more : (r : List ℕ) → new r ≡ number_of (take (i + 1) P) r
  table-more r =
      notes r ∙ noted_by (is_some (old a.reference)) refl r ∙ ap (λ Q. number_of Q r) (sym with_one)

module _ (old : List ℕ → Option ℕ) (reference : List ℕ) (i : ℕ) where
  pub notes-again : is_some (old reference) ≡ true → NotesReference old reference i old
  notes-again e r = ap (λ b. if b then old r else (if bytes_eq reference r then Some i else old r)) (sym e)

  pub notes-new : (new : List ℕ → Option ℕ) → is_some (old reference) ≡ false
      → ((r : List ℕ) → new r ≡ cond (bytes_eq reference r) (Some i) (old r)) → NotesReference old reference i new
  notes-new new e is r = is r ∙ rw e refl

-- ---- where references lead

module _ (P : List PlainAssignment) where
  pub number-within : (r : List ℕ) (k : ℕ) → number_of P r ≡ Some k → k < length P
  number-within r k e = position-within (λ (a : PlainAssignment). bytes_eq a.reference r) P k e

  stays_by : (n : ℕ) (t : Rose PlainLabel) (o : Option (Rose PlainLabel)) → o ≡ None → elim o [ None ↦ t | Some u ↦ follow P n u ] ≡ t
  stays_by n t None e = refl
  stays_by n t (Some u) e = absurd (none-some u (sym e))

  on_by : (n : ℕ) (t u : Rose PlainLabel) (o : Option (Rose PlainLabel)) → o ≡ Some u → elim o [ None ↦ t | Some v ↦ follow P n v ] ≡ follow P n u
  on_by n t u None e = absurd (none-some u e)
  on_by n t u (Some v) e = ap (λ w. follow P n w) (same_Some v u e)

  -- a type that leads no further
  pub follow-stays : (n : ℕ) (t : Rose PlainLabel) → next P t ≡ None → follow P n t ≡ t
  unfolding follow
  follow-stays zero t e = refl
  follow-stays (suc n) t e = stays_by n t (next P t) e

  follow_more : (n : ℕ) (t u : Rose PlainLabel) → next P t ≡ Some u → follow P (suc n) t ≡ follow P n u
  unfolding follow
  follow_more n t u e = on_by n t u (next P t) e

  pub follow-on : (n m : ℕ) (t u : Rose PlainLabel) → m ≡ suc n → next P t ≡ Some u → follow P m t ≡ follow P n u
  follow-on n m t u same e = ap (λ k. follow P k t) same ∙ follow_more n t u e

  follow_none : (t : Rose PlainLabel) → follow P 0 t ≡ t
  unfolding follow
  follow_none t = refl

  pub follow-ended : (n : ℕ) (t : Rose PlainLabel) → n ≡ 0 → follow P n t ≡ t
  follow-ended n t e = ap (λ k. follow P k t) e ∙ follow_none t

  pub body-read : (k : ℕ) (a : PlainAssignment) → k < length P → a ≡ get_or P k a → body_at P k ≡ Some a.body
  body-read k a at here = ap (option_map (λ (x : PlainAssignment). x.body)) (slice_get_read P (length P) k a refl at here)

  abbrev pub IsMeant : Rose PlainLabel → Rose PlainLabel → Option ℕ → Type 0
  IsMeant start t found = MatchOption found (t ≡ start) (λ k. (k < length P) × (body_at P k ≡ Some t))

  pub meant-here : (start t : Rose PlainLabel) (found : Option ℕ) → t ≡ resolve P start → IsMeant start t found
      → MatchOption found (resolve P start ≡ start) (λ k. (k < length P) × (body_at P k ≡ Some (resolve P start)))
  meant-here start t None e h = sym e ∙ h
  meant-here start t (Some k) e h = (h.0, h.1 ∙ ap Some e)
