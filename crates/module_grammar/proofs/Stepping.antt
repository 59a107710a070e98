-- What is read from a place on, of readers put together.
use Rattle.std.proofs.Common.{◌≡◌, ℕ, zero, suc, ◌+◌, ◌<◌, ◌≤◌, ◌⊎◌, inl, inr, List, [], ◌∷◌, length, drop, Result, Ok, Err, refl, ap, ◌∙◌, subst, arith, drop-drop, length-drop}
use Rattle.module_grammar.specs.declared.reach.Reach.{Reach}
use Rattle.module_grammar.specs.declared.reach.Stop.{Stop}
use Rattle.module_grammar.specs.declared.reach.Stop.TheVariants as stop
use Rattle.module_grammar.specs.Reading.{Answer, Found, Fails, Deep, Reader, later, behind, go_on, then_at, or_else, failed_before, or_at, cons_at, one_more, up_to, many_at, answer_map, as_at}
use Rattle.module_grammar.specs.Reached.{reach, reached, reading}

later_moved : (at size far n m : ℕ) → later far (at + later n (size + m)) ≡ later (later far (at + n)) ((at + size) + m)
later_moved at size far n m = omega arith

-- ---- one after the other

abbrev pub with_first : {A B : Type 0} → A → Result (B × Reach) Stop → Result ((A × B) × Reach) Stop
with_first a (Ok x) = Ok ((a, x.0), x.1)
with_first a (Err e) = Err e

abbrev pub and_then : {A B : Type 0} → Result (A × Reach) Stop → (A → Reach → Result (B × Reach) Stop) → Result ((A × B) × Reach) Stop
and_then (Ok x) next = with_first x.0 (next x.0 x.1)
and_then (Err e) next = Err e

behind_reached : {A B : Type 0} (s : Reach) (a : A) (size n : ℕ) (r : Answer B) → reached s (behind a size n r) ≡ with_first a (reached (reach (s.at + size) (later s.far (s.at + n))) r)
behind_reached s a size n (Found b more m) = ap (λ k. Ok ((a, b), reach k (later s.far (s.at + later n (size + m))))) (omega arith) ∙ ap (λ k. Ok ((a, b), reach ((s.at + size) + more) k)) (later_moved s.at size s.far n m)
behind_reached s a size n (Fails m) = ap (λ k. Err (stop.Fails k)) (later_moved s.at size s.far n m)
behind_reached s a size n (Deep at m) = ap (λ k. Err (stop.Deep k (later s.far (s.at + later n (size + m))))) (omega arith) ∙ ap (λ k. Err (stop.Deep ((s.at + size) + at) k)) (later_moved s.at size s.far n m)

on_reached : {A B : Type 0} (next : A → Reader B) (bytes : List ℕ) (s : Reach) (r : Answer A) → reached s (go_on next s.at (drop s.at bytes) r) ≡ and_then (reached s r) (λ a q. reached q (next a q.at (drop q.at bytes)))
on_reached next bytes s (Found a size n) =
    behind_reached s a size n (next a (s.at + size) (drop size (drop s.at bytes)))
    ∙ ap (λ l. with_first a (reached (reach (s.at + size) (later s.far (s.at + n))) (next a (s.at + size) l))) (drop-drop size s.at bytes)
on_reached next bytes s (Fails n) = refl
on_reached next bytes s (Deep at n) = refl

pub reading_then : {A B : Type 0} (first : Reader A) (next : A → Reader B) (bytes : List ℕ) (s : Reach) → reading (then_at first next) bytes s ≡ and_then (reading first bytes s) (λ a q. reading (next a) bytes q)
unfolding reading
reading_then first next bytes s = on_reached next bytes s (first s.at (drop s.at bytes))

-- ---- another form

abbrev pub in_form : {A B : Type 0} → (A → B) → Result (A × Reach) Stop → Result (B × Reach) Stop
in_form f (Ok x) = Ok (f x.0, x.1)
in_form f (Err e) = Err e

map_reached : {A B : Type 0} (f : A → B) (s : Reach) (r : Answer A) → reached s (answer_map f r) ≡ in_form f (reached s r)
map_reached f s (Found a size n) = refl
map_reached f s (Fails n) = refl
map_reached f s (Deep at n) = refl

pub reading_as : {A B : Type 0} (to : ℕ → A → B) (read : Reader A) (bytes : List ℕ) (s : Reach) → reading (as_at to read) bytes s ≡ in_form (to s.at) (reading read bytes s)
unfolding reading
reading_as to read bytes s = map_reached (to s.at) s (read s.at (drop s.at bytes))

-- ---- one or the other

abbrev pub or_next : {A B : Type 0} → Result (A × Reach) Stop → (ℕ → Result (B × Reach) Stop) → Result ((A ⊎ B) × Reach) Stop
or_next (Ok x) other = Ok (inl x.0, x.1)
or_next (Err (stop.Fails far)) other = in_form (λ b. inr b) (other far)
or_next (Err (stop.Deep at far)) other = Err (stop.Deep at far)
or_next (Err stop.Memory) other = Err stop.Memory

failed_reached : {A B : Type 0} (s : Reach) (n : ℕ) (r : Answer B) → reached s (failed_before {A = A} n r) ≡ in_form (λ b. inr b) (reached (reach s.at (later s.far (s.at + n))) r)
failed_reached s n (Found b size m) = ap (λ k. Ok (inr b, reach (s.at + size) k)) (omega arith)
failed_reached s n (Fails m) = ap (λ k. Err (stop.Fails k)) (omega arith)
failed_reached s n (Deep at m) = ap (λ k. Err (stop.Deep (s.at + at) k)) (omega arith)

or_reached : {A B : Type 0} (second : Reader B) (bytes : List ℕ) (s : Reach) (r : Answer A) → reached s (or_else (second s.at (drop s.at bytes)) r) ≡ or_next (reached s r) (λ far. reached (reach s.at far) (second s.at (drop s.at bytes)))
or_reached second bytes s (Found a size n) = refl
or_reached second bytes s (Fails n) = failed_reached s n (second s.at (drop s.at bytes))
or_reached second bytes s (Deep at n) = refl

pub reading_or : {A B : Type 0} (first : Reader A) (second : Reader B) (bytes : List ℕ) (s : Reach) → reading (or_at first second) bytes s ≡ or_next (reading first bytes s) (λ far. reading second bytes (reach s.at far))
unfolding reading
reading_or first second bytes s = or_reached second bytes s (first s.at (drop s.at bytes))

-- ---- any number

abbrev pub one_and : {A : Type 0} → Reach → Result (A × Reach) Stop → (Reach → Result (List A × Reach) Stop) → Result (List A × Reach) Stop
one_and s (Ok x) others = in_form (λ xs. x.0 ∷ xs) (others x.1)
one_and s (Err (stop.Fails far)) others = Ok ([], reach s.at far)
one_and s (Err (stop.Deep at far)) others = Err (stop.Deep at far)
one_and s (Err stop.Memory) others = Err stop.Memory

cons_reached : {A : Type 0} (s : Reach) (a : A) (size n : ℕ) (r : Answer (List A)) → reached s (cons_at a size n r) ≡ in_form (λ xs. a ∷ xs) (reached (reach (s.at + size) (later s.far (s.at + n))) r)
cons_reached s a size n (Found xs more m) = ap (λ k. Ok (a ∷ xs, reach k (later s.far (s.at + later n (size + m))))) (omega arith) ∙ ap (λ k. Ok (a ∷ xs, reach ((s.at + size) + more) k)) (later_moved s.at size s.far n m)
cons_reached s a size n (Fails m) = ap (λ k. Err (stop.Fails k)) (later_moved s.at size s.far n m)
cons_reached s a size n (Deep at m) = ap (λ k. Err (stop.Deep k (later s.far (s.at + later n (size + m))))) (omega arith) ∙ ap (λ k. Err (stop.Deep ((s.at + size) + at) k)) (later_moved s.at size s.far n m)

one_reached : {A : Type 0} (others : Reader (List A)) (bytes : List ℕ) (s : Reach) (r : Answer A) → reached s (one_more others s.at (drop s.at bytes) r) ≡ one_and s (reached s r) (λ q. reached q (others q.at (drop q.at bytes)))
one_reached others bytes s (Found a size n) =
    cons_reached s a size n (others (s.at + size) (drop size (drop s.at bytes)))
    ∙ ap (λ l. in_form (λ xs. a ∷ xs) (reached (reach (s.at + size) (later s.far (s.at + n))) (others (s.at + size) l))) (drop-drop size s.at bytes)
one_reached others bytes s (Fails n) = ap (λ k. Ok ([], reach k (later s.far (s.at + n)))) (omega arith)
one_reached others bytes s (Deep at n) = refl

pub reading_one : {A : Type 0} (read : Reader A) (k : ℕ) (bytes : List ℕ) (s : Reach) → reading (up_to read (suc k)) bytes s ≡ one_and s (reading read bytes s) (λ q. reading (up_to read k) bytes q)
unfolding reading
reading_one read k bytes s = one_reached (up_to read k) bytes s (read s.at (drop s.at bytes))

-- Where what is read is of one byte or more, as many are read as there are.
module _ {A : Type 0} (read : Reader A) (takes : (place : ℕ) (bs : List ℕ) (a : A) (size n : ℕ) → read place bs ≡ Found a size n → (0 < size) × (size ≤ length bs)) where
  left : (bs : List ℕ) (size k : ℕ) → length bs < suc k → (0 < size) × (size ≤ length bs) → length (drop size bs) < k
  left bs size k h t = omega (arith, h, t.0, t.1, length-drop size bs)

  enough : (k m place : ℕ) (bs : List ℕ) → length bs < k → length bs < m → up_to read k place bs ≡ up_to read m place bs
  enough zero m place bs h g = absurd (omega (arith, h))
  enough (suc k) zero place bs h g = absurd (omega (arith, g))
  enough (suc k) (suc m) place bs h g = by (read place bs) refl (λ p l x y. enough k m p l x y)
    where
      by : (r : Answer A) → read place bs ≡ r → ((p : ℕ) (l : List ℕ) → length l < k → length l < m → up_to read k p l ≡ up_to read m p l) → one_more (up_to read k) place bs r ≡ one_more (up_to read m) place bs r
      by (Found a size n) e alike = ap (λ r. cons_at a size n r) (alike (place + size) (drop size bs) (left bs size k h (takes place bs a size n e)) (left bs size m g (takes place bs a size n e)))
      by (Fails n) e alike = refl
      by (Deep at n) e alike = refl

  pub reading_many : (bytes : List ℕ) (s : Reach) → reading (many_at read) bytes s ≡ one_and s (reading read bytes s) (λ q. reading (many_at read) bytes q)
  unfolding reading
  reading_many bytes s =
      one_reached (up_to read (length (drop s.at bytes))) bytes s (read s.at (drop s.at bytes)) ∙ by (read s.at (drop s.at bytes)) refl
    where
      by : (r : Answer A) → read s.at (drop s.at bytes) ≡ r
          → one_and s (reached s r) (λ q. reached q (up_to read (length (drop s.at bytes)) q.at (drop q.at bytes))) ≡ one_and s (reached s r) (λ q. reached q (many_at read q.at (drop q.at bytes)))
      by (Found a size n) e =
          ap (λ k. in_form (λ xs. a ∷ xs) (reached (reach (s.at + size) (later s.far (s.at + n))) k))
          (enough (length (drop s.at bytes)) (suc (length (drop (s.at + size) bytes))) (s.at + size) (drop (s.at + size) bytes)
          (subst (λ l. length l < length (drop s.at bytes)) (drop-drop size s.at bytes) (left (drop s.at bytes) size (length (drop s.at bytes)) (omega arith) (takes s.at (drop s.at bytes) a size n e)))
          (omega arith))
      by (Fails n) e = refl
      by (Deep at n) e = refl
