-- Bytes of a class, one after the other.
use Rattle.std.proofs.Common.{◌≡◌, if◌then◌else◌, ℕ, suc, ◌+◌, ◌-◌, ◌<◌, ◌≤◌, Bool, true, false, List, [], ◌∷◌, ◌++◌, length, take, drop, get_or, Result, Ok, Err, refl, sym, ap, ap₂, ◌∙◌, arith, append_assoc, append-nil, take-suc, get_or-drop, length-drop, drop-cons, drop_of_length-le}
use Rattle.module_grammar.specs.declared.reach.Reach.{Reach}
use Rattle.module_grammar.specs.declared.reach.Stop.{Stop}
use Rattle.module_grammar.specs.declared.reach.Stop.TheVariants as stop
use Rattle.module_grammar.specs.Reading.{Answer, Found, Fails, Deep, Reader, later, byte_at, many_at}
use Rattle.module_grammar.specs.Reached.{reach, reached, reading}
use Rattle.module_grammar.proofs.Stepping.{in_form, one_and, reading_many}
use Rattle.module_parse.specs.Spans.{between, Spans}

-- ---- one byte

pub byte_here : (p : ℕ → Bool) (bytes : List ℕ) (at n : ℕ) → at < length bytes → p (get_or bytes at 0) ≡ true → reading (byte_at p) bytes (reach at n) ≡ Ok (get_or bytes at 0, reach (at + 1) (later n (at + 1)))
unfolding reading
byte_here p bytes at n lt t =
    ap (λ l. reached (reach at n) (byte_at p at l)) (drop-cons bytes at 0 lt)
    ∙ ap (λ (k : Bool). reached (reach at n) (if k then Found (get_or bytes at 0) 1 1 else Fails 0)) t

abbrev pub stopped : {A : Type 0} → ℕ → ℕ → Result (A × Reach) Stop
stopped at n = Err (stop.Fails (later n (at + 0)))

pub no_byte_here : (p : ℕ → Bool) (bytes : List ℕ) (at n : ℕ) → at < length bytes → p (get_or bytes at 0) ≡ false → reading (byte_at p) bytes (reach at n) ≡ stopped at n
unfolding reading
no_byte_here p bytes at n lt t =
    ap (λ l. reached (reach at n) (byte_at p at l)) (drop-cons bytes at 0 lt)
    ∙ ap (λ (k : Bool). reached (reach at n) (if k then Found (get_or bytes at 0) 1 1 else Fails 0)) t

pub no_byte_left : (p : ℕ → Bool) (bytes : List ℕ) (at n : ℕ) → length bytes ≤ at → reading (byte_at p) bytes (reach at n) ≡ stopped at n
unfolding reading
no_byte_left p bytes at n le = ap (λ l. reached (reach at n) (byte_at p at l)) (drop_of_length-le bytes le)

byte_takes : (p : ℕ → Bool) (place : ℕ) (bs : List ℕ) (a size n : ℕ) → byte_at p place bs ≡ Found a size n → (0 < size) × (size ≤ length bs)
byte_takes p place [] a size n e = absurd (no e)
  where
    no : Fails 0 ≡ Found a size n → ⊥
    no e = cc
byte_takes p place (b ∷ bs) a size n e = by (p b) e
  where
    size_is : Found b 1 1 ≡ Found a size n → 1 ≡ size
    size_is e = cc

    no : Fails 0 ≡ Found a size n → ⊥
    no e = cc

    by : (k : Bool) → (if k then Found b 1 1 else Fails 0) ≡ Found a size n → (0 < size) × (size ≤ suc (length bs))
    by true e = (omega (arith, size_is e), omega (arith, size_is e))
    by false e = absurd (no e)

-- ---- another form

form_same : {A : Type 0} (f : A → A) (r : Result (A × Reach) Stop) → ((a : A) → f a ≡ a) → in_form f r ≡ r
form_same f (Ok x) same = ap (λ k. Ok (k, x.1)) (same x.0)
form_same f (Err e) same = refl

form_twice : {A B C : Type 0} (f : B → C) (g : A → B) (h : A → C) (r : Result (A × Reach) Stop) → ((a : A) → f (g a) ≡ h a) → in_form f (in_form g r) ≡ in_form h r
form_twice f g h (Ok x) same = ap (λ k. Ok (k, x.1)) (same x.0)
form_twice f g h (Err e) same = refl

-- a place that is reached counts for nothing
reached_further : {A : Type 0} (s : Reach) (r : Answer A) → reached s r ≡ reached (reach s.at (later s.far s.at)) r
reached_further s (Found a size n) = ap (λ k. Ok (a, reach (s.at + size) k)) (omega arith)
reached_further s (Fails n) = ap (λ k. Err (stop.Fails k)) (omega arith)
reached_further s (Deep at n) = ap (λ k. Err (stop.Deep (s.at + at) k)) (omega arith)

further : {A : Type 0} (read : Reader A) (bytes : List ℕ) (s : Reach) → reading read bytes s ≡ reading read bytes (reach s.at (later s.far s.at))
unfolding reading
further read bytes s = reached_further s (read s.at (drop s.at bytes))

between_none : (bytes : List ℕ) (start : ℕ) → between bytes start start ≡ []
between_none bytes start = let none : start - start ≡ 0 = omega arith in ap (λ k. take k (drop start bytes)) none

between_next : (bytes : List ℕ) (start end : ℕ) → start ≤ end → end < length bytes → between bytes start (end + 1) ≡ between bytes start end ++ get_or bytes end 0 ∷ []
between_next bytes start end le lt =
    let size : (end + 1) - start ≡ suc (end - start) = omega (arith, le) in
    let there : start + (end - start) ≡ end = omega (arith, le) in
    ap (λ k. take k (drop start bytes)) size
    ∙ take-suc (drop start bytes) (end - start) 0 (omega (arith, length-drop start bytes, le, lt))
    ∙ ap (λ b. between bytes start end ++ b ∷ []) (get_or-drop start bytes (end - start) 0 ∙ ap (λ k. get_or bytes k 0) there)

-- ---- as many as there are

pub record Spanned (p : ℕ → Bool) (bytes : List ℕ) (s : Reach) (at : ℕ) : Type 0 where
  pub same : reading (many_at (byte_at p)) bytes s ≡ in_form (λ xs. between bytes s.at at ++ xs) (reading (many_at (byte_at p)) bytes (reach at (later s.far at)))
  pub begun : s.at ≤ at
  pub left : at ≤ length bytes

pub spanned_none : (p : ℕ → Bool) (bytes : List ℕ) (s : Reach) → s.at ≤ length bytes → Spanned p bytes s s.at
spanned_none p bytes s le = record {
  same = further (many_at (byte_at p)) bytes s ∙ sym (form_same (λ xs. between bytes s.at s.at ++ xs) (reading (many_at (byte_at p)) bytes (reach s.at (later s.far s.at))) (λ xs. ap (λ l. l ++ xs) (between_none bytes s.at)));
  begun = omega arith;
  left = le;
}

pub spanned_next : (p : ℕ → Bool) (bytes : List ℕ) (s : Reach) (at : ℕ) → Spanned p bytes s at → at < length bytes → p (get_or bytes at 0) ≡ true → Spanned p bytes s (at + 1)
spanned_next p bytes s at h lt t =
    let n : ℕ = later s.far at in
    let one : ℕ → List ℕ → List ℕ = λ b xs. b ∷ xs in
    record {
      same = h.same
          ∙ ap (λ r. in_form (λ xs. between bytes s.at at ++ xs) r)
          (reading_many (byte_at p) (byte_takes p) bytes (reach at n)
          ∙ ap (λ r. one_and (reach at n) r (λ q. reading (many_at (byte_at p)) bytes q)) (byte_here p bytes at n lt t))
          ∙ form_twice (λ xs. between bytes s.at at ++ xs) (λ xs. get_or bytes at 0 ∷ xs) (λ xs. between bytes s.at (at + 1) ++ xs) (reading (many_at (byte_at p)) bytes (reach (at + 1) (later n (at + 1))))
          (λ xs. sym (append_assoc (between bytes s.at at) (get_or bytes at 0 ∷ []) xs) ∙ ap (λ l. l ++ xs) (sym (between_next bytes s.at at h.begun lt)))
          ∙ ap (λ k. in_form (λ xs. between bytes s.at (at + 1) ++ xs) (reading (many_at (byte_at p)) bytes (reach (at + 1) k))) (omega arith);
      begun = omega (arith, h.begun);
      left = omega (arith, lt);
    }

ended : (p : ℕ → Bool) (bytes : List ℕ) (s : Reach) (at n : ℕ) → Spanned p bytes s at → n ≡ later s.far at → reading (byte_at p) bytes (reach at (later s.far at)) ≡ stopped at (later s.far at) → Spans (many_at (byte_at p)) bytes s (reach at n)
ended p bytes s at n h e f =
    h.same
    ∙ ap (λ r. in_form (λ xs. between bytes s.at at ++ xs) r)
    (reading_many (byte_at p) (byte_takes p) bytes (reach at (later s.far at)) ∙ ap (λ r. one_and (reach at (later s.far at)) r (λ q. reading (many_at (byte_at p)) bytes q)) f)
    ∙ ap₂ (λ l k. Ok (l, reach at k)) (append-nil (between bytes s.at at)) (omega (arith, e))

pub spanned_all : (p : ℕ → Bool) (bytes : List ℕ) (s : Reach) (at n : ℕ) → Spanned p bytes s at → length bytes ≤ at → n ≡ later s.far at → Spans (many_at (byte_at p)) bytes s (reach at n)
spanned_all p bytes s at n h le e = ended p bytes s at n h e (no_byte_left p bytes at (later s.far at) le)

pub spanned_other : (p : ℕ → Bool) (bytes : List ℕ) (s : Reach) (at n : ℕ) → Spanned p bytes s at → at < length bytes → p (get_or bytes at 0) ≡ false → n ≡ later s.far at → Spans (many_at (byte_at p)) bytes s (reach at n)
spanned_other p bytes s at n h lt f e = ended p bytes s at n h e (no_byte_here p bytes at (later s.far at) lt f)
