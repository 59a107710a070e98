-- What is read of readers put together, a step at a time.
use Rattle.std.proofs.Common.{◌≡◌, ℕ, zero, suc, ◌+◌, ◌-◌, ◌<◌, ◌≤◌, ◌⊎◌, inl, inr, Bool, Option, Some, None, List, [], ◌∷◌, ◌++◌, length, get_or, drop, Result, Ok, Err, refl, sym, ap, subst, ◌∙◌, arith, append_assoc, append-nil, length-drop}
use Rattle.module_grammar.specs.declared.reach.Reach.{Reach}
use Rattle.module_grammar.specs.declared.reach.Stop.{Stop}
use Rattle.module_grammar.specs.declared.reach.Stop.TheVariants as stop
use Rattle.module_grammar.specs.Reading.{Answer, Found, Fails, Deep, Reader, later, word_at, byte_at, nothing_at, then_at, or_at, many_at, up_to, as_at, behind_at, before_at, sunk, sunk_at}
use Rattle.module_grammar.specs.Reached.{reach, reached, reading, Gives, Passes, IsFinal}
use Rattle.module_grammar.proofs.Stepping.{in_form, reading_as, one_and, reading_one}
use Rattle.module_grammar.proofs.Giving.{gives_as, gives_then, stops_then, gives_first, gives_second, sinks_first, gives_behind, stops_behind, gives_before, stops_at_word, stops_before}
use Rattle.module_grammar.specs.BoundReading.{some_of, option_at}
use Rattle.module_parse.specs.Reads.{IsRead, IsReadAs, IsStopped, Reads, ReadsWord, IsAgain, IsNothing, optional_of}

-- for want of memory
pub no_memory : {A : Type 0} {read : Reader A} {bytes : List ℕ} {s : Reach} → IsStopped read bytes s stop.Memory
no_memory = record { is = tt }

-- ---- another form

pub as_read : {A B : Type 0} (to : ℕ → A → B) {read : Reader A} {bytes : List ℕ} {s q : Reach} {a : A} → IsRead read bytes s a q → IsRead (as_at to read) bytes s (to s.at a) q
as_read to {read} {bytes} {s} {q} {a} h = record { is = gives_as to read bytes s (Ok (a, q)) h.is }

pub as_stops : {A B : Type 0} (to : ℕ → A → B) {read : Reader A} {bytes : List ℕ} {s : Reach} {e : Stop} → IsStopped read bytes s e → IsStopped (as_at to read) bytes s e
as_stops to {read} {bytes} {s} {e} h = record { is = gives_as to read bytes s (Err e) h.is }

abbrev found : {A : Type 0} → A → Reach → Result (A × Reach) Stop
found a q = Ok (a, q)

abbrev failed : {A : Type 0} → Stop → Result (A × Reach) Stop
failed e = Err e

value_in : {A : Type 0} → A → Result (A × Reach) Stop → A
value_in other (Ok x) = x.0
value_in other (Err e) = other

place_in : {A : Type 0} → Reach → Result (A × Reach) Stop → Reach
place_in other (Ok x) = x.1
place_in other (Err e) = other

pub same_value : {A : Type 0} (a b : A) (p q : Reach) → found a p ≡ found b q → a ≡ b
unfolding value_in
same_value a b p q h = ap (λ r. value_in a r) h

pub same_place : {A : Type 0} (a b : A) (p q : Reach) → found a p ≡ found b q → p ≡ q
unfolding place_in
same_place a b p q h = ap (λ r. place_in p r) h

pub no_value : {A : Type 0} (e : Stop) (a : A) (q : Reach) → failed e ≡ found a q → ⊥
no_value e a q h = cc

pub same_stop : {A : Type 0} (d e : Stop) → failed {A = A} d ≡ failed e → d ≡ e
same_stop d e h = cc

-- what is read in another form, taken back
pub as_back : {A B : Type 0} (to : ℕ → A → B) (read : Reader A) (bytes : List ℕ) (s q : Reach) (b : B) → IsRead (as_at to read) bytes s b q → IsReadAs (to s.at) read bytes s b q
as_back {A} {B} to read bytes s q b h = by (reading read bytes s) refl (sym (reading_as to read bytes s) ∙ h.is)
  where
    by : (r : Result (A × Reach) Stop) → reading read bytes s ≡ r → in_form (to s.at) r ≡ Ok (b, q) → IsReadAs (to s.at) read bytes s b q
    by (Ok x) e g = record {
      value = x.0;
      read = record { is = e ∙ ap (λ p. Ok (x.0, p)) (same_place (to s.at x.0) b x.1 q g) };
      same = same_value (to s.at x.0) b x.1 q g;
    }
    by (Err d) e g = absurd (no_value d b q g)

back_so : {A B : Type 0} (to : ℕ → A → B) (read : Reader A) (bytes : List ℕ) (s : Reach) (e : Stop) → reading (as_at to read) bytes s ≡ Err e → reading read bytes s ≡ Err e
back_so {A} {B} to read bytes s e h = by (reading read bytes s) refl (sym (reading_as to read bytes s) ∙ h)
  where
    by : (r : Result (A × Reach) Stop) → reading read bytes s ≡ r → in_form (to s.at) r ≡ Err e → reading read bytes s ≡ Err e
    by (Ok x) f g = absurd (no_value e (to s.at x.0) x.1 (sym g))
    by (Err d) f g = f ∙ ap (λ k. Err k) (same_stop {A = B} d e g)

pub stops_back : {A B : Type 0} (to : ℕ → A → B) (read : Reader A) (bytes : List ℕ) (s : Reach) (e : Stop) → IsStopped (as_at to read) bytes s e → IsStopped read bytes s e
stops_back to read bytes s (stop.Fails far) h = record { is = back_so to read bytes s (stop.Fails far) h.is }
stops_back to read bytes s (stop.Deep at far) h = record { is = back_so to read bytes s (stop.Deep at far) h.is }
stops_back to read bytes s stop.Memory h = no_memory

-- ---- one after the other

pub then_read : {A B : Type 0} (next : A → Reader B) {first : Reader A} {bytes : List ℕ} {s q t : Reach} {a : A} {b : B} → IsRead first bytes s a q → IsRead (next a) bytes q b t → IsRead (then_at first next) bytes s (a, b) t
then_read next {first} {bytes} {s} {q} {t} {a} {b} h g = record { is = gives_then first next bytes s q a (Ok (b, t)) h.is g.is }

pub then_stops : {A B : Type 0} (next : A → Reader B) {first : Reader A} {bytes : List ℕ} {s : Reach} {e : Stop} → IsStopped first bytes s e → IsStopped (then_at first next) bytes s e
then_stops next {first} {bytes} {s} {e} h = record { is = stops_then first next bytes s e h.is }

pub then_next_stops : {A B : Type 0} (next : A → Reader B) {first : Reader A} {bytes : List ℕ} {s q : Reach} {a : A} {e : Stop} → IsRead first bytes s a q → IsStopped (next a) bytes q e → IsStopped (then_at first next) bytes s e
then_next_stops next {first} {bytes} {s} {q} {a} {e} h g = record { is = gives_then first next bytes s q a (Err e) h.is g.is }

-- ---- behind a word

passes : (word : List ℕ) (bytes : List ℕ) (s : Reach) (e : Stop) → IsStopped (word_at word) bytes s e → Passes (Err e) (reading (word_at word) bytes s)
passes word bytes s (stop.Fails far) h = h.is
passes word bytes s (stop.Deep at far) h = h.is
passes word bytes s stop.Memory h = tt

pub behind_read : {A : Type 0} (word : List ℕ) {read : Reader A} {bytes : List ℕ} {s q t : Reach} {a : A} → IsRead (word_at word) bytes s tt q → IsRead read bytes q a t → IsRead (behind_at word read) bytes s a t
behind_read word {read} {bytes} {s} {q} {t} {a} h g = record { is = gives_behind word read bytes s q (Ok (a, t)) h.is g.is }

pub behind_stops : {A : Type 0} (word : List ℕ) (read : Reader A) {bytes : List ℕ} {s : Reach} {e : Stop} → IsStopped (word_at word) bytes s e → IsStopped (behind_at word read) bytes s e
behind_stops word read {bytes} {s} {e} h = record { is = stops_behind word read bytes s e (passes word bytes s e h) }

pub behind_next_stops : {A : Type 0} (word : List ℕ) {read : Reader A} {bytes : List ℕ} {s q : Reach} {e : Stop} → IsRead (word_at word) bytes s tt q → IsStopped read bytes q e → IsStopped (behind_at word read) bytes s e
behind_next_stops word {read} {bytes} {s} {q} {e} h g = record { is = gives_behind word read bytes s q (Err e) h.is g.is }

pub behind_reads : {A : Type 0} (word : List ℕ) (read : Reader A) (bytes : List ℕ) (s q : Reach) (r : Result (A × Reach) Stop) → IsRead (word_at word) bytes s tt q → Reads read bytes q r → Reads (behind_at word read) bytes s r
behind_reads word read bytes s q (Ok x) h g = behind_read word h g
behind_reads word read bytes s q (Err e) h g = behind_next_stops word h g

-- ---- before a word

pub before_read : {A : Type 0} (word : List ℕ) {read : Reader A} {bytes : List ℕ} {s q t : Reach} {a : A} → IsRead read bytes s a q → IsRead (word_at word) bytes q tt t → IsRead (before_at read word) bytes s a t
before_read word {read} {bytes} {s} {q} {t} {a} h g = record { is = gives_before read word bytes s q t a h.is g.is }

pub before_stops : {A : Type 0} (word : List ℕ) {read : Reader A} {bytes : List ℕ} {s : Reach} {e : Stop} → IsStopped read bytes s e → IsStopped (before_at read word) bytes s e
before_stops word {read} {bytes} {s} {e} h = record { is = stops_before read word bytes s e h.is }

pub before_word_stops : {A : Type 0} (word : List ℕ) {read : Reader A} {bytes : List ℕ} {s q : Reach} {a : A} {e : Stop} → IsRead read bytes s a q → IsStopped (word_at word) bytes q e → IsStopped (before_at read word) bytes s e
before_word_stops word {read} {bytes} {s} {q} {a} {e} h g = record { is = stops_at_word read word bytes s q a e h.is (passes word bytes q e g) }

-- ---- one or the other

pub or_first : {A B : Type 0} {first : Reader A} (second : Reader B) {bytes : List ℕ} {s q : Reach} {a : A} → IsRead first bytes s a q → IsRead (or_at first second) bytes s (inl a) q
or_first {A} {B} {first} second {bytes} {s} {q} {a} h = record { is = gives_first first second bytes s q a h.is }

failed_so : {A : Type 0} (read : Reader A) (bytes : List ℕ) (s q : Reach) (e : Stop) → IsStopped read bytes s e → IsAgain s e q → reading read bytes s ≡ Err (stop.Fails q.far)
failed_so read bytes s q e h a = (subst (λ k. IsStopped read bytes s k) a.failed h).is

pub or_second : {A B : Type 0} {first : Reader A} {second : Reader B} {bytes : List ℕ} {s q t : Reach} {e : Stop} {b : B} → IsStopped first bytes s e → IsAgain s e q → IsRead second bytes q b t → IsRead (or_at first second) bytes s (inr b) t
or_second {A} {B} {first} {second} {bytes} {s} {q} {t} {e} {b} h a g = record { is = gives_second first second bytes s q.far (Ok (b, t)) (failed_so first bytes s q e h a) (subst (λ k. IsRead second bytes k b t) a.same g).is }

pub or_second_stops : {A B : Type 0} {first : Reader A} {second : Reader B} {bytes : List ℕ} {s q : Reach} {e d : Stop} → IsStopped first bytes s e → IsAgain s e q → IsStopped second bytes q d → IsStopped (or_at first second) bytes s d
or_second_stops {A} {B} {first} {second} {bytes} {s} {q} {e} {d} h a g = record { is = gives_second first second bytes s q.far (Err d) (failed_so first bytes s q e h a) (subst (λ k. IsStopped second bytes k d) a.same g).is }

or_final : {A B : Type 0} (first : Reader A) (second : Reader B) (bytes : List ℕ) (s : Reach) (e : Stop) → IsStopped first bytes s e → IsFinal e → IsStopped (or_at first second) bytes s e
or_final first second bytes s (stop.Fails far) h f = absurd f
or_final first second bytes s (stop.Deep at far) h f = record { is = sinks_first first second bytes s at far h.is }
or_final first second bytes s stop.Memory h f = no_memory

pub or_first_stops : {A B : Type 0} {first : Reader A} (second : Reader B) {bytes : List ℕ} {s : Reach} {e : Stop} → IsStopped first bytes s e → IsFinal e → IsStopped (or_at first second) bytes s e
or_first_stops {A} {B} {first} second {bytes} {s} {e} h f = or_final first second bytes s e h f

-- what stops it is told again
pub or_again : {A B : Type 0} {first : Reader A} (second : Reader B) {bytes : List ℕ} {s : Reach} {e d : Stop} → IsStopped first bytes s e → (d ≡ e) × IsFinal d → IsStopped (or_at first second) bytes s d
or_again {A} {B} {first} second {bytes} {s} {e} {d} h a = or_first_stops second (subst (λ k. IsStopped first bytes s k) (sym a.0) h) a.1

-- ---- nothing

reached_none : (x : Unit {0}) (s : Reach) → reached s (Found x 0 0) ≡ found x (reach s.at (later s.far s.at))
reached_none x s = let e : s.at + 0 ≡ s.at = omega arith in ap (λ (k : ℕ). found x (reach k (later s.far k))) e

nothing_here : (bytes : List ℕ) (s : Reach) → reading nothing_at bytes s ≡ found tt (reach s.at (later s.far s.at))
unfolding reading
nothing_here bytes s = reached_none tt s

pub nothing_read : (bytes : List ℕ) (s q : Reach) → IsNothing s q → IsRead nothing_at bytes s tt q
nothing_read bytes s q h = record { is = nothing_here bytes s ∙ ap (λ k. Ok (tt, k)) (sym h.same) }

pub optional_reads : {A : Type 0} (read : Reader A) (bytes : List ℕ) (s : Reach) (r : Result (A × Reach) Stop) → Reads read bytes s r → Reads (option_at read) bytes s (optional_of s r)
optional_reads read bytes s (Ok x) h = as_read some_of (or_first nothing_at h)
optional_reads read bytes s (Err (stop.Fails far)) h =
    as_read some_of (or_second h (record { failed = refl; same = refl; place = refl }) (nothing_read bytes (reach s.at far) (reach s.at (later far s.at)) (record { same = refl; place = refl })))
optional_reads read bytes s (Err (stop.Deep at far)) h = as_stops some_of (or_first_stops nothing_at h tt)
optional_reads read bytes s (Err stop.Memory) h = no_memory

-- ---- any number

form_twice : {A B C : Type 0} (f : B → C) (g : A → B) (h : A → C) (r : Result (A × Reach) Stop) → ((a : A) → f (g a) ≡ h a) → in_form f (in_form g r) ≡ in_form h r
form_twice f g h (Ok x) same = ap (λ k. Ok (k, x.1)) (same x.0)
form_twice f g h (Err e) same = refl

form_same : {A : Type 0} (f : A → A) (r : Result (A × Reach) Stop) → ((a : A) → f a ≡ a) → in_form f r ≡ r
form_same f (Ok x) same = ap (λ k. Ok (k, x.1)) (same x.0)
form_same f (Err e) same = refl

-- These are read, and reading goes on from here, with enough left to read.
pub record Going {A : Type 0} (read : Reader A) (bytes : List ℕ) (s : Reach) (xs : List A) (q : Reach) : Type 0 where
  pub most : ℕ
  pub enough : length bytes < q.at + most
  pub same : reading (many_at read) bytes s ≡ in_form (λ ys. xs ++ ys) (reading (up_to read most) bytes q)
  pub begun : s.at ≤ q.at
  pub left : q.at ≤ length bytes

many_up_to : {A : Type 0} (read : Reader A) (bytes : List ℕ) (s : Reach) → reading (many_at read) bytes s ≡ reading (up_to read (suc (length (drop s.at bytes)))) bytes s
unfolding reading
many_up_to read bytes s = refl

pub going_none : {A : Type 0} (read : Reader A) (bytes : List ℕ) (s : Reach) → s.at ≤ length bytes → Going read bytes s [] s
going_none read bytes s le = record {
  most = suc (length (drop s.at bytes));
  enough = omega (arith, length-drop s.at bytes, le);
  same = many_up_to read bytes s ∙ sym (form_same (λ ys. [] ++ ys) (reading (up_to read (suc (length (drop s.at bytes)))) bytes s) (λ ys. refl));
  begun = omega arith;
  left = le;
}

next_same : {A : Type 0} (read : Reader A) (bytes : List ℕ) (s q t : Reach) (xs : List A) (a : A) (k : ℕ) → reading (many_at read) bytes s ≡ in_form (λ ys. xs ++ ys) (reading (up_to read (suc k)) bytes q) → reading read bytes q ≡ Ok (a, t) → reading (many_at read) bytes s ≡ in_form (λ ys. (xs ++ a ∷ []) ++ ys) (reading (up_to read k) bytes t)
next_same read bytes s q t xs a k h g =
    h
    ∙ ap (λ r. in_form (λ ys. xs ++ ys) r) (reading_one read k bytes q ∙ ap (λ r. one_and q r (λ p. reading (up_to read k) bytes p)) g)
    ∙ form_twice (λ ys. xs ++ ys) (λ ys. a ∷ ys) (λ ys. (xs ++ a ∷ []) ++ ys) (reading (up_to read k) bytes t) (λ ys. sym (append_assoc xs (a ∷ []) ys))

going_on : {A : Type 0} (read : Reader A) (bytes : List ℕ) (s q t : Reach) (xs : List A) (a : A) (most : ℕ) → length bytes < q.at + most → reading (many_at read) bytes s ≡ in_form (λ ys. xs ++ ys) (reading (up_to read most) bytes q) → s.at ≤ q.at → IsRead read bytes q a t → q.at < t.at → t.at ≤ length bytes → Going read bytes s (xs ++ a ∷ []) t
going_on read bytes s q t xs a zero e h b g lt le = absurd (omega (arith, e, lt, le))
going_on read bytes s q t xs a (suc k) e h b g lt le = record {
  most = k;
  enough = omega (arith, e, lt);
  same = next_same read bytes s q t xs a k h g.is;
  begun = omega (arith, b, lt);
  left = le;
}

pub going_next : {A : Type 0} {read : Reader A} {bytes : List ℕ} {s q t : Reach} {xs : List A} {a : A} → Going read bytes s xs q → IsRead read bytes q a t → (q.at < t.at) × (t.at ≤ length bytes) → Going read bytes s (xs ++ a ∷ []) t
going_next {A} {read} {bytes} {s} {q} {t} {xs} {a} h g m = going_on read bytes s q t xs a h.most h.enough h.same h.begun g m.0 m.1

ended : {A : Type 0} (read : Reader A) (bytes : List ℕ) (s q t : Reach) (xs : List A) (most : ℕ) → length bytes < q.at + most → q.at ≤ length bytes → reading (many_at read) bytes s ≡ in_form (λ ys. xs ++ ys) (reading (up_to read most) bytes q) → reading read bytes q ≡ Err (stop.Fails t.far) → t ≡ reach q.at t.far → reading (many_at read) bytes s ≡ Ok (xs, t)
ended read bytes s q t xs zero e le h g w = absurd (omega (arith, e, le))
ended read bytes s q t xs (suc k) e le h g w =
    h
    ∙ ap (λ r. in_form (λ ys. xs ++ ys) r) (reading_one read k bytes q ∙ ap (λ r. one_and q r (λ p. reading (up_to read k) bytes p)) g)
    ∙ ap (λ l. Ok (l, reach q.at t.far)) (append-nil xs)
    ∙ ap (λ p. Ok (xs, p)) (sym w)

pub going_ends : {A : Type 0} {read : Reader A} {bytes : List ℕ} {s q t : Reach} {xs : List A} {e : Stop} → Going read bytes s xs q → IsStopped read bytes q e → IsAgain q e t → IsRead (many_at read) bytes s xs t
going_ends {A} {read} {bytes} {s} {q} {t} {xs} {e} h g a = record { is = ended read bytes s q t xs h.most h.enough h.left h.same (failed_so read bytes q t e g a) a.same }

sunk_many : {A : Type 0} (read : Reader A) (bytes : List ℕ) (s q : Reach) (xs : List A) (most at far : ℕ) → length bytes < q.at + most → q.at ≤ length bytes → reading (many_at read) bytes s ≡ in_form (λ ys. xs ++ ys) (reading (up_to read most) bytes q) → reading read bytes q ≡ Err (stop.Deep at far) → reading (many_at read) bytes s ≡ Err (stop.Deep at far)
sunk_many read bytes s q xs zero at far e le h g = absurd (omega (arith, e, le))
sunk_many read bytes s q xs (suc k) at far e le h g =
    h ∙ ap (λ r. in_form (λ ys. xs ++ ys) r) (reading_one read k bytes q ∙ ap (λ r. one_and q r (λ p. reading (up_to read k) bytes p)) g)

many_final : {A : Type 0} (read : Reader A) (bytes : List ℕ) (s q : Reach) (xs : List A) (e : Stop) → Going read bytes s xs q → IsStopped read bytes q e → IsFinal e → IsStopped (many_at read) bytes s e
many_final read bytes s q xs (stop.Fails far) h g f = absurd f
many_final read bytes s q xs (stop.Deep at far) h g f = record { is = sunk_many read bytes s q xs h.most at far h.enough h.left h.same g.is }
many_final read bytes s q xs stop.Memory h g f = no_memory

pub going_stops : {A : Type 0} {read : Reader A} {bytes : List ℕ} {s q : Reach} {xs : List A} {e : Stop} → Going read bytes s xs q → IsStopped read bytes q e → IsFinal e → IsStopped (many_at read) bytes s e
going_stops {A} {read} {bytes} {s} {q} {xs} {e} h g f = many_final read bytes s q xs e h g f

pub going_again : {A : Type 0} {read : Reader A} {bytes : List ℕ} {s q : Reach} {xs : List A} {e d : Stop} → Going read bytes s xs q → IsStopped read bytes q e → (d ≡ e) × IsFinal d → IsStopped (many_at read) bytes s d
going_again {A} {read} {bytes} {s} {q} {xs} {e} {d} h g a = going_stops h (subst (λ k. IsStopped read bytes q k) (sym a.0) g) a.1

-- ---- too deep

abbrev sink : {A B : Type 0} → Reach → Result (A × Reach) Stop → Result (B × Reach) Stop
sink s (Ok x) = Err (stop.Deep s.at x.1.far)
sink s (Err e) = Err e

sunk_reached : {A B : Type 0} (s : Reach) (r : Answer A) → reached {A = B} s (sunk r) ≡ sink s (reached s r)
sunk_reached s (Found a size n) = ap (λ k. Err (stop.Deep k (later s.far (s.at + n)))) (omega arith)
sunk_reached s (Fails n) = refl
sunk_reached s (Deep at n) = refl

reading_sunk : {A B : Type 0} (read : Reader A) (bytes : List ℕ) (s : Reach) → reading {A = B} (sunk_at read) bytes s ≡ sink s (reading read bytes s)
unfolding reading
reading_sunk read bytes s = sunk_reached s (read s.at (drop s.at bytes))

pub sunk_read : {A B : Type 0} {read : Reader A} {bytes : List ℕ} {s q : Reach} {a : A} → IsRead read bytes s a q → IsStopped {A = B} (sunk_at read) bytes s (stop.Deep s.at q.far)
sunk_read {A} {B} {read} {bytes} {s} {q} {a} h = record { is = reading_sunk {A = A} {B = B} read bytes s ∙ ap (λ r. sink s r) h.is }

sunk_again : {A B : Type 0} (read : Reader A) (bytes : List ℕ) (s : Reach) (e : Stop) → IsStopped read bytes s e → IsStopped {A = B} (sunk_at read) bytes s e
sunk_again {A} {B} read bytes s (stop.Fails far) h = record { is = reading_sunk {A = A} {B = B} read bytes s ∙ ap (λ r. sink s r) h.is }
sunk_again {A} {B} read bytes s (stop.Deep at far) h = record { is = reading_sunk {A = A} {B = B} read bytes s ∙ ap (λ r. sink s r) h.is }
sunk_again read bytes s stop.Memory h = no_memory

pub sunk_stops : {A B : Type 0} {read : Reader A} {bytes : List ℕ} {s : Reach} {e : Stop} → IsStopped read bytes s e → IsStopped {A = B} (sunk_at read) bytes s e
sunk_stops {A} {B} {read} {bytes} {s} {e} h = sunk_again {A = A} {B = B} read bytes s e h
