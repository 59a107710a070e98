-- What is read of all bytes, and what the grammar says of them.
use mathlib.Core.Logic.{inl, inr}
use Rattle.std.proofs.Common.{◌≡◌, ◌==◌, if◌then◌else◌, ℕ, ◌+◌, Bool, true, false, List, length, Result, Ok, Err, refl, sym, ap, ◌∙◌, arith}
use Rattle.std.proofs.lemmas.Bool.Decides.{eqb_tells}
use Rattle.module_grammar.specs.declared.reach.Reach.{Reach}
use Rattle.module_grammar.specs.declared.reach.Stop.{Stop}
use Rattle.module_grammar.specs.declared.reach.Stop.TheVariants as stop
use Rattle.module_grammar.specs.Reading.{Answer, Found, Fails, Deep, later}
use Rattle.module_grammar.specs.Reached.{reach, reached, reading}
use Rattle.module_grammar.specs.Verdicts.{Verdict, Read, Syntax, TooDeep, judged}
use Rattle.module_text.specs.declared.modules.PlainAssignment.{PlainAssignment}
use Rattle.module_text.specs.Plain.{limit}
use Rattle.module_text.specs.Grammar.{IsTextOf, IsBroken, Sinks}
use Rattle.module_grammar.specs.ModuleReading.{module_at}
use Rattle.module_grammar.specs.TextsRead.{TextsRead}
use Rattle.module_grammar.proofs.Linking.{all_texts_read}
use Rattle.module_parse.specs.Reads.{IsRead, IsStopped}

abbrev start : Reach
start = reach 0 0

abbrev Answered : Type 0
Answered = Result (List PlainAssignment × Reach) Stop

abbrev found : List PlainAssignment → Reach → Answered
found xs q = Ok (xs, q)

abbrev failed : Stop → Answered
failed e = Err e

value_of : List PlainAssignment → Answered → List PlainAssignment
value_of other (Ok x) = x.0
value_of other (Err e) = other

place_of : Reach → Answered → Reach
place_of other (Ok x) = x.1
place_of other (Err e) = other

same_value : (xs ys : List PlainAssignment) (p q : Reach) → found xs p ≡ found ys q → xs ≡ ys
unfolding value_of
same_value xs ys p q h = ap (value_of xs) h

same_place : (xs ys : List PlainAssignment) (p q : Reach) → found xs p ≡ found ys q → p ≡ q
unfolding place_of
same_place xs ys p q h = ap (place_of p) h

far_of : ℕ → Answered → ℕ
far_of other (Err (stop.Fails far)) = far
far_of other (Err (stop.Deep at far)) = at
far_of other _ = other

same_far : (m n : ℕ) → failed (stop.Fails m) ≡ failed (stop.Fails n) → m ≡ n
unfolding far_of
same_far m n h = ap (far_of m) h

same_deep : (a b m n : ℕ) → failed (stop.Deep a m) ≡ failed (stop.Deep b n) → a ≡ b
unfolding far_of
same_deep a b m n h = ap (far_of a) h

no_find : (e : Stop) (xs : List PlainAssignment) (q : Reach) → failed e ≡ found xs q → ⊥
no_find e xs q h = cc

no_fail : (a b m : ℕ) → failed (stop.Deep a m) ≡ failed (stop.Fails b) → ⊥
no_fail a b m h = cc

tested : (xs : List PlainAssignment) (n : ℕ) (t u : Bool) → t ≡ u → (if t then Read xs else Syntax n) ≡ (if u then Read xs else Syntax n)
tested xs n t u e = ap (λ (k : Bool). if k then Read xs else Syntax n) e

same_test : (m n : ℕ) → m ≡ n → (m == n) ≡ true
same_test m n e = elim (eqb_tells m n) [ inl h ↦ h.0 | inr h ↦ absurd (h.1 e) ]

other_test : (m n : ℕ) → (m ≡ n → ⊥) → (m == n) ≡ false
other_test m n ne = elim (eqb_tells m n) [ inl h ↦ absurd (ne h.1) | inr h ↦ h.0 ]

read_whole : (len : ℕ) (r : Answer (List PlainAssignment)) (xs : List PlainAssignment) (q : Reach) → reached start r ≡ found xs q → q.at ≡ len → judged len r ≡ Read xs
read_whole len (Found ys size n) xs q h e =
    let p = same_place ys xs (reach (0 + size) (later 0 (0 + n))) q h in
    let size_is : size ≡ len = omega (arith, ap (λ (k : Reach). k.at) p, e) in
    tested ys n (size == len) true (same_test size len size_is) ∙ ap (λ l. Read l) (same_value ys xs (reach (0 + size) (later 0 (0 + n))) q h)
read_whole len (Fails n) xs q h e = absurd (no_find (stop.Fails (later 0 (0 + n))) xs q h)
read_whole len (Deep at n) xs q h e = absurd (no_find (stop.Deep (0 + at) (later 0 (0 + n))) xs q h)

read_front : (len : ℕ) (r : Answer (List PlainAssignment)) (xs : List PlainAssignment) (q : Reach) → reached start r ≡ found xs q → (q.at ≡ len → ⊥) → judged len r ≡ Syntax q.far
read_front len (Found ys size n) xs q h ne =
    let p = same_place ys xs (reach (0 + size) (later 0 (0 + n))) q h in
    let at_is : q.at ≡ size = omega (arith, ap (λ (k : Reach). k.at) p) in
    let far_is : n ≡ q.far = omega (arith, ap (λ (k : Reach). k.far) p) in
    tested ys n (size == len) false (other_test size len (λ e. ne (at_is ∙ e))) ∙ ap (λ k. Syntax k) far_is
read_front len (Fails n) xs q h ne = absurd (no_find (stop.Fails (later 0 (0 + n))) xs q h)
read_front len (Deep at n) xs q h ne = absurd (no_find (stop.Deep (0 + at) (later 0 (0 + n))) xs q h)

read_failed : (len : ℕ) (r : Answer (List PlainAssignment)) (far : ℕ) → reached start r ≡ failed (stop.Fails far) → judged len r ≡ Syntax far
read_failed len (Found ys size n) far h = absurd (no_find (stop.Fails far) ys (reach (0 + size) (later 0 (0 + n))) (sym h))
read_failed len (Fails n) far h = ap (λ k. Syntax k) (omega (arith, same_far (later 0 (0 + n)) far h))
read_failed len (Deep at n) far h = absurd (no_fail (0 + at) far (later 0 (0 + n)) h)

read_sunk : (len : ℕ) (r : Answer (List PlainAssignment)) (at far : ℕ) → reached start r ≡ failed (stop.Deep at far) → judged len r ≡ TooDeep at
read_sunk len (Found ys size n) at far h = absurd (no_find (stop.Deep at far) ys (reach (0 + size) (later 0 (0 + n))) (sym h))
read_sunk len (Fails n) at far h = absurd (no_fail at (later 0 (0 + n)) far (sym h))
read_sunk len (Deep a n) at far h = ap (λ k. TooDeep k) (omega (arith, same_deep (0 + a) at (later 0 (0 + n)) far h))

module _ (most : ℕ) (is_limit : most ≡ limit) where
  texts : TextsRead most
  texts = all_texts_read most is_limit

  pub is_module : (bytes : List ℕ) (xs : List PlainAssignment) (q : Reach) → IsRead (module_at most) bytes (reach 0 0) xs q → q.at ≡ length bytes → IsTextOf bytes xs
  unfolding reading
  is_module bytes xs q h e = (texts.texts bytes xs).0 (read_whole (length bytes) (module_at most 0 bytes) xs q h.is e)

  pub is_front : (bytes : List ℕ) (xs : List PlainAssignment) (q : Reach) → IsRead (module_at most) bytes (reach 0 0) xs q → (q.at ≡ length bytes → ⊥) → IsBroken bytes q.far
  unfolding reading
  is_front bytes xs q h ne = (texts.broken bytes q.far).0 (read_front (length bytes) (module_at most 0 bytes) xs q h.is ne)

  pub is_broken : (bytes : List ℕ) (far : ℕ) → IsStopped (module_at most) bytes (reach 0 0) (stop.Fails far) → IsBroken bytes far
  unfolding reading
  is_broken bytes far h = (texts.broken bytes far).0 (read_failed (length bytes) (module_at most 0 bytes) far h.is)

  pub is_sunk : (bytes : List ℕ) (at far : ℕ) → IsStopped (module_at most) bytes (reach 0 0) (stop.Deep at far) → Sinks bytes at
  unfolding reading
  is_sunk bytes at far h = (texts.deep bytes at).0 (read_sunk (length bytes) (module_at most 0 bytes) at far h.is)
