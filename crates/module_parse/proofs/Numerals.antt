-- Digits, with `-` before them or without.
use Rattle.std.proofs.Common.{◌≡◌, ◌==◌, if◌then◌else◌, ◌⊎◌, inl, inr, ℕ, zero, suc, ◌+◌, ◌-◌, ◌<◌, ◌≤◌, Bool, true, false, List, [], ◌∷◌, length, take, drop, get_or, codes, Result, Ok, Err, refl, sym, ap, ◌∙◌, arith, drop-cons, drop_of_length-le, eqb-true}
use Rattle.base_texts.specs.Digits.{is_digit}
use Rattle.module_grammar.specs.declared.reach.Reach.{Reach}
use Rattle.module_grammar.specs.declared.reach.Stop.{Stop}
use Rattle.module_grammar.specs.declared.reach.Stop.TheVariants as stop
use Rattle.module_grammar.specs.Reading.{Found, Fails, Reader, later, byte_at, word_at, then_at, or_at, many_at, behind_at}
use Rattle.module_grammar.specs.Reached.{reach, reached, reading, Passes, IsFinal}
use Rattle.module_grammar.proofs.Stepping.{in_form, reading_as, and_then, reading_then}
use Rattle.module_grammar.proofs.Giving.{gives_as, gives_then, gives_first, gives_second, gives_behind, stops_behind, sinks_first}
use Rattle.module_grammar.specs.NameReading.{numeral_at, digits_of, signed_at, signed}
use Rattle.module_parse.specs.Spans.{between, Spans, GivesSpan, digits_at}
use Rattle.module_parse.proofs.Spanning.{byte_here, no_byte_here, no_byte_left}

pub between_first : (bytes : List ℕ) (start end : ℕ) → start < length bytes → start + 1 ≤ end → between bytes start end ≡ get_or bytes start 0 ∷ between bytes (start + 1) end
between_first bytes start end lt le =
    let size : end - start ≡ suc (end - (start + 1)) = omega (arith, le) in
    let next : suc start ≡ start + 1 = omega arith in
    ap (λ l. take (end - start) l) (drop-cons bytes start 0 lt)
    ∙ ap (λ k. take k (get_or bytes start 0 ∷ drop (suc start) bytes)) size
    ∙ ap (λ k. get_or bytes start 0 ∷ take (end - (start + 1)) (drop k bytes)) next

abbrev digits_behind : ℕ → Reader (List ℕ)
digits_behind b = many_at (byte_at is_digit)

abbrev found_numeral : List ℕ → Reach → Result (List ℕ × Reach) Stop
found_numeral digits to = Ok (digits, to)

pub numeral_read : (bytes : List ℕ) (s to : Reach) (n : ℕ) → s.at < length bytes → is_digit (get_or bytes s.at 0) ≡ true → n ≡ later s.far (s.at + 1) → s.at + 1 ≤ to.at → Spans digits_at bytes (reach (s.at + 1) n) to → Spans numeral_at bytes s to
numeral_read bytes s to n lt d e le h =
    gives_as digits_of (then_at (byte_at is_digit) digits_behind) bytes s (Ok ((get_or bytes s.at 0, between bytes (s.at + 1) to.at), to))
    (gives_then (byte_at is_digit) digits_behind bytes s (reach (s.at + 1) n) (get_or bytes s.at 0) (Ok (between bytes (s.at + 1) to.at, to))
    (byte_here is_digit bytes s.at s.far lt d ∙ ap (λ k. Ok (get_or bytes s.at 0, reach (s.at + 1) k)) (sym e)) h)
    ∙ ap (λ l. found_numeral l to) (sym (between_first bytes s.at to.at lt le))

abbrev failed : ℕ → Result (List ℕ × Reach) Stop
failed far = Err (stop.Fails far)

no_numeral : (bytes : List ℕ) (s : Reach) (n : ℕ) → n ≡ later s.far s.at → reading (byte_at is_digit) bytes s ≡ Err (stop.Fails (later s.far (s.at + 0))) → reading numeral_at bytes s ≡ Err (stop.Fails n)
no_numeral bytes s n e h =
    reading_as digits_of (then_at (byte_at is_digit) digits_behind) bytes s
    ∙ ap (λ r. in_form (digits_of s.at) r) (reading_then (byte_at is_digit) digits_behind bytes s ∙ ap (λ r. and_then r (λ b q. reading (digits_behind b) bytes q)) h)
    ∙ ap failed (omega (arith, e))

pub no_numeral_here : (bytes : List ℕ) (s : Reach) (n : ℕ) → s.at < length bytes → is_digit (get_or bytes s.at 0) ≡ false → n ≡ later s.far s.at → reading numeral_at bytes s ≡ Err (stop.Fails n)
no_numeral_here bytes s n lt d e = no_numeral bytes s n e (no_byte_here is_digit bytes s.at s.far lt d)

pub no_numeral_left : (bytes : List ℕ) (s : Reach) (n : ℕ) → length bytes ≤ s.at → n ≡ later s.far s.at → reading numeral_at bytes s ≡ Err (stop.Fails n)
no_numeral_left bytes s n le e = no_numeral bytes s n e (no_byte_left is_digit bytes s.at s.far le)

-- ---- a word of one byte

pub record IsByte (w : ℕ) (bytes : List ℕ) (s q : Reach) : Type 0 where
  pub there : s.at < length bytes
  pub is : get_or bytes s.at 0 ≡ w
  pub next : q.at ≡ s.at + 1

no_reach : {A : Type 0} (e : Stop) (x : A × Reach) → Err e ≡ Ok x → ⊥
no_reach e x h = cc

abbrev found_at : Reach → Result (Unit {0} × Reach) Stop
found_at q = Ok (tt, q)

reach_of : Reach → Result (Unit {0} × Reach) Stop → Reach
reach_of other (Ok x) = x.1
reach_of other (Err e) = other

at_of : (p q : Reach) → found_at p ≡ found_at q → p ≡ q
unfolding reach_of
at_of p q h = ap (reach_of p) h

by_test : (w : ℕ) (bytes : List ℕ) (s q : Reach) → s.at < length bytes → (t : Bool) → (get_or bytes s.at 0 == w) ≡ t → reached s (if t then Found tt 1 1 else Fails 0) ≡ found_at q → IsByte w bytes s q
by_test w bytes s q lt true e h = record { there = lt; is = eqb-true (get_or bytes s.at 0) w e; next = sym (ap (λ (x : Reach). x.at) (at_of (reach (s.at + 1) (later s.far (s.at + 1))) q h)) }
by_test w bytes s q lt false e h = absurd (no_reach (stop.Fails (later s.far (s.at + 0))) (tt, q) h)

either : (m n : ℕ) → (m < n) ⊎ (n ≤ m)
either m zero = inr (omega arith)
either zero (suc n) = inl (omega arith)
either (suc m) (suc n) = elim (either m n) [ inl lt ↦ inl (omega (arith, lt)) | inr ge ↦ inr (omega (arith, ge)) ]

pub word_byte : (w : ℕ) (bytes : List ℕ) (s q : Reach) → reading (word_at (w ∷ [])) bytes s ≡ Ok (tt, q) → IsByte w bytes s q
unfolding reading
word_byte w bytes s q h = elim (either s.at (length bytes)) [
  | inl lt ↦ by_test w bytes s q lt (get_or bytes s.at 0 == w) refl (sym (ap (λ l. reached s (word_at (w ∷ []) s.at l)) (drop-cons bytes s.at 0 lt)) ∙ h)
  | inr ge ↦ absurd (no_reach (stop.Fails (later s.far (s.at + 0))) (tt, q) (sym (ap (λ l. reached s (word_at (w ∷ []) s.at l)) (drop_of_length-le bytes ge)) ∙ h))
]

-- ---- with `-` before them

abbrev pub minus : List ℕ
minus = codes "-"

no_digit : (b : ℕ) → b ≡ 45 → is_digit b ≡ false
no_digit b e = ap is_digit e

pub signed_negative : (bytes : List ℕ) (s q to : Reach) → reading (word_at minus) bytes s ≡ Ok (tt, q) → Spans numeral_at bytes q to → q.at ≤ to.at → Spans signed_at bytes s to
signed_negative bytes s q to h g le =
    let w : IsByte 45 bytes s q = word_byte 45 bytes s q h in
    gives_as signed (or_at (behind_at minus numeral_at) numeral_at) bytes s (Ok (inl (between bytes q.at to.at), to))
    (gives_first (behind_at minus numeral_at) numeral_at bytes s to (between bytes q.at to.at) (gives_behind minus numeral_at bytes s q (Ok (between bytes q.at to.at, to)) h g))
    ∙ ap (λ l. found_numeral l to)
    (ap (λ k. 45 ∷ between bytes k to.at) w.next ∙ ap (λ b. b ∷ between bytes (s.at + 1) to.at) (sym w.is) ∙ sym (between_first bytes s.at to.at w.there (omega (arith, le, w.next))))

signed_other : (bytes : List ℕ) (s to : Reach) (far : ℕ) → reading (behind_at minus numeral_at) bytes s ≡ Err (stop.Fails far) → Spans numeral_at bytes (reach s.at far) to → Spans signed_at bytes s to
signed_other bytes s to far h g =
    gives_as signed (or_at (behind_at minus numeral_at) numeral_at) bytes s (Ok (inr (between bytes s.at to.at), to))
    (gives_second (behind_at minus numeral_at) numeral_at bytes s far (Ok (between bytes s.at to.at, to)) h g)

signed_none : (bytes : List ℕ) (s : Reach) (far n : ℕ) → reading (behind_at minus numeral_at) bytes s ≡ Err (stop.Fails far) → reading numeral_at bytes (reach s.at far) ≡ Err (stop.Fails n) → reading signed_at bytes s ≡ Err (stop.Fails n)
signed_none bytes s far n h g =
    gives_as signed (or_at (behind_at minus numeral_at) numeral_at) bytes s (Err (stop.Fails n))
    (gives_second (behind_at minus numeral_at) numeral_at bytes s far (Err (stop.Fails n)) h g)

-- behind no `-`, or where no digit is behind it
abbrev pub NoMinus : List ℕ → Reach → ℕ → Type 0
NoMinus bytes s far = reading (behind_at minus numeral_at) bytes s ≡ Err (stop.Fails far)

pub no_minus : (bytes : List ℕ) (s : Reach) (far : ℕ) → reading (word_at minus) bytes s ≡ Err (stop.Fails far) → NoMinus bytes s far
no_minus bytes s far h = stops_behind minus numeral_at bytes s (stop.Fails far) h

pub no_digit_behind : (bytes : List ℕ) (s q : Reach) (far : ℕ) → reading (word_at minus) bytes s ≡ Ok (tt, q) → reading numeral_at bytes q ≡ Err (stop.Fails far) → NoMinus bytes s far
no_digit_behind bytes s q far h g = gives_behind minus numeral_at bytes s q (Err (stop.Fails far)) h g

-- what is read where there is no `-`
pub signed_as_numeral : (bytes : List ℕ) (s : Reach) (far : ℕ) (result : Result Reach Stop) → NoMinus bytes s far → GivesSpan numeral_at bytes (reach s.at far) result → GivesSpan signed_at bytes s result
signed_as_numeral bytes s far (Ok to) h g = signed_other bytes s to far h g
signed_as_numeral bytes s far (Err (stop.Fails n)) h g = signed_none bytes s far n h g
signed_as_numeral bytes s far (Err (stop.Deep at n)) h g =
    gives_as signed (or_at (behind_at minus numeral_at) numeral_at) bytes s (Err (stop.Deep at n))
    (gives_second (behind_at minus numeral_at) numeral_at bytes s far (Err (stop.Deep at n)) h g)
signed_as_numeral bytes s far (Err stop.Memory) h g = tt

-- where there is nothing else to try
pub stops_signed : (bytes : List ℕ) (s : Reach) (e : Stop) → IsFinal e → Passes (Err e) (reading (word_at minus) bytes s) → GivesSpan signed_at bytes s (Err e)
stops_signed bytes s (stop.Fails far) f h = absurd f
stops_signed bytes s (stop.Deep at far) f h =
    gives_as signed (or_at (behind_at minus numeral_at) numeral_at) bytes s (Err (stop.Deep at far))
    (sinks_first (behind_at minus numeral_at) numeral_at bytes s at far (stops_behind minus numeral_at bytes s (stop.Deep at far) h))
stops_signed bytes s stop.Memory f h = tt

pub stops_numeral : (bytes : List ℕ) (s q : Reach) (e : Stop) → IsFinal e → reading (word_at minus) bytes s ≡ Ok (tt, q) → GivesSpan numeral_at bytes q (Err e) → GivesSpan signed_at bytes s (Err e)
stops_numeral bytes s q (stop.Fails far) f h g = absurd f
stops_numeral bytes s q (stop.Deep at far) f h g =
    gives_as signed (or_at (behind_at minus numeral_at) numeral_at) bytes s (Err (stop.Deep at far))
    (sinks_first (behind_at minus numeral_at) numeral_at bytes s at far (gives_behind minus numeral_at bytes s q (Err (stop.Deep at far)) h g))
stops_numeral bytes s q stop.Memory f h g = tt
