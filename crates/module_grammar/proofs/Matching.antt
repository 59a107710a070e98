-- A word, one byte after the other.
use Rattle.std.proofs.Common.{◌≡◌, ◌==◌, if◌then◌else◌, ℕ, zero, suc, ◌+◌, ◌<◌, ◌≤◌, List, ◌∷◌, length, drop, get_or, Ok, Err, sym, ap, ◌∙◌, subst, arith, eq-eqb, ne_eqb, drop_of_length-le}
use Rattle.std.proofs.Math.Seq.{drop-cons}
use Rattle.module_grammar.specs.declared.reach.Reach.{Reach}
use Rattle.module_grammar.specs.declared.reach.Stop.TheVariants as stop
use Rattle.module_grammar.specs.Reading.{Answer, Found, Fails, later, word_at, one_byte_more}
use Rattle.module_grammar.specs.Reached.{reach, reached, reading}

-- behind so many bytes of a word
abbrev more_bytes : ℕ → Answer (Unit {0}) → Answer (Unit {0})
more_bytes zero r = r
more_bytes (suc n) r = more_bytes n (one_byte_more r)

pub record Matches (text bytes : List ℕ) (s : Reach) (n : ℕ) : Type 0 where
  pub same : word_at text s.at (drop s.at bytes) ≡ more_bytes n (word_at (drop n text) s.at (drop (s.at + n) bytes))
  pub text_left : n ≤ length text
  pub bytes_left : s.at + n ≤ length bytes

pub matches_none : (text bytes : List ℕ) (s : Reach) → s.at ≤ length bytes → Matches text bytes s 0
matches_none text bytes s le = record { same = ap (λ k. word_at text s.at (drop k bytes)) (omega arith); text_left = omega arith; bytes_left = omega arith }

next_is : (n place : ℕ) (text bytes : List ℕ) (at : ℕ) → n < length text → at < length bytes → word_at (drop n text) place (drop at bytes) ≡ (if get_or bytes at 0 == get_or text n 0 then one_byte_more (word_at (drop (suc n) text) place (drop (suc at) bytes)) else Fails 0)
next_is n place text bytes at lt there = ap (λ l. word_at l place (drop at bytes)) (drop-cons text n 0 lt) ∙ ap (λ l. word_at (get_or text n 0 ∷ drop (suc n) text) place l) (drop-cons bytes at 0 there)

pub matches_next : (text bytes : List ℕ) (s : Reach) (n : ℕ) → Matches text bytes s n → n < length text → s.at + n < length bytes → get_or bytes (s.at + n) 0 ≡ get_or text n 0 → Matches text bytes s (n + 1)
matches_next text bytes s n h lt there e =
    let k : n + 1 ≡ suc n = omega arith in
    let j : suc (s.at + n) ≡ s.at + suc n = omega arith in
    subst (λ m. Matches text bytes s m) (sym k) (record {
      same = h.same
          ∙ ap (more_bytes n) (next_is n s.at text bytes (s.at + n) lt there
          ∙ ap (λ t. if t then one_byte_more (word_at (drop (suc n) text) s.at (drop (suc (s.at + n)) bytes)) else Fails 0) (eq-eqb (get_or bytes (s.at + n) 0) (get_or text n 0) e)
          ∙ ap (λ m. one_byte_more (word_at (drop (suc n) text) s.at (drop m bytes))) j);
      text_left = omega arith;
      bytes_left = omega arith;
    })

more_found : (n k : ℕ) → more_bytes n (Found tt k k) ≡ Found tt (n + k) (n + k)
more_found zero k = ap (λ m. Found tt m m) (omega arith)
more_found (suc n) k = more_found n (suc k) ∙ ap (λ m. Found tt m m) (omega arith)

more_fails : (n k : ℕ) → more_bytes n (Fails k) ≡ Fails (n + k)
more_fails zero k = ap (λ m. Fails m) (omega arith)
more_fails (suc n) k = more_fails n (suc k) ∙ ap (λ m. Fails m) (omega arith)

abbrev unit_fails : ℕ → Answer (Unit {0})
unit_fails n = Fails n

pub matches_all : (text bytes : List ℕ) (s : Reach) (n far : ℕ) → Matches text bytes s n → length text ≤ n → far ≡ later s.far (s.at + n) → reading (word_at text) bytes s ≡ Ok (tt, reach (s.at + n) far)
unfolding reading
matches_all text bytes s n far h le e =
    ap (reached s) (h.same ∙ ap (λ l. more_bytes n (word_at l s.at (drop (s.at + n) bytes))) (drop_of_length-le text le) ∙ more_found n 0)
    ∙ ap (λ k. Ok (tt, reach (s.at + k) (later s.far (s.at + k)))) (omega arith)
    ∙ ap (λ k. Ok (tt, reach (s.at + n) k)) (sym e)

fails_here : (text bytes : List ℕ) (s : Reach) (n far : ℕ) → Matches text bytes s n → far ≡ later s.far (s.at + n) → word_at (drop n text) s.at (drop (s.at + n) bytes) ≡ unit_fails 0 → reading (word_at text) bytes s ≡ Err (stop.Fails far)
unfolding reading
fails_here text bytes s n far h e f =
    ap (reached s) (h.same ∙ ap (more_bytes n) f ∙ more_fails n 0)
    ∙ ap (λ k. Err (stop.Fails (later s.far (s.at + k)))) (omega arith)
    ∙ ap (λ k. Err (stop.Fails k)) (sym e)

pub matches_end : (text bytes : List ℕ) (s : Reach) (n far : ℕ) → Matches text bytes s n → n < length text → s.at + n ≡ length bytes → far ≡ later s.far (s.at + n) → reading (word_at text) bytes s ≡ Err (stop.Fails far)
matches_end text bytes s n far h lt end e =
    fails_here text bytes s n far h e
    (ap (λ l. word_at l s.at (drop (s.at + n) bytes)) (drop-cons text n 0 lt) ∙ ap (word_at (get_or text n 0 ∷ drop (suc n) text) s.at) (drop_of_length-le bytes (omega arith)))

pub matches_other : (text bytes : List ℕ) (s : Reach) (n far : ℕ) → Matches text bytes s n → n < length text → s.at + n < length bytes → (get_or bytes (s.at + n) 0 ≡ get_or text n 0 → ⊥) → far ≡ later s.far (s.at + n) → reading (word_at text) bytes s ≡ Err (stop.Fails far)
matches_other text bytes s n far h lt there ne e =
    fails_here text bytes s n far h e
    (next_is n s.at text bytes (s.at + n) lt there ∙ ap (λ t. if t then one_byte_more (word_at (drop (suc n) text) s.at (drop (suc (s.at + n)) bytes)) else Fails 0) (ne_eqb (get_or bytes (s.at + n) 0) (get_or text n 0) ne))
