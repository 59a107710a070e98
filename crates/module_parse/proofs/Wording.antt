-- Words and single bytes.
use Rattle.std.proofs.Common.{◌≡◌, ◌==◌, if◌then◌else◌, ℕ, suc, ◌+◌, ◌<◌, ◌≤◌, Bool, true, false, List, [], ◌∷◌, length, get_or, drop, Result, Ok, Err, refl, sym, ap, ◌∙◌, arith}
use Rattle.module_grammar.specs.declared.reach.Reach.{Reach}
use Rattle.module_grammar.specs.declared.reach.Stop.{Stop}
use Rattle.module_grammar.specs.declared.reach.Stop.TheVariants as stop
use Rattle.module_grammar.specs.Reading.{Answer, Found, Fails, Deep, Reader, later, one_byte_more, word_at, byte_at}
use Rattle.module_grammar.specs.Reached.{reach, reached, reading, Passes, PassesWithin}
use Rattle.module_parse.specs.Reads.{IsRead, IsStopped, ReadsWord, ReadsByte, PassesWord}
use Rattle.module_parse.proofs.Spanning.{byte_here, no_byte_here, no_byte_left}
use Rattle.module_parse.proofs.Chaining.{no_memory}

pub word_reads : (word bytes : List ℕ) (s : Reach) (r : Result Reach Stop) → Passes r (reading (word_at word) bytes s) → ReadsWord word bytes s r
word_reads word bytes s (Ok q) h = record { is = h }
word_reads word bytes s (Err (stop.Fails far)) h = record { is = h }
word_reads word bytes s (Err (stop.Deep at far)) h = record { is = h }
word_reads word bytes s (Err stop.Memory) h = no_memory

no_find : {A : Type 0} (a : A) (k size n : ℕ) → Fails k ≡ Found a size n → ⊥
no_find a k size n e = cc

no_deep : {A : Type 0} (a : A) (at k size n : ℕ) → Deep at k ≡ Found a size n → ⊥
no_deep a at k size n e = cc

found_size : (x y : Unit {0}) (k m size n : ℕ) → Found x k m ≡ Found y size n → k ≡ size
found_size x y k m size n e = cc

word_size : (word : List ℕ) (place : ℕ) (bs : List ℕ) (x : Unit {0}) (size n : ℕ) → word_at word place bs ≡ Found x size n → size ≡ length word
word_size [] place bs x size n e = sym (found_size tt x 0 0 size n e)
word_size (a ∷ word) place [] x size n e = absurd (no_find x 0 size n e)
word_size (a ∷ word) place (b ∷ bs) x size n e = by (b == a) (word_at word place bs) refl e (λ y k m. word_size word place bs y k m)
  where
    by : (t : Bool) (r : Answer (Unit {0})) → word_at word place bs ≡ r → (if t then one_byte_more r else Fails 0) ≡ Found x size n → ((y : Unit {0}) (k m : ℕ) → word_at word place bs ≡ Found y k m → k ≡ length word) → size ≡ suc (length word)
    by true (Found y k m) f g is = sym (found_size y x (suc k) (suc m) size n g) ∙ ap suc (is y k m f)
    by true (Fails k) f g is = absurd (no_find x (suc k) size n g)
    by true (Deep at k) f g is = absurd (no_deep x (suc at) (suc k) size n g)
    by false r f g is = absurd (no_find x 0 size n g)

reach_of : Reach → Result (Unit {0} × Reach) Stop → Reach
reach_of other (Ok x) = x.1
reach_of other (Err e) = other

no_reach : (e : Stop) (x : Unit {0} × Reach) → Err e ≡ Ok x → ⊥
no_reach e x h = cc

abbrev found_at : Unit {0} → Reach → Result (Unit {0} × Reach) Stop
found_at x q = Ok (x, q)

at_of : (x y : Unit {0}) (p q : Reach) → found_at x p ≡ found_at y q → p.at ≡ q.at
unfolding reach_of
at_of x y p q h = ap (λ r. (reach_of p r).at) h

word_moves : (word bytes : List ℕ) (s q : Reach) → reading (word_at word) bytes s ≡ Ok (tt, q) → q.at ≡ s.at + length word
unfolding reading
word_moves word bytes s q h = by (word_at word s.at (drop s.at bytes)) refl h
  where
    by : (r : Answer (Unit {0})) → word_at word s.at (drop s.at bytes) ≡ r → reached s r ≡ Ok (tt, q) → q.at ≡ s.at + length word
    by (Found x size n) e g = sym (at_of x tt (reach (s.at + size) (later s.far (s.at + n))) q g) ∙ ap (λ k. s.at + k) (word_size word s.at (drop s.at bytes) x size n e)
    by (Fails n) e g = absurd (no_reach (stop.Fails (later s.far (s.at + n))) (tt, q) g)
    by (Deep at n) e g = absurd (no_reach (stop.Deep (s.at + at) (later s.far (s.at + n))) (tt, q) g)

pub word_passes : (word bytes : List ℕ) (n : ℕ) (s : Reach) (r : Result Reach Stop) → Passes r (reading (word_at word) bytes s) → PassesWithin n r → PassesWord (length word) n s r
word_passes word bytes n s (Ok q) h le = (word_moves word bytes s q h, le)
word_passes word bytes n s (Err e) h le = tt

-- ---- a byte

pub byte_read : (p : ℕ → Bool) (bytes : List ℕ) (s : Reach) (at far : ℕ) → s.at < length bytes → p (get_or bytes s.at 0) ≡ true → at ≡ s.at + 1 → far ≡ later s.far at → IsRead (byte_at p) bytes s (get_or bytes s.at 0) (reach at far)
byte_read p bytes s at far lt t e f = record {
  is = byte_here p bytes s.at s.far lt t
      ∙ ap (λ k. Ok (get_or bytes s.at 0, reach k (later s.far k))) (sym e)
      ∙ ap (λ k. Ok (get_or bytes s.at 0, reach at k)) (sym f);
}

pub byte_stops : (p : ℕ → Bool) (bytes : List ℕ) (s : Reach) (far : ℕ) → s.at < length bytes → p (get_or bytes s.at 0) ≡ false → far ≡ later s.far s.at → IsStopped (byte_at p) bytes s (stop.Fails far)
byte_stops p bytes s far lt t f = record { is = no_byte_here p bytes s.at s.far lt t ∙ ap (λ k. Err (stop.Fails k)) (omega (arith, f)) }

pub byte_ends : (p : ℕ → Bool) (bytes : List ℕ) (s : Reach) (far : ℕ) → length bytes ≤ s.at → far ≡ later s.far s.at → IsStopped (byte_at p) bytes s (stop.Fails far)
byte_ends p bytes s far le f = record { is = no_byte_left p bytes s.at s.far le ∙ ap (λ k. Err (stop.Fails k)) (omega (arith, f)) }
