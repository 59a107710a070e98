-- Words one behind the other, and new lines.
use Rattle.std.proofs.Common.{◌≡◌, ◌==◌, if◌then◌else◌, ℕ, zero, suc, ◌+◌, ◌-◌, ◌<◌, ◌≤◌, Bool, true, false, List, [], ◌∷◌, ◌++◌, length, drop, Result, Ok, Err, refl, sym, ap, subst, ◌∙◌, arith, append_assoc, append-nil, add-one}
use Rattle.std.specs.Prelude.{codes}
use Rattle.module_grammar.specs.declared.reach.Reach.{Reach}
use Rattle.module_grammar.specs.declared.reach.Stop.{Stop}
use Rattle.module_grammar.specs.declared.reach.Stop.TheVariants as stop
use Rattle.module_grammar.specs.Reading.{Answer, Found, Fails, Deep, Reader, later, one_byte_more, word_at, behind, go_on, then_at, as_at, answer_map}
use Rattle.module_grammar.specs.Reached.{reach, reached, reading}
use Rattle.module_print.specs.Notation.{indent, new_line}
use Rattle.module_parse.specs.Reads.{IsRead, IsStopped, ReadsWord}
use Rattle.module_parse.proofs.Chaining.{as_read, as_stops, then_read, then_stops, then_next_stops, no_memory}

-- ---- a word behind a word

word_place : (word : List ℕ) (p q : ℕ) (bs : List ℕ) → word_at word p bs ≡ word_at word q bs
word_place [] p q bs = refl
word_place (a ∷ word) p q [] = refl
word_place (a ∷ word) p q (b ∷ bs) = ap (λ r. if b == a then one_byte_more r else Fails 0) (word_place word p q bs)

abbrev no_more : ℕ → Unit {0} × Unit {0} → Unit {0}
no_more place x = tt

abbrev joined : List ℕ → List ℕ → ℕ → List ℕ → Answer (Unit {0})
joined a b place bs = answer_map (no_more place) (go_on (λ x. word_at b) place bs (word_at a place bs))

behind_none : (place : ℕ) (r : Answer (Unit {0})) → r ≡ answer_map (no_more place) (behind tt 0 0 r)
behind_none place (Found x k n) = ap (λ m. Found tt k m) (omega arith) ∙ ap (λ m. Found tt m (later 0 (0 + n))) (omega arith)
behind_none place (Fails n) = ap (λ m. Fails m) (omega arith)
behind_none place (Deep at n) = ap (λ m. Deep m n) (omega arith) ∙ ap (λ m. Deep (0 + at) m) (omega arith)

one_behind : (place next : ℕ) (x : Unit {0}) (k n : ℕ) (r : Answer (Unit {0})) → one_byte_more (answer_map (no_more place) (behind x k n r)) ≡ answer_map (no_more next) (behind x (suc k) (suc n) r)
one_behind place next x k n (Found y more m) = ap (λ i. Found tt i (suc (later n (k + m)))) (omega arith) ∙ ap (λ i. Found tt (suc k + more) i) (omega arith)
one_behind place next x k n (Fails m) = ap (λ i. Fails i) (omega arith)
one_behind place next x k n (Deep at m) = ap (λ i. Deep i (suc (later n (k + m)))) (omega arith) ∙ ap (λ i. Deep (suc k + at) i) (omega arith)

one_joined : (b : List ℕ) (place next c : ℕ) (bs : List ℕ) (r : Answer (Unit {0})) → one_byte_more (answer_map (no_more place) (go_on (λ x. word_at b) place bs r)) ≡ answer_map (no_more next) (go_on (λ x. word_at b) next (c ∷ bs) (one_byte_more r))
one_joined b place next c bs (Found x k n) =
    ap (λ r. one_byte_more (answer_map (no_more place) (behind x k n r))) (word_place b (place + k) (next + suc k) (drop k bs))
    ∙ one_behind place next x k n (word_at b (next + suc k) (drop k bs))
one_joined b place next c bs (Fails n) = refl
one_joined b place next c bs (Deep at n) = refl

append_at : (a b : List ℕ) (place : ℕ) (bs : List ℕ) → word_at (a ++ b) place bs ≡ joined a b place bs
append_at [] b place bs =
    behind_none place (word_at b place bs)
    ∙ ap (λ r. answer_map (no_more place) (behind tt 0 0 r)) (word_place b place (place + 0) bs)
append_at (c ∷ a) b place [] = refl
append_at (c ∷ a) b place (d ∷ bs) = by (d == c) (append_at a b place bs)
  where
    by : (t : Bool) → word_at (a ++ b) place bs ≡ joined a b place bs → (if t then one_byte_more (word_at (a ++ b) place bs) else Fails 0) ≡ answer_map (no_more place) (go_on (λ x. word_at b) place (d ∷ bs) (if t then one_byte_more (word_at a place bs) else Fails 0))
    by true e = ap (λ r. one_byte_more r) e ∙ one_joined b place place d bs (word_at a place bs)
    by false e = refl

abbrev both_at : List ℕ → List ℕ → Reader (Unit {0})
both_at a b = as_at no_more (then_at (word_at a) (λ x. word_at b))

reading_both : (a b bytes : List ℕ) (s : Reach) → reading (word_at (a ++ b)) bytes s ≡ reading (both_at a b) bytes s
unfolding reading
reading_both a b bytes s = ap (λ r. reached s r) (append_at a b s.at (drop s.at bytes))

pub append_read : (a b : List ℕ) {bytes : List ℕ} {s q t : Reach} → IsRead (word_at a) bytes s tt q → IsRead (word_at b) bytes q tt t → IsRead (word_at (a ++ b)) bytes s tt t
append_read a b {bytes} {s} {q} {t} h g = record { is = reading_both a b bytes s ∙ (as_read no_more (then_read (λ x. word_at b) h g)).is }

same_stop : (read other : Reader (Unit {0})) (bytes : List ℕ) (s : Reach) (e : Stop) → reading read bytes s ≡ reading other bytes s → IsStopped other bytes s e → IsStopped read bytes s e
same_stop read other bytes s (stop.Fails far) h g = record { is = h ∙ g.is }
same_stop read other bytes s (stop.Deep at far) h g = record { is = h ∙ g.is }
same_stop read other bytes s stop.Memory h g = no_memory

pub append_stops : (a b : List ℕ) {bytes : List ℕ} {s : Reach} {e : Stop} → IsStopped (word_at a) bytes s e → IsStopped (word_at (a ++ b)) bytes s e
append_stops a b {bytes} {s} {e} h = same_stop (word_at (a ++ b)) (both_at a b) bytes s e (reading_both a b bytes s) (as_stops no_more (then_stops (λ x. word_at b) h))

pub append_next_stops : (a b : List ℕ) {bytes : List ℕ} {s q : Reach} {e : Stop} → IsRead (word_at a) bytes s tt q → IsStopped (word_at b) bytes q e → IsStopped (word_at (a ++ b)) bytes s e
append_next_stops a b {bytes} {s} {q} {e} h g = same_stop (word_at (a ++ b)) (both_at a b) bytes s e (reading_both a b bytes s) (as_stops no_more (then_next_stops (λ x. word_at b) h g))

pub append_reads : (a b bytes : List ℕ) (s q : Reach) (r : Result Reach Stop) → IsRead (word_at a) bytes s tt q → ReadsWord b bytes q r → ReadsWord (a ++ b) bytes s r
append_reads a b bytes s q (Ok t) h g = append_read a b h g
append_reads a b bytes s q (Err e) h g = append_next_stops a b h g

-- ---- lines

indent_add : (m n : ℕ) → indent (m + n) ≡ indent m ++ indent n
indent_add zero n = ap (λ k. indent k) (omega arith)
indent_add (suc m) n = let e : suc m + n ≡ suc (m + n) = omega arith in ap (λ k. indent k) e ∙ ap (λ l. codes "    " ++ l) (indent_add m n)

indent_one : (k : ℕ) → k ≡ 1 → indent k ≡ codes "    "
indent_one k e = ap (λ n. indent n) e

pub line_begun : {bytes : List ℕ} {s q : Reach} → IsRead (word_at (10 ∷ [])) bytes s tt q → IsRead (word_at (new_line 0)) bytes s tt q
line_begun h = h

pub line_next : (done more : ℕ) {bytes : List ℕ} {s q t : Reach} → IsRead (word_at (new_line done)) bytes s tt q → IsRead (word_at (codes "    ")) bytes q tt t → more ≡ done + 1 → IsRead (word_at (new_line more)) bytes s tt t
line_next done more {bytes} {s} {q} {t} h g e =
    subst (λ l. IsRead (word_at (10 ∷ l)) bytes s tt t)
    (ap (λ l. indent done ++ l) (sym (indent_one 1 refl)) ∙ sym (indent_add done 1) ∙ ap (λ k. indent k) (sym e))
    (append_read (new_line done) (codes "    ") h g)

pub line_stops : (done levels : ℕ) {bytes : List ℕ} {s q : Reach} {e : Stop} → IsRead (word_at (new_line done)) bytes s tt q → IsStopped (word_at (codes "    ")) bytes q e → done < levels → IsStopped (word_at (new_line levels)) bytes s e
line_stops done levels {bytes} {s} {q} {e} h g lt =
    let all : (done + 1) + (levels - (done + 1)) ≡ levels = omega (arith, lt) in
    subst (λ l. IsStopped (word_at (10 ∷ l)) bytes s e)
    (ap (λ l. (indent done ++ l) ++ indent (levels - (done + 1))) (sym (indent_one 1 refl))
    ∙ ap (λ l. l ++ indent (levels - (done + 1))) (sym (indent_add done 1))
    ∙ sym (indent_add (done + 1) (levels - (done + 1)))
    ∙ ap (λ k. indent k) all)
    (append_stops (new_line done ++ codes "    ") (indent (levels - (done + 1))) (append_next_stops (new_line done) (codes "    ") h g))

pub line_none_stops : (levels : ℕ) {bytes : List ℕ} {s : Reach} {e : Stop} → IsStopped (word_at (10 ∷ [])) bytes s e → IsStopped (word_at (new_line levels)) bytes s e
line_none_stops levels h = append_stops (10 ∷ []) (indent levels) h
