-- Where a word is not read, and so nothing that begins with it.
use Rattle.std.proofs.Common.{◌≡◌, ◌==◌, if◌then◌else◌, Bool, true, false, List, [], ◌∷◌, ◌++◌, drop, length, sym, ap, ◌∙◌, subst, drop_at, ℕ, ◌+◌, ◌<◌, arith, Option, None}
use Rattle.module_grammar.specs.Reading.{Answer, Found, Fails, Deep, Reader, word_at, one_byte_more, behind, go_on, then_at, or_else, or_at, answer_map, as_at, behind_at, before_at}
use Rattle.module_grammar.specs.Shapes.{Sunk, IsFailed, IsUnread}
use Rattle.module_grammar.specs.Laws.{Law, Again}
use Rattle.module_grammar.proofs.Steps.{none_some}

failed_more : (r : Answer (Unit {0})) → IsFailed (one_byte_more r) → IsFailed r
failed_more (Found x size n) h = h
failed_more (Fails n) h = h
failed_more (Deep at n) h = h

more_failed : (r : Answer (Unit {0})) → IsFailed r → IsFailed (one_byte_more r)
more_failed (Found x size n) h = h
more_failed (Fails n) h = h
more_failed (Deep at n) h = h

-- then no longer word is either
pub longer_fails : (word more : List ℕ) (place : ℕ) (bs : List ℕ) → IsFailed (word_at word place bs) → IsFailed (word_at (word ++ more) place bs)
longer_fails [] more place bs h = absurd h
longer_fails (a ∷ word) more place [] h = h
longer_fails (a ∷ word) more place (b ∷ bs) h = cases (longer_fails word more place bs) (b == a) h
  where
    cases : (IsFailed (word_at word place bs) → IsFailed (word_at (word ++ more) place bs)) → (t : Bool) → IsFailed (if t then one_byte_more (word_at word place bs) else Fails 0) → IsFailed (if t then one_byte_more (word_at (word ++ more) place bs) else Fails 0)
    cases g true k = more_failed (word_at (word ++ more) place bs) (g (failed_more (word_at word place bs) k))
    cases g false k = k

failed_on : {A B : Type 0} (next : A → Reader B) (place : ℕ) (bs : List ℕ) (r : Answer A) → IsFailed r → IsFailed (go_on next place bs r)
failed_on next place bs (Found x size n) h = absurd h
failed_on next place bs (Fails n) h = h
failed_on next place bs (Deep at n) h = absurd h

pub then_fails : {A B : Type 0} (first : Reader A) (next : A → Reader B) (place : ℕ) (bs : List ℕ) → IsFailed (first place bs) → IsFailed (then_at first next place bs)
then_fails first next place bs h = failed_on next place bs (first place bs) h

failed_map : {A B : Type 0} (f : A → B) (r : Answer A) → IsFailed r → IsFailed (answer_map f r)
failed_map f (Found a size n) h = h
failed_map f (Fails n) h = h
failed_map f (Deep at n) h = h

pub as_fails : {A B : Type 0} (to : ℕ → A → B) (read : Reader A) (place : ℕ) (bs : List ℕ) → IsFailed (read place bs) → IsFailed (as_at to read place bs)
as_fails to read place bs h = failed_map (to place) (read place bs) h

pub behind_fails : {A : Type 0} (word : List ℕ) (read : Reader A) (place : ℕ) (bs : List ℕ) → IsFailed (word_at word place bs) → IsFailed (behind_at word read place bs)
behind_fails word read place bs h = as_fails (λ place x. x.1) (then_at (word_at word) (λ x. read)) place bs (then_fails (word_at word) (λ x. read) place bs h)

pub before_fails : {A : Type 0} (read : Reader A) (word : List ℕ) (place : ℕ) (bs : List ℕ) → IsFailed (read place bs) → IsFailed (before_at read word place bs)
before_fails read word place bs h = as_fails (λ place x. x.0) (then_at read (λ x. word_at word)) place bs (then_fails read (λ x. word_at word) place bs h)

both_failed : {A B : Type 0} (q : Answer B) (r : Answer A) → IsFailed r → IsFailed q → IsFailed (or_else q r)
both_failed q (Found a size n) h k = h
both_failed (Found b size m) (Fails n) h k = k
both_failed (Fails m) (Fails n) h k = k
both_failed (Deep at m) (Fails n) h k = k
both_failed q (Deep at n) h k = h

pub or_fails : {A B : Type 0} (first : Reader A) (second : Reader B) (place : ℕ) (bs : List ℕ) → IsFailed (first place bs) → IsFailed (second place bs) → IsFailed (or_at first second place bs)
or_fails first second place bs h k = both_failed (second place bs) (first place bs) h k

-- at another first byte
pub word_fails : (a : ℕ) (word : List ℕ) (place b : ℕ) (bs : List ℕ) → (b == a) ≡ false → IsFailed (word_at (a ∷ word) place (b ∷ bs))
word_fails a word place b bs e = subst (λ t. IsFailed (if t then one_byte_more (word_at word place bs) else Fails 0)) (sym e) tt

pub other_first : {A : Type 0} (b a : ℕ) (word : List ℕ) (read : Reader A) (place : ℕ) (bs : List ℕ) → (b == a) ≡ false → IsFailed (behind_at (a ∷ word) read place (b ∷ bs))
other_first b a word read place bs e = behind_fails (a ∷ word) read place (b ∷ bs) (word_fails a word place b bs e)

-- a text that is followed by another word
pub stuck_behind : {A : Type 0} {Fine : ℕ → A → Type 0} {deep : A → Option Sunk} {write : A → List ℕ} {Follow : List ℕ → Type 0} {read : Reader A} (word : List ℕ) → Law Fine deep write Follow read → ((a : A) → deep a ≡ None)
    → (place : ℕ) (a : A) (rest : List ℕ) → Fine place a → Follow rest → IsUnread (word_at word) rest → IsFailed (before_at read word place (write a ++ rest))
stuck_behind {A = A} {Fine = Fine} {deep = deep} {write = write} {read = read} word law none place a rest f w h = as_fails (λ place x. x.0) (then_at read (λ x. word_at word)) place (write a ++ rest) (cases (read place (write a ++ rest)) (law.again place a rest f w))
  where
    failed_behind : (b : A) (size n : ℕ) (r : Answer (Unit {0})) → IsFailed r → IsFailed (behind b size n r)
    failed_behind b size n (Found x more m) g = g
    failed_behind b size n (Fails m) g = g
    failed_behind b size n (Deep at m) g = g

    cases : (r : Answer A) → Again Fine deep write a r → IsFailed (go_on (λ x. word_at word) place (write a ++ rest) r)
    cases (Found b size n) t = failed_behind b size n (word_at word (place + size) (drop size (write a ++ rest))) (subst (λ l. IsFailed (word_at word (place + size) l)) (sym (drop_at (write a) rest size (sym t.1))) (h (place + size)))
    cases (Fails n) t = absurd t
    cases (Deep at n) t = none_some t.0 (sym (none a) ∙ t.1)

-- the first byte of a front
pub first_of_front : (b : ℕ) (l q m : List ℕ) → (b ∷ l) ≡ q ++ m → 0 < length q → (r : List ℕ) × (q ≡ b ∷ r) × (l ≡ r ++ m)
first_of_front b l [] m e lt = absurd (omega (arith, lt))
first_of_front b l (c ∷ q) m e lt = (q, ap (λ k. k ∷ q) (sym (ap head e)), ap rest e)
  where
    head : List ℕ → ℕ
    head [] = 0
    head (c ∷ cs) = c

    rest : List ℕ → List ℕ
    rest [] = []
    rest (c ∷ cs) = cs
